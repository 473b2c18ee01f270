-- The bound raised by every cell is the bound of the values: the tests of the values pass at a period exactly from it up. Columns, sets and
-- followers as they are lent become the table's here.
-- Assumes nothing.
use Rattle.std.specs.Prelude.{ℕ, suc, ◌+◌, ◌*◌, ◌<◌, ◌≤◌, ◌≡◌, true, List, ◌↔◌, get_or}
use Rattle.std.proofs.Math.Path.{refl, ap, subst, subst⁻¹}
use Rattle.std.proofs.Common.{sym, ◌∙◌, mul-le-mul_left, arith}
use Rattle.std.proofs.Math.Decide.{dec_lt}
use Rattle.std.specs.Int.Bits.{bit_and}
use Rattle.rules.specs.Sets.{In, shares}
use Rattle.rules.specs.Table.{Op, Table, nops, op, end_of, Accepted}
use Rattle.theory.specs.Tests.{via, writers, last_in, fresh_in, value_bad, values_fine}
use Rattle.theory.proofs.Says.{Says, says_itself, says_by, says_ltb, says_and, says_not, says_all}
use Rattle.theory.proofs.Sets.{in_none}
use Rattle.columns.specs.Columns.{op_by, Columns, Short}
use Rattle.turns.specs.Turns.{TurnsOf}
use Rattle.cells.specs.Cells.{Turned, ended_in, last_of, fresh_of}
use Rattle.columns.specs.ColumnLaws.{op_there_lem}
use Rattle.columns.specs.declared.Dated.{Dated}
use Rattle.cells.specs.WriteLaws.{ended_writers, ended_last, ended_fresh}
use Rattle.arrivals.specs.Arrivals.{Each}
use Rattle.raises.specs.Raises.{Raised, InTime}
use Rattle.raises.specs.RaiseLaws.{raised_up, raised_to, raised_not, in_time_late}
use Rattle.values.specs.Bounds.{IsBound, TurnsFine, WriterFine, CellFine}

-- ---- the same in other words

-- a reader's fresh modes matter for the readers alone
pub turns_same : (F : List ℕ) (cols : List Dated) (readers : ℕ) (f g : ℕ → ℕ) → ((j : ℕ) → In j readers → f j ≡ g j) → (w end n modes q : ℕ)
    → TurnsFine F cols readers f w end n modes q ↔ TurnsFine F cols readers g w end n modes q
unfolding TurnsFine
turns_same F cols readers f g h w end n modes q = (
  λ x m j l e. x m j l (ap (shares (via F w m modes)) (h j l) ∙ e),
  λ x m j l e. x m j l (sym (ap (shares (via F w m modes)) (h j l)) ∙ e),
)

-- ---- nobody to ask for

pub no_writers : (F : List ℕ) (cols : List Dated) (R r b : ℕ) → Raised b (CellFine F cols R 0 r) b
no_writers F cols R r b = raised_not b (λ q h i x. absurd (in_none i x))

-- ---- at 1000 every value is in time

pub writer_late : (F : List ℕ) (cols : List Dated) → Short cols → (R w r i : ℕ) → i < 32 → WriterFine F cols R w r i 1000
unfolding WriterFine TurnsFine
writer_late F cols short R w r i h m j l e = in_time_late (end_of (op_by cols i)) (op_by cols j).start (0 + m) 1000 (short.ends i h)

pub cell_late : (F : List ℕ) (cols : List Dated) (W : List ℕ) → Short cols → Turned (λ k. (op_by cols k).writes) W → (R r c : ℕ) → c < 32 → CellFine F cols R (get_or W c 0) r 1000
cell_late F cols W short writes R r c small i wi = writer_late F cols short R (get_or W c 0) r i ((writes.each c i small).0 wi).0

-- ---- a cell of a table

-- the value that i writes into c has come to the modes, n + 1 cycles later
abbrev carried_to : Table → ℕ → ℕ → ℕ → ℕ → ℕ
carried_to T R n c i = via T.follow (writers T c) n (bit_and R (last_in T c i))

module _ (T : Table) (R q : ℕ) where
  -- every value of c is in time for each that reads it
  abbrev CellOf : ℕ → Type 0
  CellOf c =
      (i : ℕ) → i < nops T → In c (op T i).writes → (n j : ℕ) → j < nops T → In c (op T j).reads → shares (carried_to T R n c i) (fresh_in T c j) ≡ true
      → InTime (end_of (op T i)) (op T j).start n q

  abbrev Bad : ℕ → ℕ → ℕ → ℕ → Type 0
  Bad n c i j =
      (suc n * q < T.len)
      × (In c (op T i).writes
      × (In c (op T j).reads × (((op T j).start + suc n * q < end_of (op T i)) × (shares (carried_to T R n c i) (fresh_in T c j) ≡ true))))

  says_bad : (n c i j : ℕ) → Says (value_bad T R q n c i j) (Bad n c i j)
  unfolding value_bad
  says_bad n c i j =
      says_and _ _ (says_ltb _ _) (says_and _ _ says_itself (says_and _ _ says_itself (says_and _ _ (says_ltb _ _) says_itself)))

  abbrev NoneBad : Type 0
  NoneBad = (n : ℕ) → n < T.len → (c : ℕ) → c < T.cells → (i : ℕ) → i < nops T → (j : ℕ) → j < nops T → Bad n c i j → ⊥

  says_none : Says (values_fine T R q) NoneBad
  unfolding values_fine
  says_none = says_all _ _ (λ n _. says_all _ _ (λ c _. says_all _ _ (λ i _. says_all _ _ (λ j _. says_not _ (says_bad n c i j)))))

  fine_none : ((c : ℕ) → c < T.cells → CellOf c) → NoneBad
  fine_none x n h c hc i hi j hj (near, (w, (r, (late, s)))) = omega (arith, x c hc i hi w n j hj r s)

  module _ (ok : Accepted T) (low : 1 ≤ q) where
    none_fine : NoneBad → (c : ℕ) → c < T.cells → CellOf c
    none_fine x c hc i hi w n j hj r s = go (dec_lt ((op T j).start + suc n * q) (end_of (op T i)))
      where
        go : Dec ((op T j).start + suc n * q < end_of (op T i)) → InTime (end_of (op T i)) (op T j).start n q
        go (no l) = omega arith
        go (yes l) =
            let near : suc n * q < T.len = omega (arith, (ok.each i hi).fits) in
            absurd (x n (omega (arith, mul-le-mul_left (suc n) low)) c hc i hi j hj (near, (w, (r, (l, s)))))

    says_fine : Says (values_fine T R q) ((c : ℕ) → c < T.cells → CellOf c)
    says_fine = says_by says_none none_fine fine_none

-- ---- a cell as it is asked for: by columns, by the sets of its writers and readers, by the followers as they are lent

module _ (T : Table) (ok : Accepted T) (F : List ℕ) (turns : TurnsOf T F) (cols : List Dated) (C : Columns T cols)
    (W : List ℕ) (writes : Turned (λ k. (op_by cols k).writes) W) (D : List ℕ) (reads : Turned (λ k. (op_by cols k).reads) D) (R : ℕ) where
  abbrev pub CellBy : ℕ → ℕ → Type 0
  CellBy c = CellFine F cols R (get_or W c 0) (get_or D c 0)

  module _ (c : ℕ) (small : c < 32) where
    same_modes : (n i j : ℕ) → i < 32 → j < 32
        → shares (via F (ended_in cols (get_or W c 0) 0 1000) n (bit_and R (last_of cols (get_or W c 0) i))) (fresh_of cols (get_or W c 0) j)
        ≡ shares (carried_to T R n c i) (fresh_in T c j)
    same_modes n i j hi hj =
        rw (
          ended_writers T ok C c (get_or W c 0) (λ k. writes.each c k small),
          ended_last T ok C c (get_or W c 0) (λ k. writes.each c k small) i hi,
          ended_fresh T ok C c (get_or W c 0) (λ k. writes.each c k small) j hj,
          turns (writers T c) n (bit_and R (last_in T c i)),
        )

    by_of : (q : ℕ) → CellBy c q → CellOf T R q c
    unfolding WriterFine TurnsFine
    by_of q x i hi w n j hj r s =
        let li : i < 32 = omega (arith, ok.ops_high) in
        let lj : j < 32 = omega (arith, ok.ops_high) in
        let wi = (writes.each c i small).1 (li, subst⁻¹ (λ (o : Op). In c o.writes) (C.each i li) w) in
        let rj = (reads.each c j small).1 (lj, subst⁻¹ (λ (o : Op). In c o.reads) (C.each j lj) r) in
        omega (arith, x i wi n j rj (same_modes n i j li lj ∙ s), ap end_of (C.each i li), ap (λ (o : Op). o.start) (C.each j lj))

    of_by : (q : ℕ) → CellOf T R q c → CellBy c q
    unfolding WriterFine TurnsFine
    of_by q x i wi n j rj s =
        let (li, w) = (writes.each c i small).0 wi in
        let (lj, r) = (reads.each c j small).0 rj in
        let v = subst (λ (o : Op). In c o.writes) (C.each i li) w in
        let u = subst (λ (o : Op). In c o.reads) (C.each j lj) r in
        omega
        (arith, x i (op_there_lem T (λ o. o.writes) refl i c v) v n j (op_there_lem T (λ o. o.reads) refl j c u) u (sym (same_modes n i j li lj) ∙ s), ap end_of (C.each i li), ap (λ (o : Op). o.start) (C.each j lj))

  -- ---- the bound of all the cells

  cell_len : (c : ℕ) → c < 32 → CellBy c T.len
  cell_len c small =
      of_by c small T.len (λ i hi w n j hj r s. in_time_late (end_of (op T i)) (op T j).start n T.len (omega (arith, (ok.each i hi).fits)))

  pub raised_bound : (r : ℕ) → Raised 1 (Each CellBy T.cells) r → IsBound T R r
  raised_bound r x =
      record {
        low = raised_up x;
        high = raised_to x T.len ok.len_low (λ c h. cell_len c (omega (arith, ok.cells_high)));
        exact = λ q l. (
          λ e. raised_to x q l (λ c h. of_by c (omega (arith, ok.cells_high)) q ((says_fine T R q ok l).0 e c h)),
          λ h. (says_fine T R q ok l).1 (λ c m. by_of c (omega (arith, ok.cells_high)) q (((x.exact q).0 h).1 c m)),
        );
      }
