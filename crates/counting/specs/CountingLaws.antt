-- A walk over a set of operations picks those that run in a mode, or counts those that end by a date; and what that is of a table's cell.
-- Assumes nothing.
use Rattle.std.specs.Prelude.{ℕ, zero, suc, ◌+◌, ◌^◌, ◌<◌, ◌≤◌, ◌≡◌, Bool, false, ◌&&◌, List, ◌↔◌, ◌⊎◌, leb}
use Rattle.std.proofs.Math.Path.{refl, subst⁻¹}
use Rattle.std.proofs.Common.{sym, ap, subst, ◌∙◌, inl, inr, arith, le-leb}
use Rattle.std.proofs.Math.Bool.{and-true}
use Rattle.std.proofs.Math.Decide.{dec_lt}
use Rattle.std.specs.Int.Bits.{bit_or}
use Rattle.rules.specs.Sets.{has, In, Within, shares}
use Rattle.rules.specs.Table.{Op, Table, nops, op, end_of, Accepted}
use Rattle.rules.specs.Places.{sum, one, writer}
use Rattle.theory.specs.Tests.{without}
use Rattle.theory.proofs.Order.{Cmp, cmp}
use Rattle.theory.proofs.Says.{Says, says_by, says_itself, says_same, says_false, says_and, says_leb}
use Rattle.theory.proofs.Sets.{in_none, in_without, in_single, says_shares}
use Rattle.lives.specs.Near.{writes_in, ended_in}
use Rattle.lives.proofs.Sums.{sum_same, sum_zero, sum_le, sum_le_count, one_true, one_false, one_le, one_mono}
use Rattle.lives.proofs.Counts.{says_writer}
use Rattle.lives.proofs.Cycles.{ended_in_is}
use Rattle.sets.specs.Members.{Past, past_none, past_all, rest_within, past_more, in_with}
use Rattle.columns.specs.Columns.{op_by, Columns}
use Rattle.columns.specs.ColumnLaws.{op_there_lem}
use Rattle.columns.specs.declared.Dated.{Dated}
use Rattle.counting.specs.Counting.{InMode, ended_of, ReadersOf, WritersOf, ReadersIn, WritersIn}

-- ---- the operations of a set that run in a mode

-- a set meets the one with m alone exactly when m is a member
pub says_meets : (s m : ℕ) → Says (shares s (2 ^ m)) (In m s)
says_meets s m =
    says_by (says_shares s (2 ^ m))
    (λ (k, x, y). subst (λ (j : ℕ). In j s) ((in_single k m).0 y) x)
    (λ x. (m, x, (in_single m m).1 refl))

-- those of the operations that were visited
pub record Picked (cols : List Dated) (ops m left all : ℕ) : Type 0 where
  pub inside : Within left ops
  pub exact : (u : ℕ) → In u all ↔ (Past ops left u × In m (op_by cols u).modes)

pub picked_none : (cols : List Dated) (ops m : ℕ) → Picked cols ops m ops 0
picked_none cols ops m =
    record { inside = λ u h. h; exact = λ u. (λ h. absurd (in_none u h), λ h. absurd (past_none ops u h.0)) }

pub picked_all : {cols : List Dated} {ops m all : ℕ} → Picked cols ops m 0 all → InMode cols ops m all
picked_all {cols} {ops} {m} {all} p =
    record { exact = λ u. (λ h. let (x, y) = (p.exact u).0 h in (x.0, y), λ (x, y). (p.exact u).1 (past_all ops u x, y)) }

module _ {cols : List Dated} {ops m left all : ℕ} (k : ℕ) (here : In k left) (p : Picked cols ops m left all) where
  past : (u : ℕ) → Past ops (without left (2 ^ k)) u ↔ (Past ops left u ⊎ (u ≡ k))
  past = past_more ops left k p.inside here

  -- the next one runs in the mode
  pub picked_with : In m (op_by cols k).modes → Picked cols ops m (without left (2 ^ k)) (bit_or all (2 ^ k))
  picked_with runs =
      record {
        inside = rest_within ops left k p.inside here;
        exact = λ u. (λ h. fwd u ((in_with all k u).0 h), λ (x, y). (in_with all k u).1 (bwd u y ((past u).0 x)));
      }
    where
      fwd : (u : ℕ) → In u all ⊎ (u ≡ k) → Past ops (without left (2 ^ k)) u × In m (op_by cols u).modes
      fwd u (inl h) = let (x, y) = (p.exact u).0 h in ((past u).1 (inl x), y)
      fwd u (inr e) = ((past u).1 (inr e), subst⁻¹ (λ (j : ℕ). In m (op_by cols j).modes) e runs)

      bwd : (u : ℕ) → In m (op_by cols u).modes → Past ops left u ⊎ (u ≡ k) → In u all ⊎ (u ≡ k)
      bwd u y (inl x) = inl ((p.exact u).1 (x, y))
      bwd u y (inr e) = inr e

  -- or not
  pub picked_without : (In m (op_by cols k).modes → ⊥) → Picked cols ops m (without left (2 ^ k)) all
  picked_without rests =
      record {
        inside = rest_within ops left k p.inside here;
        exact = λ u. (λ h. let (x, y) = (p.exact u).0 h in ((past u).1 (inl x), y), λ (x, y). bwd u y ((past u).0 x));
      }
    where
      bwd : (u : ℕ) → In m (op_by cols u).modes → Past ops left u ⊎ (u ≡ k) → In u all
      bwd u y (inl x) = (p.exact u).1 (x, y)
      bwd u y (inr e) = absurd (rests (subst (λ (j : ℕ). In m (op_by cols j).modes) e y))

-- ---- how many of a set pass a test

-- two sums that differ at m alone
sum_but : (f g : ℕ → ℕ) (x m n : ℕ) → m < n → f m ≡ x + g m → ((u : ℕ) → (u ≡ m → ⊥) → f u ≡ g u) → sum f n ≡ x + sum g n
unfolding sum
sum_but f g x m zero h here others = absurd (omega arith)
sum_but f g x m (suc n) h here others = go (cmp m n) (λ l. sum_but f g x m n l here others)
  where
    go : Cmp m n → (m < n → sum f n ≡ x + sum g n) → sum f n + f n ≡ x + (sum g n + g n)
    go (Cmp.less l) i = omega (arith, i l, others n (λ e. omega arith))
    go (Cmp.same e) i =
        omega (arith, sum_same f g n (λ u l. others u (λ d. omega arith)), subst (λ (j : ℕ). f j ≡ x + g j) e here)
    go (Cmp.more l) i = absurd (omega arith)

-- parts that are 0 add nothing
sum_past : (f : ℕ → ℕ) (n k : ℕ) → n ≤ k → ((u : ℕ) → n ≤ u → f u ≡ 0) → sum f k ≡ sum f n
unfolding sum
sum_past f n zero h none = let e : 0 ≡ n = omega arith in ap (sum f) e
sum_past f n (suc k) h none = go (dec_lt k n) (λ l. sum_past f n k l none)
  where
    go : Dec (k < n) → (n ≤ k → sum f k ≡ sum f n) → sum f k + f k ≡ sum f n
    go (yes l) i = let e : suc k ≡ n = omega arith in ap (sum f) e
    go (no l) i = omega (arith, i (omega arith), none k (omega arith))

module _ (f : ℕ → Bool) where
  -- one member more
  count_next : (s m n : ℕ) → m < n → In m s
      → sum (λ u. one (has s u && f u)) n ≡ one (f m) + sum (λ u. one (has (without s (2 ^ m)) u && f u)) n
  count_next s m n h here =
      sum_but (λ u. one (has s u && f u)) (λ u. one (has rest u && f u)) (one (f m)) m n h own (λ u d. ap (λ (b : Bool). one (b && f u)) (other u d))
    where
      rest : ℕ
      rest = without s (2 ^ m)

      other : (u : ℕ) → (u ≡ m → ⊥) → has s u ≡ has rest u
      other u d =
          says_same _ _ says_itself says_itself
          (λ x. (in_without u s (2 ^ m)).1 (x, λ y. d ((in_single u m).0 y)))
          (λ x. ((in_without u s (2 ^ m)).0 x).0)

      gone : has rest m ≡ false
      gone = (says_false _ says_itself).1 (λ x. ((in_without m s (2 ^ m)).0 x).1 ((in_single m m).1 refl))

      own : one (has s m && f m) ≡ one (f m) + one (has rest m && f m)
      own = rw (here, gone) (omega (arith, one_false refl))

-- ---- how many of a set end by a date

module _ (cols : List Dated) where
  -- operation u is of the set, and ends by e
  abbrev ends_by : ℕ → ℕ → ℕ → Bool
  ends_by s e u = has s u && leb (end_of (op_by cols u)) e

  says_ends : (s e u : ℕ) → Says (ends_by s e u) (In u s × (end_of (op_by cols u) ≤ e))
  says_ends s e u = says_and _ _ says_itself (says_leb (end_of (op_by cols u)) e)

  ended_of_is : (s e : ℕ) → ended_of cols s e ≡ sum (λ u. one (ends_by s e u)) 32
  unfolding ended_of
  ended_of_is s e = refl

  pub ended_none : (e : ℕ) → ended_of cols 0 e ≡ 0
  ended_none e =
      ended_of_is 0 e
      ∙ sum_zero (λ u. one (ends_by 0 e u)) 32 (λ u h. one_false ((says_false _ (says_ends 0 e u)).1 (λ x. in_none u x.0)))

  pub ended_few : (s e : ℕ) → ended_of cols s e ≤ 32
  ended_few s e = rw (ended_of_is s e) (sum_le_count (λ u. one (ends_by s e u)) 32 (λ u h. one_le (ends_by s e u)))

  -- no fewer end by a later date
  pub ended_mono : (s d e : ℕ) → d ≤ e → ended_of cols s d ≤ ended_of cols s e
  ended_mono s d e h =
      rw (ended_of_is s d, ended_of_is s e)
      (sum_le (λ u. one (ends_by s d u)) (λ u. one (ends_by s e u)) 32
      (λ u l. one_mono _ _ (λ t. let (x, y) = (says_ends s d u).0 t in (says_ends s e u).1 (x, omega arith))))

  module _ (s m : ℕ) (here : In m s) (small : m < 32) (e : ℕ) where
    ended_next : ended_of cols s e ≡ one (leb (end_of (op_by cols m)) e) + ended_of cols (without s (2 ^ m)) e
    ended_next = rw (ended_of_is s e, ended_of_is (without s (2 ^ m)) e) (count_next (λ u. leb (end_of (op_by cols u)) e) s m 32 small here)

    -- a member that ends by e counts
    pub ended_with_lem : end_of (op_by cols m) ≤ e → ended_of cols s e ≡ suc (ended_of cols (without s (2 ^ m)) e)
    ended_with_lem h = omega (arith, ended_next, one_true ((says_leb (end_of (op_by cols m)) e).1 h))

    -- and one that ends after it does not
    pub ended_without : e < end_of (op_by cols m) → ended_of cols s e ≡ ended_of cols (without s (2 ^ m)) e
    ended_without h = omega (arith, ended_next, one_false ((says_false _ (says_leb (end_of (op_by cols m)) e)).1 (λ l. omega arith)))

  -- a member counts among those that end by its end
  pub ended_own : (s i : ℕ) → In i s → i < 32 → 1 ≤ ended_of cols s (end_of (op_by cols i))
  ended_own s i here small = omega (arith, ended_with_lem s i here small (end_of (op_by cols i)) (omega arith))

-- ---- of a table

module _ {T : Table} {cols : List Dated} {w m v : ℕ} (C : Columns T cols) where
  -- the operations of a set that run in a mode, by the table
  by_table : InMode cols w m v → (u : ℕ) → u < 32 → In u v ↔ (In u w × In m (op T u).modes)
  by_table i u h = subst (λ (o : Op). In u v ↔ (In u w × In m o.modes)) (C.each u h) (i.exact u)

  pub mode_readers : (c : ℕ) → ReadersOf T c w → InMode cols w m v → ReadersIn T c m v
  mode_readers c r i u = (
    λ h. let (l, x) = (r u).0 ((i.exact u).0 h).0 in (l, ((by_table i u l).0 h).1, x),
    λ (l, x, y). (by_table i u l).1 ((r u).1 (l, y), x),
  )

  pub mode_writers : (c : ℕ) → WritersOf T c w → InMode cols w m v → WritersIn T c m v
  mode_writers c r i u = (
    λ h. let (l, x) = (r u).0 ((i.exact u).0 h).0 in (l, ((by_table i u l).0 h).1, x),
    λ (l, x, y). (by_table i u l).1 ((r u).1 (l, y), x),
  )

module _ (T : Table) (ok : Accepted T) (c m : ℕ) where
  -- the writes of a cell in a mode that end by a date, by the columns
  pub ended_is : {cols : List Dated} (v : ℕ) → Columns T cols → WritersIn T c m v → (e : ℕ) → ended_of cols v e ≡ ended_in T c m e
  ended_is {cols} v C W e =
      ended_of_is cols v e
      ∙ sum_past (λ u. one (ends_by cols v e u)) (nops T) 32 ok.ops_high (λ u h. one_false ((says_false _ (says_ends cols v e u)).1 (λ x. past u h x.0)))
      ∙ sum_same (λ u. one (ends_by cols v e u)) (λ u. one (writer T c m u && leb (end_of (op T u)) e)) (nops T) (λ u h. ap one (same u h))
      ∙ sym (ended_in_is T c m e)
    where
      -- past the operations nothing is written
      past : (u : ℕ) → nops T ≤ u → In u v → ⊥
      past u h x = omega (arith, op_there_lem T (λ o. o.writes) refl u c ((W u).0 x).2)

      same : (u : ℕ) → u < nops T → ends_by cols v e u ≡ (writer T c m u && leb (end_of (op T u)) e)
      same u h =
          let small : u < 32 = omega (arith, ok.ops_high) in
          says_same _ _ (says_ends cols v e u) (says_and _ _ (says_writer T c m u) (says_leb (end_of (op T u)) e))
          (λ (x, y). let (_, a, b) = (W u).0 x in ((a, b), subst (λ (o : Op). end_of o ≤ e) (C.each u small) y))
          (λ ((a, b), y). ((W u).1 (small, a, b), subst⁻¹ (λ (o : Op). end_of o ≤ e) (C.each u small) y))

  writes_in_is : writes_in T c m ≡ sum (λ u. one (writer T c m u)) (nops T)
  unfolding writes_in
  writes_in_is = refl

  -- every write ends by the end of the table
  pub ended_all : (e : ℕ) → T.len ≤ e → ended_in T c m e ≡ writes_in T c m
  ended_all e h =
      ended_in_is T c m e
      ∙ sum_same (λ u. one (writer T c m u && leb (end_of (op T u)) e)) (λ u. one (writer T c m u)) (nops T)
      (λ u l. rw (le-leb (end_of (op T u)) e (omega (arith, (ok.each u l).fits)), and-true (writer T c m u)) refl)
      ∙ sym writes_in_is
