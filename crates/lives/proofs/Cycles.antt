-- The writes that have ended at a date are those of the cycles before, and in its cycle those that end by that date.
-- Assumes nothing.
use Prim.Native.Nat.{ℕ, zero, suc, ◌+◌, ◌*◌, ◌<◌, ◌≤◌}
use mathlib.Core.Path.{◌≡◌, refl, sym, ap}
use mathlib.Core.Bool.{Bool, true, false, ◌&&◌}
use mathlib.Core.List.{List}
use native.Mathlib.Omega.{arith}
use native.Mathlib.Decide.{dec_lt}
use lib.Dec.{leb, ltb}
use lib.ListN.{length}
use Rattle.rules.specs.Table.{Table, nops, op, end_of, Accepted}
use Rattle.rules.specs.Runs.{mode, plain_end}
use Rattle.theory.proofs.Order.{Cmp, cmp, later}
use Rattle.theory.proofs.Says.{Says, clash_bool, says_and, says_leb, says_ltb}
use Rattle.rules.specs.Places.{sum, one, writer, writes_by}
use Rattle.lives.specs.Near.{writes_in, ended_in, ahead_in, WriteIn}
use Rattle.lives.proofs.Sums.{sum_suc, sum_same, sum_zero, sum_add, sum_lt, sum_cut, sum_le_count, one_true, one_false, one_le}
use Rattle.lives.proofs.Counts.{counts, in_cycle, writes_by_is, says_writer}

-- ---- tests
false_of : {P : Type 0} (b : Bool) → Says b P → (P → ⊥) → b ≡ false
false_of true s n = absurd (n (s.0 refl))
false_of false s n = refl

and_true : (a b : Bool) → b ≡ true → a && b ≡ a
and_true true b e = e
and_true false b e = refl

and_false : (a b : Bool) → b ≡ false → a && b ≡ false
and_false true b e = e
and_false false b e = refl

says_one : {P : Type 0} (a b : Bool) → Says a P → Says b P → a ≡ b
says_one true b s t = sym (t.1 (s.0 refl))
says_one false b s t = sym (false_of b t (λ p. clash_bool (s.1 p) refl))

-- ---- counts in a cycle
module _ (T : Table) (c : ℕ) where
  pub ended_in_is : (m e : ℕ) → ended_in T c m e ≡ sum (λ u. one (writer T c m u && leb (end_of (op T u)) e)) (nops T)
  unfolding ended_in
  ended_in_is m e = refl

  writes_in_is : (m : ℕ) → writes_in T c m ≡ sum (λ u. one (writer T c m u)) (nops T)
  unfolding writes_in
  writes_in_is m = refl

  ahead_in_is : (m e : ℕ) → ahead_in T c m e ≡ sum (λ u. one (writer T c m u && ltb e (end_of (op T u)))) (nops T)
  unfolding ahead_in
  ahead_in_is m e = refl

  part : (m e u : ℕ) → one (writer T c m u) ≡ one (writer T c m u && leb (end_of (op T u)) e) + one (writer T c m u && ltb e (end_of (op T u)))
  part m e u = go (dec_lt e (end_of (op T u)))
    where
      go : Dec (e < end_of (op T u))
          → one (writer T c m u) ≡ one (writer T c m u && leb (end_of (op T u)) e) + one (writer T c m u && ltb e (end_of (op T u)))
      go (yes h) =
          let a = false_of (leb (end_of (op T u)) e) (says_leb (end_of (op T u)) e) (λ x. omega arith) in
          omega (
            arith,
            ap one (and_true (writer T c m u) (ltb e (end_of (op T u))) ((says_ltb e (end_of (op T u))).1 h)),
            one_false (and_false (writer T c m u) (leb (end_of (op T u)) e) a),
          )
      go (no h) =
          let a = false_of (ltb e (end_of (op T u))) (says_ltb e (end_of (op T u))) h in
          omega (
            arith,
            ap one (and_true (writer T c m u) (leb (end_of (op T u)) e) ((says_leb (end_of (op T u)) e).1 (omega arith))),
            one_false (and_false (writer T c m u) (ltb e (end_of (op T u))) a),
          )

  -- each write of a cycle has ended by e, or is ahead
  pub in_parts : (m e : ℕ) → writes_in T c m ≡ ended_in T c m e + ahead_in T c m e
  in_parts m e =
      rw (writes_in_is m, ended_in_is m e, ahead_in_is m e)
      (sum_add (λ u. one (writer T c m u && leb (end_of (op T u)) e)) (λ u. one (writer T c m u && ltb e (end_of (op T u)))) (λ u. one (writer T c m u)) (nops T)
      (λ u h. part m e u))

  pub writes_in_most : (m : ℕ) → writes_in T c m ≤ nops T
  writes_in_most m =
      rw (writes_in_is m) (sum_le_count (λ u. one (writer T c m u)) (nops T) (λ u h. one_le (writer T c m u)))

  -- a write counts among those that have ended at its end
  pub ended_self : (b i : ℕ) → WriteIn T c b i → 1 ≤ ended_in T c b (end_of (op T i))
  ended_self b i x =
      let t = (says_and (writer T c b i) (leb (end_of (op T i)) (end_of (op T i))) (says_writer T c b i) (says_leb (end_of (op T i)) (end_of (op T i)))
      ).1 ((x.runs, x.writes), omega arith) in
      rw (ended_in_is b (end_of (op T i)))
      (omega (
        arith,
        sum_lt (λ u. 0) (λ u. one (writer T c b u && leb (end_of (op T u)) (end_of (op T i)))) (nops T) i (λ m h. omega arith) x.is_op
            (omega (arith, one_true t)),
      ))

  module _ (r : List ℕ) where
    -- the writes of the cycles before l
    abbrev pub before : ℕ → ℕ
    before l = sum (λ k. writes_in T c (mode r k)) l

    pub before_suc : (l : ℕ) → before (suc l) ≡ before l + writes_in T c (mode r l)
    before_suc l = sum_suc (λ k. writes_in T c (mode r k)) l

    pub before_mono : (k l : ℕ) → k < l → before k + writes_in T c (mode r k) ≤ before l
    before_mono k zero h = absurd (omega arith)
    before_mono k (suc l) h = go (cmp k l) (before_mono k l)
      where
        go : Cmp k l → (k < l → before k + writes_in T c (mode r k) ≤ before l) → before k + writes_in T c (mode r k) ≤ before (suc l)
        go (Cmp.less x) f = omega (arith, f x, before_suc l)
        go (Cmp.same x) f = omega (arith, before_suc l, ap (λ (m : ℕ). before m + writes_in T c (mode r m)) x)
        go (Cmp.more x) f = absurd (omega arith)

    module _ (ok : Accepted T) (l e : ℕ) (here : l < length r) (within : e ≤ T.len) where
      cycle_before : (m : ℕ) → m < l → in_cycle T r c (e + l * T.len) m ≡ writes_in T c (mode r m)
      cycle_before m h =
          rw (writes_in_is (mode r m))
          (sum_same (counts T r c (e + l * T.len) m) (λ u. one (writer T c (mode r m) u)) (nops T)
          (λ u x. ap one (and_true (writer T c (mode r m) u) (leb (plain_end T u m) (e + l * T.len))
          ((says_leb (plain_end T u m) (e + l * T.len)).1 (omega (arith, later T.len h, (ok.each u x).fits))))))

      cycle_after : (m : ℕ) → l < m → m < length r → in_cycle T r c (e + l * T.len) m ≡ 0
      cycle_after m h g =
          sum_zero (counts T r c (e + l * T.len) m) (nops T)
          (λ u x. one_false (and_false (writer T c (mode r m) u) (leb (plain_end T u m) (e + l * T.len))
          (false_of (leb (plain_end T u m) (e + l * T.len)) (says_leb (plain_end T u m) (e + l * T.len))
          (λ y. omega (arith, later T.len h, (ok.each u x).lasts)))))

      cycle_same : in_cycle T r c (e + l * T.len) l ≡ ended_in T c (mode r l) e
      cycle_same =
          rw (ended_in_is (mode r l) e)
          (sum_same (counts T r c (e + l * T.len) l) (λ u. one (writer T c (mode r l) u && leb (end_of (op T u)) e)) (nops T)
          (λ u x. ap (λ (b : Bool). one (writer T c (mode r l) u && b))
          (says_one (leb (plain_end T u l) (e + l * T.len)) (leb (end_of (op T u)) e)
          ((λ t. omega (arith, (says_leb (plain_end T u l) (e + l * T.len)).0 t)), (λ h. (says_leb (plain_end T u l) (e + l * T.len)).1 (omega arith)))
          (says_leb (end_of (op T u)) e))))

      pub ended_split : writes_by T r c (e + l * T.len) ≡ before l + ended_in T c (mode r l) e
      ended_split =
          rw (writes_by_is T r c (e + l * T.len), sym cycle_same)
          (sum_cut (in_cycle T r c (e + l * T.len)) (λ k. writes_in T c (mode r k)) (length r) l here cycle_before cycle_after)
