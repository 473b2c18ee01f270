-- Document 02, No. 4: what the tests of EARLY say. They pass exactly where the decider's rule holds.
-- Assumes nothing.
use Prim.Native.Nat.{ℕ, zero, suc, ◌+◌, ◌/◌, ◌^◌, ◌<◌, ◌≤◌}
use mathlib.Core.Path.{◌≡◌, refl, sym, ap, ◌∙◌}
use mathlib.Core.Bool.{false, not}
use mathlib.Core.Logic.{◌↔◌}
use native.Mathlib.Decide.{dec_lt}
use native.Mathlib.Nat.{pow-suc}
use native.Mathlib.Omega.{arith}
use borrow.Author.Tests.{not-false}
use Rattle.rules.specs.Sets.{In}
use Rattle.rules.specs.Table.{Decider, nobody, decides, Table, nops, op, end_of, SetOf, Always, Decided}
use Rattle.rules.specs.Verdicts.{accepted, EARLY, refuse_if, ◌then◌, each}
use Rattle.rules.specs.Judge.{always, early, early_test}
use Rattle.theory.proofs.Says.{Says, says_by, says_eqb, says_ltb, says_and, says_not, says_false}
use Rattle.theory.proofs.Sets.{in_zero, in_suc}
use Rattle.theory.proofs.Verdicts.{passes, passed, then_accepts, then_first, then_rest, each_accepts, each_accepted}

-- ---- "in every mode"

-- one more mode, the lowest
full_more : (n s : ℕ) → ((s / 2 + 1 ≡ 2 ^ n) ↔ ((m : ℕ) → m < n → In m (s / 2))) → (s + 1 ≡ 2 ^ suc n) ↔ ((m : ℕ) → m < suc n → In m s)
full_more n s rest = (fwd, bwd)
  where
    fwd : s + 1 ≡ 2 ^ suc n → (m : ℕ) → m < suc n → In m s
    fwd e zero h = (in_zero s).1 (omega (arith, pow-suc 2 n))
    fwd e (suc m) h = (in_suc s m).1 (rest.0 (omega (arith, pow-suc 2 n)) m (omega arith))

    bwd : ((m : ℕ) → m < suc n → In m s) → s + 1 ≡ 2 ^ suc n
    bwd x = omega (arith, pow-suc 2 n, (in_zero s).0 (x 0 (omega arith)), rest.1 (λ m h. (in_suc s m).0 (x (suc m) (omega arith))))

-- a set below 2 ^ n has every member below n exactly where it is one less than that
pub full_iff : (n s : ℕ) → s < 2 ^ n → (s + 1 ≡ 2 ^ n) ↔ ((m : ℕ) → m < n → In m s)
full_iff zero s small = (λ e m h. absurd (omega arith), λ x. omega arith)
full_iff (suc n) s small = full_more n s (full_iff n (s / 2) (omega (arith, pow-suc 2 n)))

-- ---- the tests of EARLY

module _ (T : Table) where
  -- the row of tests that they are
  pub early_row : (d : ℕ)
      → early_test T (decides d)
      ≡ (refuse_if (not (always T (op T d))) EARLY d d then each (λ i. refuse_if (early T (op T d) (op T i)) EARLY d i) 0 (nops T))
  unfolding early_test
  early_row d = refl

  pub no_early : early_test T nobody ≡ accepted tt
  unfolding early_test
  no_early = refl

module _ (T : Table) (sets : (i : ℕ) → i < nops T → SetOf T.modes (op T i).modes) where
  pub says_always : (i : ℕ) → i < nops T → Says (always T (op T i)) (Always T (op T i))
  unfolding always
  says_always i h =
      let full = full_iff T.modes (op T i).modes (sets i h).small in says_by (says_eqb ((op T i).modes + 1) (2 ^ T.modes)) full.0 full.1

  -- ---- "must start at or after its end"

  pub says_early : (d i : ℕ) → i < nops T → Says (early T (op T d) (op T i)) ((Always T (op T i) → ⊥) × ((op T i).start < end_of (op T d)))
  unfolding early
  says_early d i h = says_and _ _ (says_not _ (says_always i h)) (says_ltb (op T i).start (end_of (op T d)))

  late_iff : (d i : ℕ) → i < nops T → (early T (op T d) (op T i) ≡ false) ↔ ((Always T (op T i) → ⊥) → end_of (op T d) ≤ (op T i).start)
  late_iff d i h =
      let says = says_false _ (says_early d i h) in
      (λ e n. go (says.0 e) n (dec_lt (op T i).start (end_of (op T d))), λ x. says.1 (λ (n, less). let late = x n in omega arith))
    where
      go : ((Always T (op T i) → ⊥) × ((op T i).start < end_of (op T d)) → ⊥) → (Always T (op T i) → ⊥) → Dec ((op T i).start < end_of (op T d))
          → end_of (op T d) ≤ (op T i).start
      go f n (yes less) = absurd (f (n, less))
      go f n (no more) = omega arith

  -- they pass exactly where the rule holds
  pub early_iff : (who : Decider) → ((d : ℕ) → who ≡ decides d → d < nops T) → (early_test T who ≡ accepted tt) ↔ Decided T who
  early_iff nobody there = (λ e. tt, λ x. no_early T)
  early_iff (decides d) there = (
    λ e.
        let row = sym (early_row T d) ∙ e in
        record {
          is_op = there d refl;
          always = (says_always d (there d refl)).0 (not-false _ (passed _ EARLY d d (then_first _ _ row).1));
          later = λ i h n. (late_iff d i h).0 (passed _ EARLY d i (each_accepted _ 0 (nops T) (then_rest _ _ row) i (omega arith) (omega arith))) n;
        },
    λ x.
        early_row T d
        ∙ then_accepts _ (passes _ EARLY d d (ap not ((says_always d (there d refl)).1 x.always)))
        ∙ each_accepts _ 0 (nops T) (λ i _ h. passes _ EARLY d i ((late_iff d i (omega arith)).1 (x.later i (omega arith)))),
  )
