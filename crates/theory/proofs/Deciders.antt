-- Document 02, No. 4: which operation EARLY names; and the deciders of a run: they come one after the other, and what depends on the mode waits for
-- its own.
-- Assumes nothing.
use Prim.Native.Nat.{ℕ, suc, ◌+◌, ◌*◌, ◌<◌, ◌≤◌}
use mathlib.Core.Path.{◌≡◌, sym, ap, subst, ◌∙◌}
use mathlib.Core.Bool.{not}
use mathlib.Core.List.{List}
use native.Mathlib.Decide.{dec_lt}
use native.Mathlib.Omega.{arith}
use lib.ListN.{length}
use borrow.Author.Tests.{not-false}
use Rattle.rules.specs.Table.{Decider, nobody, decides, Table, nops, op, end_of, held_to, SetOf, Always, DecidedBy, Decided, Accepted}
use Rattle.rules.specs.Runs.{mode, IsRun, Runs, BoardsRightAt, Right, spaced}
use Rattle.rules.specs.Verdicts.{refused, EARLY, Test, refuse_if}
use Rattle.rules.specs.Judge.{early, early_test}
use Rattle.theory.specs.Deciders.{FirstEarly, itself, lowest}
use Rattle.theory.proofs.Order.{later}
use Rattle.theory.proofs.Says.{says_false, says_not}
use Rattle.theory.proofs.Sets.{some_in}
use Rattle.theory.proofs.Exists.{run_mode}
use Rattle.theory.proofs.Verdicts.{never_refused, passes, passed, refuses, fault_refused, then_accepts, then_refuses, then_refused}
use Rattle.theory.proofs.Early.{says_always, says_early, early_row, no_early}
use Rattle.theory.proofs.Judging.{each_refuses, each_refused}

-- ---- which operation EARLY names

module _ (T : Table) where
  -- the test of each operation
  abbrev too_early : ℕ → ℕ → Test
  too_early d i = refuse_if (early T (op T d) (op T i)) EARLY d i

  -- a refusal of these tests has their number, and its a is the decider
  told : (d : ℕ) {n a b : ℕ} → early_test T (decides d) ≡ refused n a b → (n ≡ EARLY) × (a ≡ d)
  told d e =
      then_refused _ _ (sym (early_row T d) ∙ e)
      (λ h. let (_, number, first, _) = fault_refused _ h in (number, sym first))
      (λ _ _ h.
      let (k, x) = each_refused (too_early d) 0 (nops T) _ _ _ h in
      let (_, number, first, _) = fault_refused _ x.here in
      (number, sym first))

  pub early_number : (who : Decider) {n a b : ℕ} → early_test T who ≡ refused n a b → n ≡ EARLY
  early_number nobody e = never_refused (sym e ∙ no_early T)
  early_number (decides d) e = (told d e).0

  module _ (sets : (i : ℕ) → i < nops T → SetOf T.modes (op T i).modes) (d : ℕ) (is_op : d < nops T) where
    -- "with a the decider and b the lowest operation that starts too early, or b the decider itself .., which is tested first"
    pub early_refused : {n a b : ℕ} → early_test T (decides d) ≡ refused n a b → (n ≡ EARLY) × (a ≡ d) × FirstEarly T d b
    early_refused {n} {a} {b} e =
        let (number, first) = told d e in
        let all = says_always T sets d is_op in
        let which : FirstEarly T d b =
        then_refused _ _ (sym (early_row T d) ∙ e)
        (λ h. let (fault, _, _, second) = fault_refused _ h in itself (sym second) ((says_not _ all).0 fault))
        (λ _ h r.
        let (k, x) = each_refused (too_early d) 0 (nops T) _ _ _ r in
        let (fault, _, _, second) = fault_refused _ x.here in
        let low : b < nops T = omega (arith, x.to) in
        lowest (all.0 (not-false _ (passed _ EARLY d d h))) low
        ((says_early T sets d b low).0 (ap (λ (i : ℕ). early T (op T d) (op T i)) (sym second) ∙ fault))
        (λ j less. (says_false _ (says_early T sets d j (omega arith))).0 (passed _ EARLY d j (x.before j (omega arith) (omega arith)))))
        in
        (number, first, which)

    -- and it is refused so
    pub early_refuses : {b : ℕ} → FirstEarly T d b → early_test T (decides d) ≡ refused EARLY d b
    early_refuses (itself e n) =
        early_row T d
        ∙ then_refuses _ (refuses _ EARLY d d ((says_not _ (says_always T sets d is_op)).1 n))
        ∙ ap (refused EARLY d) (sym e)
    early_refuses {b} (lowest all low now before) =
        early_row T d
        ∙ then_accepts _ (passes _ EARLY d d (ap not ((says_always T sets d is_op).1 all)))
        ∙ each_refuses (too_early d) 0 (nops T) b EARLY d b
        (record {
          from = omega arith;
          to = omega arith;
          here = refuses _ EARLY d b ((says_early T sets d b low).1 now);
          before = λ j _ less. passes _ EARLY d j ((says_false _ (says_early T sets d j (omega arith))).1 (before j less));
        })

-- ---- the deciders of a run

module _ (T : Table) (ok : Accepted T) (d : ℕ) (who : T.decider ≡ decides d) where
  rule : DecidedBy T d
  rule = subst (λ (x : Decider). Decided T x) who ok.decided

  module _ (r : List ℕ) (run : IsRun T r) where
    -- "It must run in every mode": so it runs in every cycle
    pub decider_runs : (k : ℕ) → k < length r → Runs T r k d
    decider_runs k h = record { cycle = h; is_op = rule.is_op; in_mode = rule.always (mode r k) (run_mode T ok r run k h) }

    -- where the boards are right, whenever the cycles start, if the next does not start before
    pub decider_ends : (s : ℕ → ℕ) → BoardsRightAt T s → (k : ℕ) → suc k < length r → s k ≤ s (suc k)
        → end_of (op T d) + s k ≤ (op T d).start + s (suc k)
    unfolding BoardsRightAt
    decider_ends s right k h rising = go (dec_lt ((op T d).start + s (suc k)) (held_to (op T d) + s k))
      where
        go : Dec ((op T d).start + s (suc k) < held_to (op T d) + s k) → end_of (op T d) + s k ≤ (op T d).start + s (suc k)
        go (yes less) =
            let fine = ok.each d rule.is_op in
            let (board, on) = some_in (op T d).boards fine.boards.some in
            absurd
            (right r run d k d (suc k) (decider_runs k (omega arith)) (decider_runs (suc k) h) (λ e. omega (arith, e.1)) (board, on, on)
            (omega (arith, fine.lasts), less))
        go (no late) = omega arith

    -- "at a right period the decider of one cycle never starts before that of the cycle before has ended"
    pub decider_in_turn : (q : ℕ) → Right T q → (k : ℕ) → suc k < length r → end_of (op T d) + spaced q k ≤ (op T d).start + spaced q (suc k)
    decider_in_turn q right k h = decider_ends (spaced q) right.boards k h (omega arith)

    -- so an operation whose running depends on the mode does not start, in any cycle, before its cycle's decider has ended, nor before that of
    -- any cycle before
    pub decided_first : (q : ℕ) → Right T q → (k l i : ℕ) → l ≤ k → Runs T r k i → (Always T (op T i) → ⊥)
        → Runs T r l d × (end_of (op T d) + spaced q l ≤ (op T i).start + spaced q k)
    decided_first q right k l i before x n = (decider_runs l (omega (arith, x.cycle)), go (dec_lt l k))
      where
        go : Dec (l < k) → end_of (op T d) + spaced q l ≤ (op T i).start + spaced q k
        go (yes less) = omega (arith, decider_in_turn q right l (omega (arith, x.cycle)), later q less, rule.later i x.is_op n)
        go (no same) = let e : l ≡ k = omega arith in omega (arith, ap (λ (m : ℕ). m * q) e, rule.later i x.is_op n)
