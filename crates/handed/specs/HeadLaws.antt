-- Laws of the numbers before the operations: their tests, the words, and that numbers that pass fit the code's.
-- Assumes nothing.
use Rattle.std.specs.Prelude.{ℕ, suc, ◌^◌, ◌<◌, ◌≤◌, ◌≡◌, true, false, not, List, ◌∷◌, eqb, length}
use Rattle.std.proofs.Common.{sym, ap, ◌∙◌, arith, pow_mono, eq-eqb, ne_eqb, eqb-true}
use Rattle.std.proofs.lemmas.Bool.{not-false}
use Rattle.rules.specs.Table.{SetOf}
use Rattle.rules.specs.Verdicts.{accepted, refused, ORDER, SIZE, refuse_if, ◌then◌}
use Rattle.rules.specs.Judge.{Numbers, head_of_numbers, ranged, number, len_wrong, counts_wrong, set_ok, set_ranges, sets_wrong, ops_place, none_left, numbers_test}
use Rattle.theory.proofs.Verdicts.{passes, refuses, passed, then_accepts, then_refuses, then_first, then_rest}
use Rattle.theory.proofs.Judging.{says_sets, says_len, says_counts, numbers_row}
use Rattle.theory.proofs.Ranges.{wrong_here, wrong_later, sets_from, range_passed}
use Rattle.fields.specs.Verdicts.{refusal_of}
use Rattle.fields.specs.declared.Refusal.{Refusal}
use Rattle.fields.specs.RefusalLaws.{then_refusal}
use Rattle.handed_ops.specs.HandedOps.{none_behind, handed_ops, SmallCounts}
use Rattle.handed.specs.Handed.{numbers_verdict, Small}

-- ---- what stands before the operations

module _ (N : Numbers) where
  pub test_len : (q : Refusal) → refusal_of q ≡ ranged (len_wrong N.len) 0 → refusal_of q ≡ numbers_test N
  test_len q e = sym (numbers_row N ∙ then_refusal q _ (sym e))

  module _ (e0 : accepted tt ≡ ranged (len_wrong N.len) 0) where
    pub test_counts : (q : Refusal) → refusal_of q ≡ ranged (counts_wrong N.boards N.cells N.modes) 5 → refusal_of q ≡ numbers_test N
    test_counts q e = sym (numbers_row N ∙ then_accepts _ (sym e0) ∙ then_refusal q _ (sym e))

    module _ (e1 : accepted tt ≡ ranged (counts_wrong N.boards N.cells N.modes) 5) where
      to_size : numbers_test N
          ≡ (refuse_if (not (eqb (length N.follow) N.modes)) SIZE 11 0
          then ranged (sets_wrong N.modes (N.first ∷ N.follow)) 11
          then refuse_if (none_left N.ops N.holds) ORDER (ops_place N.modes) 0)
      to_size = numbers_row N ∙ then_accepts _ (sym e0) ∙ then_accepts _ (sym e1)

      pub test_size : (length N.follow ≡ N.modes → ⊥) → numbers_test N ≡ refused SIZE 11 0
      test_size h = to_size ∙ then_refuses _ (refuses _ SIZE 11 0 (ap not (ne_eqb _ _ h)))

      module _ (e2 : length N.follow ≡ N.modes) where
        to_sets : numbers_test N
            ≡ (ranged (sets_wrong N.modes (N.first ∷ N.follow)) 11 then refuse_if (none_left N.ops N.holds) ORDER (ops_place N.modes) 0)
        to_sets = to_size ∙ then_accepts _ (passes _ SIZE 11 0 (ap not (eq-eqb _ _ e2)))

        pub test_sets : (q : Refusal) → refusal_of q ≡ ranged (sets_wrong N.modes (N.first ∷ N.follow)) 11 → refusal_of q ≡ numbers_test N
        test_sets q e = sym (to_sets ∙ then_refusal q _ (sym e))

        module _ (e3 : accepted tt ≡ ranged (sets_wrong N.modes (N.first ∷ N.follow)) 11) where
          pub test_none : none_behind N.ops N.holds 0 ≡ true → numbers_test N ≡ refused ORDER (ops_place N.modes) 0
          unfolding none_behind
          test_none h = to_sets ∙ then_accepts _ (sym e3) ∙ refuses _ ORDER _ 0 h

          pub test_some : none_behind N.ops N.holds 0 ≡ false → numbers_test N ≡ accepted tt
          unfolding none_behind
          test_some h = to_sets ∙ then_accepts _ (sym e3) ∙ passes _ ORDER _ 0 h

-- ---- the sets: the first modes, and then the words, of which word i would begin at 7 + 4·i
module _ (n first : ℕ) (ws : List ℕ) where
  pub first_wrong_lem : set_ok n first ≡ false → sets_wrong n (first ∷ ws) ≡ 3
  unfolding sets_wrong
  first_wrong_lem e = wrong_here 3 (number 4 first (set_ok n)) (set_ranges n ws) e

  pub first_fine : set_ok n first ≡ true → sets_wrong n (first ∷ ws) ≡ sets_from 7 n ws 0
  unfolding sets_wrong
  first_fine e = wrong_later 3 (number 4 first (set_ok n)) (set_ranges n ws) e

-- numbers that pass fit the code's
fits : {n s : ℕ} → SetOf n s → n ≤ 32 → s < 2 ^ 32
fits {n} {s} h l = let m : 2 ^ n ≤ 2 ^ 32 = pow_mono l in omega (arith, h.small)

pub counts_small : (boards cells modes : ℕ) → accepted tt ≡ ranged (counts_wrong boards cells modes) 5 → SmallCounts boards cells modes
counts_small boards cells modes e =
    let (b, (c, (d, (f, g)))) = (says_counts boards cells modes).0 (range_passed _ 5 (sym e)) in
    record { few_boards = omega arith; few_cells = d; few_modes = g }

pub test_small : (N : Numbers) → numbers_test N ≡ accepted tt → Small (head_of_numbers N)
test_small N e =
    let e0 = sym (numbers_row N) ∙ e in
    let e1 = then_rest _ _ e0 in
    let e2 = then_rest _ _ e1 in
    let e3 = then_rest _ _ e2 in
    let len = (says_len N.len).0 (range_passed _ 0 (then_first _ _ e0).1) in
    let counts = counts_small N.boards N.cells N.modes (sym (then_first _ _ e1).1) in
    let sets = (says_sets N.modes (N.first ∷ N.follow)).0 (range_passed _ 11 (then_first _ _ e3).1) in
    record {
      len = omega arith;
      counts = counts;
      first = fits (sets 0 (omega arith)) counts.few_modes;
      words = eqb-true _ _ (not-false _ (passed _ SIZE 11 0 (then_first _ _ e2).1));
      follow = λ a h. fits (sets (suc a) (omega arith)) counts.few_modes;
    }

-- ---- the verdict

module _ (N : Numbers) where
  pub verdict_refused : (q : Refusal) → refusal_of q ≡ numbers_test N → numbers_verdict N ≡ refusal_of q
  unfolding numbers_verdict
  verdict_refused q e = then_refusal q _ (sym e)

  pub verdict_ops : numbers_test N ≡ accepted tt → numbers_verdict N ≡ handed_ops (head_of_numbers N) N.ops N.holds
  unfolding numbers_verdict
  verdict_ops e = then_accepts _ e
