-- The head's tests, one after the other, and what is known of a head that passes.
-- Assumes nothing.
use Rattle.std.specs.Prelude.{ℕ, ◌+◌, ◌^◌, ◌<◌, ◌≤◌, ◌≡◌, List, length, Option, Some, None, IfSome, Result, Ok, Err}
use Rattle.std.specs.Result.{IsErrAnd}
use Rattle.std.proofs.Common.{sym, ap, ◌∙◌, arith}
use Rattle.rules.specs.Verdicts.{Verdict, accepted, ◌then◌}
use Rattle.rules.specs.Bytes.{num8}
use Rattle.rules.specs.Judge.{needed, head_of, head_test, ops_place}
use Rattle.theory.proofs.Verdicts.{then_accepts}
use Rattle.theory.proofs.Judging.{says_counts, field_passed, head_row, head_ok}
use Rattle.fields.specs.declared.Refusal.{Refusal}
use Rattle.fields.specs.Verdicts.{refusal_of, answered}
use Rattle.fields.specs.Fields.{IsPlace}
use Rattle.heads.specs.Heads.{len_test, counts_test, modes_test}
use Rattle.heads.specs.WordLaws.{sets_first}

-- what `?` hands back is the refusal that its callee answered
pub handed_back : {A : Type 0} (r : Result A Refusal) (q : Refusal) {w : Verdict A} → IsErrAnd r (λ y. y ≡ q) → refusal_of q ≡ w → answered r ≡ w
handed_back (Ok x) q h e = absurd h
handed_back (Err y) q h e = ap (λ (r : Refusal). refusal_of r) h ∙ e

-- what the reading needs of a head that passes
pub record HeadFits (s : List ℕ) : Type 0 where
  pub place : ops_place (num8 s 10) < length s
  pub boards : num8 s 8 ≤ 32
  pub cells : num8 s 9 ≤ 32
  pub modes : num8 s 10 ≤ 32

module _ (s : List ℕ) where
  -- the tests of the head, one after the other
  pub head_tests : head_test s ≡ (len_test 1 s then counts_test s then modes_test (num8 s 10) s then needed s (ops_place (num8 s 10)))
  unfolding head_of
  head_tests = head_row s ∙ rw (← sets_first s (num8 s 10) (num8 s 10))

  module _ (len : accepted tt ≡ len_test 1 s) where
    pub after_len : head_test s ≡ (counts_test s then modes_test (num8 s 10) s then needed s (ops_place (num8 s 10)))
    after_len = head_tests ∙ then_accepts _ (sym len)

    module _ (counts : accepted tt ≡ counts_test s) where
      pub after_counts : head_test s ≡ (modes_test (num8 s 10) s then needed s (ops_place (num8 s 10)))
      after_counts = after_len ∙ then_accepts _ (sym counts)

      pub after_modes : accepted tt ≡ modes_test (num8 s 10) s → head_test s ≡ needed s (ops_place (num8 s 10))
      after_modes modes = after_counts ∙ then_accepts _ (sym modes)

  -- counts that pass
  pub counts_fit : accepted tt ≡ counts_test s → (11 ≤ length s) × (num8 s 10 ≤ 32)
  counts_fit e =
      let (whole, ok) = field_passed s 5 2 3 _ (sym e) in (
        whole,
        ((says_counts (num8 s 8) (num8 s 9) (num8 s 10)).0 ok).1.1.1.1,
      )

  pub head_fits : head_test s ≡ accepted tt → HeadFits s
  unfolding head_of
  head_fits e =
      let (ok, place) = head_ok s e in
      let counts = (says_counts (num8 s 8) (num8 s 9) (num8 s 10)).0 ok.counts in
      record {
        place = place;
        boards = omega (arith, counts.1.0);
        cells = counts.1.1.0;
        modes = counts.1.1.1.1;
      }

  pub head_long : head_test s ≡ accepted tt → 18 < length s
  head_long e = omega (arith, head_fits e)
