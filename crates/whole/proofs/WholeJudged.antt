-- The judgement of the whole table.
-- Assumes nothing.
use Rattle.std.specs.Prelude.{◌≡◌}
use Rattle.std.proofs.Common.{sym, ◌∙◌}
use Rattle.rules.specs.Table.{Table}
use Rattle.rules.specs.Verdicts.{accepted, CLASH, RACE, ◌then◌}
use Rattle.rules.specs.Judge.{clashes, races, pairs_test, early_test, judge_whole}
use Rattle.theory.proofs.Verdicts.{then_accepts, then_assoc}
use Rattle.theory.proofs.Judging.{whole_row}
use Rattle.fields.specs.Verdicts.{refusal_of}
use Rattle.fields.specs.declared.Refusal.{Refusal}
use Rattle.fields.specs.RefusalLaws.{then_refusal}
use Rattle.whole.specs.Whole.{both_tests, whole_test}

-- ---- the judgement of the whole
module _ (T : Table) where
  -- the judge's last tests are these, and then the table is handed on
  whole_judged : judge_whole T ≡ (whole_test T then accepted T)
  whole_judged =
      whole_row T
      ∙ sym
      (then_assoc (both_tests T) (early_test T T.decider) (accepted T)
      ∙ then_assoc (pairs_test clashes CLASH T) (pairs_test races RACE T) (early_test T T.decider then accepted T))

  pub whole_refused : (q : Refusal) → refusal_of q ≡ whole_test T → judge_whole T ≡ refusal_of q
  whole_refused q e = whole_judged ∙ then_refusal q (accepted T) (sym e)

  pub whole_accepted : whole_test T ≡ accepted tt → judge_whole T ≡ accepted T
  whole_accepted e = whole_judged ∙ then_accepts (accepted T) e
