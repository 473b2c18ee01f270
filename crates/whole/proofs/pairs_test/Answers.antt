-- RACE is asked only where CLASH accepts; otherwise the clash is the answer.
-- Assumes nothing.
use Rattle.std.proofs.Common.{sym, ◌∙◌}
use Rattle.std.proofs.lemmas.Result.{err_from_is_err_and}
use Rattle.theory.proofs.Verdicts.{then_accepts}
use Rattle.fields.specs.RefusalLaws.{then_refusal}
use Rattle.whole.proofs.pairs_test.Goals as goal

pub returns-in_err-first_clash : goal.returns-in_err-first_clash
returns-in_err-first_clash c =
    let p = err_from_is_err_and c.from_residual.result c.from_residual.ensures.1 in
    rw (p.1, p.2) (sym (then_refusal c.in_err-first_clash.field-0.0 _ (sym c.in_err-first_clash.ensures)))

pub returns : goal.returns
returns c = c.first_race.ensures ∙ sym (then_accepts _ (sym c.in_ok-first_clash.ensures))
