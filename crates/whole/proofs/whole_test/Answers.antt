-- EARLY is asked only where the pairs accept; otherwise their refusal is the answer.
-- Assumes nothing.
use Rattle.std.proofs.Common.{sym, ◌∙◌}
use Rattle.std.proofs.lemmas.Result.{err_from_is_err_and}
use Rattle.theory.proofs.Verdicts.{then_accepts}
use Rattle.fields.specs.RefusalLaws.{then_refusal}
use Rattle.whole.proofs.whole_test.Goals as goal

pub returns-in_err-pairs_test : goal.returns-in_err-pairs_test
returns-in_err-pairs_test c =
    let p = err_from_is_err_and c.from_residual.result c.from_residual.ensures.1 in
    rw (p.1, p.2) (sym (then_refusal c.in_err-pairs_test.field-0.0 _ (sym c.in_err-pairs_test.ensures)))

pub returns : goal.returns
returns c = c.early_test.ensures ∙ sym (then_accepts _ (sym c.in_ok-pairs_test.ensures))
