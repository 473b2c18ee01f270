-- A refusal of the table is the answer; an accepted one is asked.
-- Assumes nothing.
use Rattle.std.proofs.Common.{sym, ◌∙◌}
use Rattle.theory.proofs.Verdicts.{onwards_accepts}
use Rattle.fields.specs.RefusalLaws.{onwards_refusal, err_again}
use Rattle.table.specs.JudgedLaws.{judged_refused}
use Rattle.reading.specs.ReadLaws.{reads}
use Rattle.margins.proofs.margin.Goals as goal

pub returns-in_err-t : goal.returns-in_err-t
returns-in_err-t c =
    let r = c.in_err-t.field-0.0 in
    rw (err_again c.from_residual.result r c.from_residual.ensures.1) (sym (onwards_refusal r _ (judged_refused _ r c.in_err-t.ensures)))

pub margin_of-requires : goal.margin_of-requires
margin_of-requires c = (reads _ _ c.in_ok-t.ensures).good

pub returns : goal.returns
returns c = c.margin_of.ensures ∙ sym (onwards_accepts _ (reads _ _ c.in_ok-t.ensures).said)
