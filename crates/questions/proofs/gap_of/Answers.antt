-- A refusal of the table is the answer; for an accepted one it is the smallest gap that serves.
-- Assumes nothing.
use Rattle.rules.specs.Gaps.{IsGap}
use Rattle.theory.proofs.Asking.{accepted_answers}
use Rattle.fields.specs.RefusalLaws.{err_again}
use Rattle.table.specs.JudgedLaws.{judged_refused}
use Rattle.reading.specs.ReadLaws.{reads}
use Rattle.asks.specs.AskLaws.{refused_answers}
use Rattle.questions.proofs.gap_of.Goals as goal

pub returns-in_err-t : goal.returns-in_err-t
returns-in_err-t c =
    let r = c.in_err-t.field-0.0 in
    rw (err_again c.from_residual.result r c.from_residual.ensures.1) (refused_answers IsGap r (judged_refused _ r c.in_err-t.ensures))

pub smallest-requires : goal.smallest-requires
smallest-requires c = (reads _ _ c.in_ok-t.ensures).good

pub returns : goal.returns
returns c = accepted_answers IsGap (reads _ _ c.in_ok-t.ensures).said c.smallest.ensures
