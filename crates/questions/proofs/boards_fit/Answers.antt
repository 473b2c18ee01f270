-- A refusal of the table, or of what is asked, is the answer; else it is the engine's.
-- Assumes nothing.
use Rattle.std.proofs.Common.{arith}
use Rattle.rules.specs.Answers.{YesFor, Fit}
use Rattle.theory.proofs.Asking.{accepted_answers}
use Rattle.fields.specs.RefusalLaws.{err_again}
use Rattle.table.specs.JudgedLaws.{judged_refused}
use Rattle.asks.specs.AskLaws.{refused_answers}
use Rattle.questions.specs.QuestionLaws.{asked_accepted}
use Rattle.questions.proofs.boards_fit.Goals as goal

pub returns-in_err-t : goal.returns-in_err-t
returns-in_err-t c =
    let r = c.in_err-t.field-0.0 in
    rw (err_again c.from_residual.result r c.from_residual.ensures.1) (refused_answers (YesFor Fit c.args.q) r (judged_refused _ r c.in_err-t.ensures))

pub overflow_cast-q : goal.overflow_cast-q
overflow_cast-q c = let x = asked_accepted _ c.args.q _ c.in_ok-t.ensures in omega (arith, x.high, x.good.accepted.len_high)

pub boards_fit-requires : goal.boards_fit-requires
boards_fit-requires c = let x = asked_accepted _ c.args.q _ c.in_ok-t.ensures in (x.good, omega (arith, x.low), omega (arith, x.high, x.good.accepted.len_low))

pub returns : goal.returns
returns c = let x = asked_accepted _ c.args.q _ c.in_ok-t.ensures in accepted_answers (YesFor Fit c.args.q) x.said c.boards_fit.ensures
