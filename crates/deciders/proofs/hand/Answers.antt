-- A refusal of what stands before stays; of a table that was accepted the decider is judged.
-- Assumes nothing.
use Rattle.std.proofs.lemmas.Result.{err_from_is_err_and}
use Rattle.table.specs.JudgedLaws.{denied, going_refused, going_accepted}
use Rattle.table.specs.Tables.{who_of}
use Rattle.deciders.specs.Deciders.{handed_of}
use Rattle.deciders.proofs.hand.Goals as goal

pub returns-in_err-judged : goal.returns-in_err-judged
returns-in_err-judged c =
    let p = err_from_is_err_and c.from_residual.result c.from_residual.ensures.1 in
    rw (p.1, p.2, going_refused c.args.judged (handed_of (who_of c.args.decider)) _ c.in_err-judged.was) (denied c.in_err-judged.field-0.0)

pub returns : goal.returns
returns c = rw (going_accepted c.args.judged (handed_of (who_of c.args.decider)) _ c.in_ok-judged.was) c.hand_behind.ensures
