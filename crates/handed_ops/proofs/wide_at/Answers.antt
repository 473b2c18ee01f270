-- Each number is at its place, and the hold is there where it is marked.
-- Assumes nothing.
use Rattle.handed_ops.specs.OpsLaws.{held_read, op_read}
use Rattle.handed_ops.proofs.wide_at.Goals as goal

pub returns : goal.returns
returns c =
    (op_read c.args.ops.now c.args.holds.now c.args.k c.then_some.ensures, held_read c.args.holds.now c.args.k c.then_some.ensures)
