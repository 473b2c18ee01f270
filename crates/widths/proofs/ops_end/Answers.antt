-- So far the place is behind the first operations.
-- Assumes nothing.
use Rattle.std.proofs.Common.{take, arith, length-take}
use Rattle.theory.proofs.Judging.{size_none}
use Rattle.widths.specs.WidthLaws.{size_next, size_few}
use Rattle.widths.proofs.ops_end.Goals as goal

pub loop-o-init : goal.loop-o-init
loop-o-init c = omega (arith, c.ops_place-at.ensures, size_none)

pub overflow_add-at : goal.overflow_add-at
overflow_add-at c =
    let ops = take c.args.count c.args.ops in
    omega (arith, c.loop-o.invariant, size_few ops c.loop-o.o-index, length-take c.args.count c.args.ops, c.op_width-at.ensures.1)

pub loop-o-preserved : goal.loop-o-preserved
loop-o-preserved c =
    omega (arith, c.loop-o.invariant, c.op_width-at.ensures.0, size_next (take c.args.count c.args.ops) c.loop-o.o-index c.loop-o-test.true)
