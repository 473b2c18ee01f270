-- The bound is raised by the first i operations.
-- Assumes nothing.
use native.Mathlib.Omega.{arith}
use Rattle.arrivals.specs.EachLaws.{each_more}
use Rattle.raises.specs.Raises.{Raised}
use Rattle.raises.specs.RaiseLaws.{raised_up, raised_to}
use Rattle.gaps.specs.Holders.{HolderFine}
use Rattle.gaps.specs.HolderLaws.{holder_late}
use Rattle.gaps.proofs.boards_bound.Goals as goal

pub loop-i-preserved : goal.loop-i-preserved
loop-i-preserved c =
    let a = c.args in
    let late = holder_late a.follow.now a.cols.now c.requires.0 a.reached c.loop-i.i (omega arith) in
    let x : Raised c.loop-i.most (HolderFine a.follow.now a.cols.now a.reached c.loop-i.i) c.ask_holder-most.result
    = c.ask_holder-most.ensures
    in
    (omega (arith, raised_up x), raised_to x 1000 c.loop-i.invariant.1 late, each_more c.loop-i.invariant.2 x)
