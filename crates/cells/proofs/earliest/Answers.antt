-- No reader that was visited starts before the number, which falls where one does.
-- Assumes nothing.
use native.Mathlib.Omega.{arith}
use Rattle.theory.proofs.Sets.{in_small}
use Rattle.cells.specs.WalkLaws.{early_more, early_all}
use Rattle.cells.proofs.earliest.Goals as goal

pub start-requires : goal.start-requires
start-requires c =
    in_small _ 32 _ (omega arith) (c.loop-j.invariant.1.inside _ c.in-Some.ensures.steps.0.member)

pub loop-j-preserved : goal.loop-j-preserved
loop-j-preserved c =
    let (lowest, left) = c.in-Some.ensures.steps in
    (omega arith, rw left (early_more c.args.cols.now c.in-Some.j lowest.member (grind arith) (grind arith) c.loop-j.invariant.1))

pub returns : goal.returns
returns c =
    let (low, walked) = c.loop-j.invariant in
    early_all _ _ _ low (rw c.in-None.ensures.steps.0 at walked)
