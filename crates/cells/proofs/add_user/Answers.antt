-- The operation is in the sets of the cells that were visited, and nothing else has changed.
-- Assumes nothing.
use native.Mathlib.Omega.{arith}
use Rattle.theory.proofs.Sets.{in_small}
use Rattle.cells.specs.UserLaws.{adding_more, adding_all}
use Rattle.cells.proofs.add_user.Goals as goal

pub bounds-users-i : goal.bounds-users-i
bounds-users-i c =
    in_small _ 32 _ (omega arith) (c.loop-c.invariant.1.inside _ c.in-Some.ensures.steps.0.member)

pub bounds-users-i-in-loop-c : goal.bounds-users-i-in-loop-c
bounds-users-i-in-loop-c c =
    in_small _ 32 _ (omega arith) (c.loop-c.invariant.1.inside _ c.in-Some.ensures.steps.0.member)

pub loop-c-preserved : goal.loop-c-preserved
loop-c-preserved c =
    let (lowest, left) = c.in-Some.ensures.steps in
    let (long, adding) = c.loop-c.invariant in
    let small = in_small _ 32 _ (omega arith) (adding.inside _ lowest.member) in
    (long, rw (left, c.with.ensures) (adding_more c.in-Some.c lowest.member (omega (arith, adding.long)) small adding))

pub returns : goal.returns
returns c = adding_all (rw c.in-None.ensures.steps.0 at c.loop-c.invariant.1)
