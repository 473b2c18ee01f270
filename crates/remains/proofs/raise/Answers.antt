-- The entries that were visited are raised, and nothing else has changed.
-- Assumes nothing.
use native.Mathlib.Omega.{arith}
use Rattle.theory.proofs.Sets.{in_small}
use Rattle.remains.specs.RemainLaws.{lifting_more, lifting_all}
use Rattle.remains.proofs.raise.Goals as goal

pub bounds-row-i : goal.bounds-row-i
bounds-row-i c = in_small _ 32 _ (omega arith) (c.loop-m.invariant.1.inside _ c.in-Some.ensures.steps.0.member)

pub bounds-row-i-in-loop-m : goal.bounds-row-i-in-loop-m
bounds-row-i-in-loop-m c = in_small _ 32 _ (omega arith) (c.loop-m.invariant.1.inside _ c.in-Some.ensures.steps.0.member)

pub loop-m-preserved : goal.loop-m-preserved
loop-m-preserved c =
    let (lowest, left) = c.in-Some.ensures.steps in
    let (full, raised) = c.loop-m.invariant in
    let m = c.in-Some.m in
    let small = in_small m 32 _ (omega arith) (raised.inside _ lowest.member) in
    (full, rw (left, c.max.ensures) (lifting_more m lowest.member (omega (arith, raised.long, small)) raised))

pub returns : goal.returns
returns c = lifting_all (rw c.in-None.ensures.steps.0 at c.loop-m.invariant.1)
