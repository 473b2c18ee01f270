-- The sets of the readers that were visited are there.
-- Assumes nothing.
use native.Mathlib.Omega.{arith}
use lib.ListN.{length-set}
use Rattle.theory.proofs.Sets.{in_small}
use Rattle.cells.specs.WalkLaws.{fresh_more, fresh_all}
use Rattle.cells.proofs.fresh_sets.Goals as goal

pub fresh_in-requires : goal.fresh_in-requires
fresh_in-requires c =
    (in_small _ 32 _ (omega arith) (c.loop-m.invariant.1.inside _ c.in-Some.ensures.steps.0.member), c.requires)

pub bounds-out-j : goal.bounds-out-j
bounds-out-j c =
    omega (arith, in_small _ 32 _ (omega arith) (c.loop-m.invariant.1.inside _ c.in-Some.ensures.steps.0.member))

pub loop-m-preserved : goal.loop-m-preserved
loop-m-preserved c =
    let (lowest, left) = c.in-Some.ensures.steps in
    let (long, walked) = c.loop-m.invariant in
    let small = in_small _ 32 _ (omega arith) (walked.inside _ lowest.member) in (
      simp length-set long,
      rw left (fresh_more _ c.loop-m.out _ c.in-Some.m lowest.member (omega (arith, long, small)) walked c.fresh_in.ensures),
    )

pub returns : goal.returns
returns c = fresh_all _ _ _ _ (rw c.in-None.ensures.steps.0 at c.loop-m.invariant.1)
