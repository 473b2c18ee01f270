-- The modes that were visited have the most of their uses, and nothing waits in the others.
-- Assumes nothing.
use Prim.Native.Nat.{◌<◌}
use native.Mathlib.Omega.{arith}
use Rattle.theory.proofs.Sets.{in_small}
use Rattle.offers.specs.Offers.{OfferedMode}
use Rattle.offers.specs.OfferLaws.{filling_none, filling_more, filling_all}
use Rattle.offers.proofs.fill.Goals as goal

pub loop-m-init : goal.loop-m-init
loop-m-init c = rw c.into_iter-m-iterator.ensures.into_iter_gives (filling_none _ _ _ _ c.args.reached c.requires.1)

pub offer_mode-requires : goal.offer_mode-requires
offer_mode-requires c =
    (c.requires.0, in_small _ 32 _ (omega arith) (c.loop-m.invariant.inside _ c.in-Some.ensures.steps.0.member), c.loop-m.invariant.long)

pub loop-m-preserved : goal.loop-m-preserved
loop-m-preserved c =
    let (lowest, left) = c.in-Some.ensures.steps in
    let m = c.in-Some.m in
    let i = c.loop-m in
    let a = c.args in
    let small : m < 32 = in_small _ 32 _ (omega arith) (i.invariant.inside _ lowest.member) in
    let offered : OfferedMode a.cols.now a.writers a.readers m i.ring c.offer_mode.new.ring = c.offer_mode.ensures in
    rw left (filling_more m lowest.member small i.invariant offered)

pub returns : goal.returns
returns c =
    let i = c.loop-m.invariant in
    (i.long, i.low, filling_all (rw c.in-None.ensures.steps.0 at i))
