-- The periods of the operations that were visited are marked, and of those the near ones are kept.
-- Assumes nothing.
use Prim.Native.Nat.{◌<◌}
use mathlib.Core.Path.{◌∙◌}
use native.Mathlib.Omega.{arith}
use Rattle.theory.proofs.Says.{clash_bool}
use Rattle.theory.proofs.Sets.{in_small}
use Rattle.sets.specs.Members.{rest_within}
use Rattle.marks.specs.MarkLaws.{adds_first, adds_next, adds_all, keeping_first, keeping_near, keeping_far, keeping_all}
use Rattle.marks.proofs.mark_op.Goals as goal

pub loop-m-init : goal.loop-m-init
loop-m-init c =
    rw c.into_iter-m-iterator.ensures.into_iter_gives (c.requires.0, λ j h. h, keeping_first _ _ _ _ _, adds_first _ _ _ _)

pub mark_one-requires : goal.mark_one-requires
mark_one-requires c =
    let p = c.requires in
    let i = c.loop-m.invariant in
    let small : c.in-Some.m < 32 = in_small _ 32 _ (omega arith) (i.1 _ c.in-Some.ensures.steps.0.member) in
    (i.0, p.1, small, p.2, p.3, p.4)

pub rest-keep-requires : goal.rest-keep-requires
rest-keep-requires c =
    in_small _ 32 _ (omega arith) (c.loop-m.invariant.1 _ c.in-Some.ensures.steps.0.member)

pub loop-m-preserved-then-not-mark_one : goal.loop-m-preserved-then-not-mark_one
loop-m-preserved-then-not-mark_one c =
    let i = c.loop-m in
    let (lowest, left) = c.in-Some.ensures.steps in
    let (long, inside, k, marked) = i.invariant in
    let (near, adds) = c.mark_one.ensures in
    let far = keeping_far _ _ _ _ _ _ _ _ inside lowest.member k (λ h. clash_bool (near.1 h) c.if-not-mark_one.true) in
    rw left (
      adds.long ∙ long,
      rest_within c.args.set i.m-iterator.0 c.in-Some.m inside lowest.member,
      rw c.rest-keep.ensures far,
      adds_next _ _ _ i.m-iterator.0 c.in-Some.m inside lowest.member marked adds,
    )

pub loop-m-preserved : goal.loop-m-preserved
loop-m-preserved c =
    let i = c.loop-m in
    let (lowest, left) = c.in-Some.ensures.steps in
    let (long, inside, k, marked) = i.invariant in
    let (near, adds) = c.mark_one.ensures in
    rw left (
      adds.long ∙ long,
      rest_within c.args.set i.m-iterator.0 c.in-Some.m inside lowest.member,
      keeping_near _ _ _ _ _ _ _ _ inside lowest.member k (near.0 c.if-not-mark_one.false),
      adds_next _ _ _ i.m-iterator.0 c.in-Some.m inside lowest.member marked adds,
    )

pub returns : goal.returns
returns c =
    let i = rw c.in-None.ensures.steps.0 at c.loop-m.invariant in
    (keeping_all _ _ _ _ _ i.2, adds_all _ _ _ i.3)
