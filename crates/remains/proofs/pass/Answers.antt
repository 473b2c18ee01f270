-- The modes that were visited have handed on what they had, and what bounds all that is left still bounds the row.
-- Assumes nothing.
use Prim.Native.Nat.{◌-◌}
use native.Mathlib.Omega.{arith}
use lib.ListN.{get_or}
use Rattle.theory.proofs.Sets.{in_small}
use Rattle.remains.specs.Remains.{Lifted}
use Rattle.remains.specs.RemainLaws.{passing_more, passing_all}
use Rattle.remains.proofs.pass.Goals as goal

pub bounds-row-i : goal.bounds-row-i
bounds-row-i c = in_small _ 32 _ (omega arith) (c.loop-m.invariant.inside _ c.in-Some.ensures.steps.0.member)

pub bounds-follow-i : goal.bounds-follow-i
bounds-follow-i c = in_small _ 32 _ (omega arith) (c.loop-m.invariant.inside _ c.in-Some.ensures.steps.0.member)

pub loop-m-preserved : goal.loop-m-preserved
loop-m-preserved c =
    let (lowest, left) = c.in-Some.ensures.steps in
    let m = c.in-Some.m in
    let i = c.loop-m in
    let a = c.args in
    let small = in_small m 32 _ (omega arith) (i.invariant.inside _ lowest.member) in
    let x : Lifted (get_or a.follow.now m 0) (get_or i.row m 0 - a.q) i.row c.hand_on.new.row = c.hand_on.ensures in
    rw left (passing_more m lowest.member small i.invariant x)

pub returns : goal.returns
returns c = passing_all (rw c.in-None.ensures.steps.0 at c.loop-m.invariant)
