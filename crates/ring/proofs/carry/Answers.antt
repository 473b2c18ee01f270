-- The first m columns are carried.
-- Assumes nothing.
use mathlib.Core.Path.{◌≡◌}
use native.Mathlib.Omega.{arith}
use lib.ListN.{get_or}
use Rattle.ring.specs.Ring.{carried_by}
use Rattle.ring.specs.RingLaws.{carried_more}
use Rattle.ring.proofs.carry.Goals as goal

pub loop-m-preserved : goal.loop-m-preserved
loop-m-preserved c =
    let a = c.args in
    let k = get_or a.counts.now c.loop-m.m 0 in
    let x = get_or a.row.now c.loop-m.m 0 in
    let e : c.carry_mode.new.ring ≡ carried_by c.loop-m.ring c.loop-m.m a.slot k x = c.carry_mode.ensures in
    rw e (carried_more c.requires.0 (omega arith) c.requires.2 c.loop-m.invariant)
