-- What waits at the first m modes has come.
-- Assumes nothing.
use Prim.Native.Nat.{ℕ, ◌+◌, ◌-◌, ◌*◌, ◌<◌}
use mathlib.Core.Path.{refl, ◌∙◌}
use native.Mathlib.Omega.{arith}
use lib.ListN.{get_or, get_or-replicate}
use Rattle.remains.specs.Remains.{Lifted}
use Rattle.remains.specs.RemainLaws.{lifted_low, spread_none, spread_more}
use Rattle.remains.proofs.spread.Goals as goal

pub loop-m-init : goal.loop-m-init
loop-m-init c = (refl, λ b h. rw (get_or-replicate {A = ℕ} 32 b 0 0 h) (omega arith), spread_none _ _ _ _)

pub loop-m-preserved : goal.loop-m-preserved
loop-m-preserved c =
    let a = c.args in
    let m = c.loop-m.m in
    let at : 32 * a.slot + m < 1056 = omega arith in
    let x : Lifted (get_or a.follow.now m 0) (get_or a.ring.now (32 * a.slot + m) 0 - a.q) c.loop-m.row c.hand_on.new.row = c.hand_on.ensures in
    (x.long ∙ c.loop-m.invariant.0, lifted_low x (omega (arith, c.requires.1 _ at)) c.loop-m.invariant.1, spread_more _ _ _ _ c.loop-m.invariant.2 x)
