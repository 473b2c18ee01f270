-- The sets of the first m modes are there.
-- Assumes nothing.
use Prim.Native.Nat.{◌<◌}
use mathlib.Core.Path.{◌≡◌, refl, sym, ◌∙◌}
use native.Mathlib.Omega.{arith}
use native.Mathlib.Numerals.{add-one}
use lib.ListN.{length, get_or}
use lib.Seq.{take_all, take-suc-set}
use Rattle.theory.specs.Tests.{step}
use Rattle.turns.specs.Turns.{tab, next_row}
use Rattle.turns.specs.TurnLaws.{tab_suc}
use Rattle.turns.proofs.next_row.Goals as goal

pub loop-m-init : goal.loop-m-init
unfolding tab
loop-m-init c = refl

pub loop-m-preserved : goal.loop-m-preserved
loop-m-preserved c =
    let l : c.loop-m.m < length c.loop-m.set-items = omega arith in
    let e : c.step.result ≡ step c.args.row.now (get_or c.args.follow.now c.loop-m.m 0) = c.step.ensures in
    rw (add-one, take-suc-set, tab_suc, e, c.loop-m.invariant)

pub returns : goal.returns
unfolding next_row
returns c =
    let e : c.loop-m.m ≡ 32 = omega arith in
    sym (take_all 32 c.loop-m.set-items (omega arith)) ∙ rw e at c.loop-m.invariant
