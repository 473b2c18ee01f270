-- The sum grows in each turn of the loop, and no entry is above 1000. Where it does not grow no entry has changed, so each mode has already handed on
-- what it has.
-- Assumes nothing.
use mathlib.Core.Path.{◌≡◌}
use native.Mathlib.Omega.{arith}
use Rattle.rules.specs.Places.{sum}
use Rattle.remains.specs.RemainLaws.{entries, low_sum, settling_more, settling_all, passed_sum}
use Rattle.remains.proofs.settle.Goals as goal

pub loop-all-smaller : goal.loop-all-smaller
loop-all-smaller c =
    let p = c.pass in
    let i = c.loop-all in
    omega (arith, c.total-more.ensures, i.invariant.0, passed_sum p.ensures, low_sum p.new.row 32 p.ensures.low)

pub loop-all-preserved : goal.loop-all-preserved
loop-all-preserved c =
    let p = c.pass.ensures in
    let i = c.loop-all in
    (c.total-more.ensures, settling_more i.invariant.1 p)

pub returns : goal.returns
returns c =
    let i = c.loop-all in
    let same : sum (entries c.pass.new.row) 32 ≡ sum (entries i.next) 32 = omega (arith, c.total-more.ensures, i.invariant.0) in
    settling_all i.invariant.1 c.pass.ensures same
