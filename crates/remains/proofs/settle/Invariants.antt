-- The sum grows in each turn of the loop, and no entry is above 1000. Where it does not grow no entry has changed, so each mode has already handed on
-- what it has.
-- Assumes nothing.
use Prim.Native.Nat.{◌-◌}
use mathlib.Core.Path.{◌≡◌}
use Rattle.rules.specs.Places.{sum}
use Rattle.remains.specs.RemainLaws.{entries, Settling}
use Rattle.remains.proofs.settle.Given as goal

abbrev pub invariant-loop-all : goal.invariant-loop-all
invariant-loop-all l = (l.all ≡ sum (entries l.next) 32) × Settling l.follow l.idle l.q l.initial.next l.next

abbrev pub decreases-loop-all : goal.decreases-loop-all
decreases-loop-all l = 32000 - l.all
