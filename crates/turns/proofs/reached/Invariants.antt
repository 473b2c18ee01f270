-- The set grows by what follows, a mode at least in each turn of the loop, and there are 32. Where it has no more of them than before nothing was
-- new, and it is all that a run can reach.
-- Assumes nothing.
use Prim.Native.Nat.{◌-◌, ◌<◌}
use lib.Count.{ones}
use Rattle.turns.specs.TurnLaws.{Growing}
use Rattle.turns.proofs.reached.Given as goal

abbrev pub invariant-loop-all : goal.invariant-loop-all
invariant-loop-all l = (l.all < 4294967296) × Growing l.first l.follow l.all

abbrev pub decreases-loop-all : goal.decreases-loop-all
decreases-loop-all l = 32 - ones l.all
