-- The loop passes only operations that are late enough, so one at which it stops is the lowest that is not.
-- Assumes nothing.
use Rattle.early.specs.EarlyLaws.{LateTo}
use Rattle.early.proofs.first_early.Given as goal

abbrev pub invariant-loop-i : goal.invariant-loop-i
invariant-loop-i l = LateTo l.t l.d l.i
