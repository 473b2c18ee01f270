-- Those of the first j operations that may meet i are in the set.
-- Assumes nothing.
use Rattle.laters.specs.Laters.{LaterOf}
use Rattle.laters.proofs.later_of.Given as goal

abbrev pub invariant-loop-j : goal.invariant-loop-j
invariant-loop-j l = LaterOf l.cols l.i l.q l.j l.all
