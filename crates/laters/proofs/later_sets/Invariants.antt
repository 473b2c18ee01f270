-- The first i sets are there.
-- Assumes nothing.
use Rattle.laters.specs.Laters.{AllLater}
use Rattle.laters.proofs.later_sets.Given as goal

abbrev pub invariant-loop-i : goal.invariant-loop-i
invariant-loop-i l = AllLater l.cols l.q l.i l.set-items
