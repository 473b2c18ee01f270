-- The modes of the first j operations are in their places.
-- Assumes nothing.
use Rattle.gaps.specs.Holders.{ModesOf}
use Rattle.gaps.proofs.modes_of.Given as goal

abbrev pub invariant-loop-j : goal.invariant-loop-j
invariant-loop-j l = ModesOf l.cols l.j l.modes-items
