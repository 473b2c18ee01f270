-- The first i starts are written, and nothing else has changed.
-- Assumes nothing.
use Rattle.starts.specs.Starts.{StartsStored}
use Rattle.starts.proofs.put_starts.Given as goal

abbrev pub invariant-loop-i : goal.invariant-loop-i
invariant-loop-i l = StartsStored l.s l.i l.initial.out l.out
