-- The visited operations that run in the mode are in the set.
-- Assumes nothing.
use Rattle.counting.specs.CountingLaws.{Picked}
use Rattle.counting.proofs.in_mode.Given as goal

abbrev pub invariant-loop-u : goal.invariant-loop-u
invariant-loop-u l = Picked l.cols l.ops l.m l.u-iterator.0 l.all
