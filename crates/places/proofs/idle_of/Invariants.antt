-- Those of the first m modes that count nothing are in the set.
-- Assumes nothing.
use Rattle.places.specs.Search.{IdleIn}
use Rattle.places.proofs.idle_of.Given as goal

abbrev pub invariant-loop-m : goal.invariant-loop-m
invariant-loop-m l = IdleIn l.counts l.m l.idle
