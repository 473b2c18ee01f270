-- The first m columns are carried.
-- Assumes nothing.
use Rattle.ring.specs.Ring.{Carried}
use Rattle.ring.proofs.carry.Given as goal

abbrev pub invariant-loop-m : goal.invariant-loop-m
invariant-loop-m l = Carried l.row l.counts l.slot l.m l.initial.ring l.ring
