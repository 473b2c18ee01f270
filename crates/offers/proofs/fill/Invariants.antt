-- The modes that were visited have the most of their uses, and nothing waits in the others.
-- Assumes nothing.
use Rattle.offers.specs.OfferLaws.{Filling}
use Rattle.offers.proofs.fill.Given as goal

abbrev pub invariant-loop-m : goal.invariant-loop-m
invariant-loop-m l = Filling l.cols l.writers l.readers l.reached l.m-iterator.0 l.ring
