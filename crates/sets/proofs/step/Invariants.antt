-- `step` goes over the members of s from the lowest up: what follows those that it has passed, and what follows those that are left, is the
-- whole turn.
-- Assumes nothing.
use Rattle.std.proofs.Common.{◌≡◌, bit_or}
use Rattle.theory.specs.Tests.{step}
use Rattle.sets.proofs.step.Given as goal

abbrev pub invariant-loop-m : goal.invariant-loop-m
invariant-loop-m l = bit_or l.all (step l.follow l.m-iterator.0) ≡ step l.follow l.s
