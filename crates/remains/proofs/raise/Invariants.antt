-- The entries that were visited are raised, and nothing else has changed.
-- Assumes nothing.
use mathlib.Core.Path.{◌≡◌}
use lib.ListN.{length}
use Rattle.remains.specs.RemainLaws.{Lifting}
use Rattle.remains.proofs.raise.Given as goal

abbrev pub invariant-loop-m : goal.invariant-loop-m
invariant-loop-m l = (length l.initial.row ≡ 32) × Lifting l.modes l.x l.m-iterator.0 l.initial.row l.row
