-- The sets of the readers that were visited are there.
-- Assumes nothing.
use mathlib.Core.Path.{◌≡◌}
use lib.ListN.{length}
use Rattle.cells.specs.WalkLaws.{Walked, FreshAt}
use Rattle.cells.proofs.fresh_sets.Given as goal

abbrev pub invariant-loop-m : goal.invariant-loop-m
invariant-loop-m l = (length l.out ≡ 32) × Walked (FreshAt l.cols l.writers l.out) l.readers l.m-iterator.0
