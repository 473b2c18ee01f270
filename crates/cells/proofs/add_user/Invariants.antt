-- The operation is in the sets of the cells that were visited, and nothing else has changed.
-- Assumes nothing.
use mathlib.Core.Path.{◌≡◌}
use lib.ListN.{length}
use Rattle.cells.specs.UserLaws.{Adding}
use Rattle.cells.proofs.add_user.Given as goal

abbrev pub invariant-loop-c : goal.invariant-loop-c
invariant-loop-c l = (length l.initial.users ≡ 32) × Adding l.initial.users l.k l.cells l.c-iterator.0 l.users
