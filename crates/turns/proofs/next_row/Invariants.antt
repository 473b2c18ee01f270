-- The sets of the first m modes are there.
-- Assumes nothing.
use mathlib.Core.Path.{◌≡◌}
use lib.ListN.{take, get_or}
use Rattle.theory.specs.Tests.{step}
use Rattle.turns.specs.Turns.{tab}
use Rattle.turns.proofs.next_row.Given as goal

abbrev pub invariant-loop-m : goal.invariant-loop-m
invariant-loop-m l = take l.m l.set-items ≡ tab (λ i. step l.row (get_or l.follow i 0)) l.m
