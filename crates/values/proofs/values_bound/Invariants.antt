-- The bound is raised by the first c cells; raised by all of them it is the bound of the values of a table that has these columns.
-- Assumes nothing.
use Prim.Native.Nat.{◌≤◌}
use lib.ListN.{get_or}
use Rattle.arrivals.specs.Arrivals.{Each}
use Rattle.raises.specs.Raises.{Raised}
use Rattle.values.specs.Bounds.{CellFine}
use Rattle.values.proofs.values_bound.Given as goal

abbrev pub invariant-loop-c : goal.invariant-loop-c
invariant-loop-c l =
    (1 ≤ l.bound) × (l.bound ≤ 1000) × Raised 1 (Each (λ k. CellFine l.follow l.cols l.reached (get_or l.writers k 0) (get_or l.readers k 0)) l.c) l.bound
