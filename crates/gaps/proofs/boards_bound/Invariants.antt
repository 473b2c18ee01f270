-- The bound is raised by the first i operations.
-- Assumes nothing.
use Prim.Native.Nat.{◌≤◌}
use Rattle.arrivals.specs.Arrivals.{Each}
use Rattle.raises.specs.Raises.{Raised}
use Rattle.gaps.specs.Holders.{HolderFine}
use Rattle.gaps.proofs.boards_bound.Given as goal

abbrev pub invariant-loop-i : goal.invariant-loop-i
invariant-loop-i l =
    (1 ≤ l.most) × (l.most ≤ 1000) × Raised l.bound (Each (HolderFine l.follow l.cols l.reached) l.i) l.most
