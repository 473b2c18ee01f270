-- The bound is raised by what the writers that were visited write into the cell.
-- Assumes nothing.
use Prim.Native.Nat.{◌≤◌}
use Rattle.arrivals.specs.EachLaws.{Raising}
use Rattle.values.specs.Bounds.{WriterFine}
use Rattle.values.proofs.ask_cell.Given as goal

abbrev pub invariant-loop-m : goal.invariant-loop-m
invariant-loop-m l =
    (1 ≤ l.most) × (l.most ≤ 1000) × Raising (WriterFine l.follow l.cols l.reached l.writers l.readers) l.bound l.writers l.m-iterator.0 l.most
