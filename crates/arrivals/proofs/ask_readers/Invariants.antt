-- The bound is raised by the readers that were visited.
-- Assumes nothing.
use Prim.Native.Nat.{◌≤◌}
use lib.ListN.{get_or}
use Rattle.arrivals.specs.Arrivals.{ReaderFine}
use Rattle.arrivals.specs.EachLaws.{Raising}
use Rattle.arrivals.proofs.ask_readers.Given as goal

abbrev pub invariant-loop-m : goal.invariant-loop-m
invariant-loop-m l =
    (l.most ≤ 1000) × Raising (ReaderFine l.cols (λ j. get_or l.fresh j 0) l.modes l.end l.n) l.bound l.readers l.m-iterator.0 l.most
