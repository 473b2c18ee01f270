-- No reader that was visited starts before the number, which falls where one does.
-- Assumes nothing.
use Prim.Native.Nat.{◌≤◌}
use Rattle.cells.specs.WalkLaws.{Walked, EarlyAt}
use Rattle.cells.proofs.earliest.Given as goal

abbrev pub invariant-loop-j : goal.invariant-loop-j
invariant-loop-j l = (l.early ≤ 1000) × Walked (EarlyAt l.cols l.early) l.readers l.j-iterator.0
