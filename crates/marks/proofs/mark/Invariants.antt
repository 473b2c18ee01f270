-- The numbers below x are marked.
-- Assumes nothing.
use Prim.Native.Nat.{◌<◌, ◌≤◌, max}
use Rattle.marks.specs.Marks.{Adds}
use Rattle.marks.proofs.mark.Given as goal

abbrev pub invariant-loop-x : goal.invariant-loop-x
invariant-loop-x l = (l.x ≤ max l.from l.to) × Adds l.initial.wrong (λ y. (l.from ≤ y) × (y < l.x)) l.wrong
