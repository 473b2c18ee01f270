-- All from q up to x are marked.
-- Assumes nothing.
use Prim.Native.Nat.{ℕ, ◌<◌, ◌≤◌}
use Rattle.marks.specs.Marks.{Marked}
use Rattle.sweeps.proofs.first_unmarked.Given as goal

abbrev pub invariant-loop-x : goal.invariant-loop-x
invariant-loop-x l = (y : ℕ) → l.q ≤ y → y < l.x → Marked l.wrong y
