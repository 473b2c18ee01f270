-- Those of the visited operations that end by the date, and those of what is left, are all that do.
-- Assumes nothing.
use Prim.Native.Nat.{◌+◌, ◌≤◌}
use mathlib.Core.Path.{◌≡◌}
use Rattle.counting.specs.Counting.{ended_of}
use Rattle.counting.proofs.ended.Given as goal

abbrev pub invariant-loop-u : goal.invariant-loop-u
invariant-loop-u l = (l.u-iterator.0 ≤ l.ops) × (l.n + ended_of l.cols l.u-iterator.0 l.by ≡ ended_of l.cols l.ops l.by)
