-- `ended_within` goes over the members of ops from the lowest up: the modes of those that it has passed, and those of what is left, are the modes
-- of all.
-- Assumes nothing.
use Prim.Native.Nat.{◌<◌}
use mathlib.Core.Path.{◌≡◌}
use lib.Bits.{bit_or}
use Rattle.cells.specs.Cells.{ended_in}
use Rattle.cells.proofs.ended_within.Given as goal

abbrev pub invariant-loop-k : goal.invariant-loop-k
invariant-loop-k l =
    (l.k-iterator.0 < 4294967296) × (bit_or l.all (ended_in l.cols l.k-iterator.0 l.after l.by) ≡ ended_in l.cols l.ops l.after l.by)
