-- The operations so far are those that come before the rest, and the table holds them.
-- Assumes nothing.
use Prim.Native.Nat.{◌-◌}
use mathlib.Core.Path.{◌≡◌}
use lib.ListN.{length}
use Rattle.rules.specs.Judge.{head_of, ops_place}
use Rattle.reading.specs.ReadingLaws.{SoFar}
use Rattle.reading.proofs.read_ops.Given as goal

abbrev pub invariant-loop-counts : goal.invariant-loop-counts
invariant-loop-counts l = (l.first ≡ ops_place (head_of l.s).modes) × SoFar l.s l.t l.at

abbrev pub decreases-loop-counts : goal.decreases-loop-counts
decreases-loop-counts l = length l.s - l.at
