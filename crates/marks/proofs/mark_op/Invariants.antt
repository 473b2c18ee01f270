-- The periods of the operations that were visited are marked, and of those the near ones are kept.
-- Assumes nothing.
use mathlib.Core.Path.{◌≡◌}
use lib.ListN.{length}
use Rattle.rules.specs.Sets.{Within}
use Rattle.marks.specs.Marks.{Adds, Hits}
use Rattle.marks.specs.MarkLaws.{SoFar, Keeping}
use Rattle.marks.proofs.mark_op.Given as goal

abbrev pub invariant-loop-m : goal.invariant-loop-m
invariant-loop-m l =
    (length l.wrong ≡ 1000) × Within l.m-iterator.0 l.set × Keeping l.cols l.i l.n l.q l.set l.m-iterator.0 l.keep
    × Adds l.initial.wrong (SoFar l.q l.set (Hits l.cols l.i l.after l.n) l.m-iterator.0) l.wrong
