-- The loops pass only pairs that are not hit, so a pair at which they stop is the first that is.
-- Assumes nothing.
use Rattle.std.proofs.Common.{◌≡◌, ◌<◌, ◌≤◌, ◌-◌, Bool, None}
use Rattle.rules.specs.Table.{Op}
use Rattle.whole.specs.Whole.{TestsBy}
use Rattle.whole.specs.PairLaws.{RowsClear, RowClear}
use Rattle.whole.proofs.first_pair.Given as goal

abbrev pub invariant-pairs : goal.invariant-pairs
invariant-pairs g l = (l.found ≡ None) × ((h : Op → Op → Bool) → TestsBy (goal.F-post g l.hit) l.t h → RowsClear h l.t l.i)

abbrev pub decreases-pairs : goal.decreases-pairs
decreases-pairs g l = l.t.count - l.i

abbrev pub invariant-loop-j : goal.invariant-loop-j
invariant-loop-j g l =
    (l.i < l.j)
    × (l.found ≡ None)
    × ((h : Op → Op → Bool) → TestsBy (goal.F-post g l.hit) l.t h → RowsClear h l.t l.i)
    × ((h : Op → Op → Bool) → TestsBy (goal.F-post g l.hit) l.t h → RowClear h l.t l.i l.j)

abbrev pub decreases-loop-j : goal.decreases-loop-j
decreases-loop-j g l = l.t.count - l.j
