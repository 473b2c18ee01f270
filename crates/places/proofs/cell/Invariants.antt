-- What is known before row s: the numbers below it are differences, how far the rows reach, and what waits.
-- Assumes nothing.
use Prim.Native.Nat.{ℕ, ◌+◌, ◌≤◌, ◌%◌}
use mathlib.Core.Path.{◌≡◌}
use lib.ListN.{length}
use Rattle.rules.specs.Table.{Table}
use Rattle.lives.specs.Left.{Low}
use Rattle.places.specs.Search.{CellOf, Known}
use Rattle.places.proofs.cell.Given as goal

abbrev pub invariant-loop-s : goal.invariant-loop-s
invariant-loop-s l =
    (l.far ≤ l.s + 32) × (length l.ring ≡ 1056) × Low l.ring 1056
    × ((T : Table) (c : ℕ) → CellOf T c l.cols l.follow l.reached l.writers l.readers → Known T l.q c l.s l.far (l.s % 33) l.ring)
