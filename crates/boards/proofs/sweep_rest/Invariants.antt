-- The first `done` distances are swept, and `last` is the row of the last of them.
-- Assumes nothing.
use Prim.Native.Nat.{ℕ, ◌-◌, ◌≤◌}
use mathlib.Core.Path.{◌≡◌}
use lib.ListN.{length}
use Rattle.turns.specs.Turns.{TurnsBy}
use Rattle.boards.specs.Boards.{Sized, Swept}
use Rattle.boards.proofs.sweep_rest.Given as goal

abbrev pub invariant-loop-done : goal.invariant-loop-done
invariant-loop-done l =
    (1 ≤ l.done) × (l.done ≤ 1016) × Sized l.len l.first l.later l.wrong × (length l.last ≡ 32) × TurnsBy l.follow (l.done - 1) l.last
    × ((b : ℕ) → Swept l.follow l.cols l.reached l.len b 1 l.q l.initial.later l.initial.wrong → Swept l.follow l.cols l.reached l.len b l.done l.first l.later l.wrong)

abbrev pub decreases-loop-done : goal.decreases-loop-done
decreases-loop-done l = 2000 - l.done
