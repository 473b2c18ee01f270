-- The first k distances of the block are swept; where it ends early, the others ask for nothing.
-- Assumes nothing.
use Prim.Native.Nat.{ℕ, ◌+◌, ◌<◌}
use mathlib.Core.List.{List, []}
use lib.ListN.{get_or}
use Rattle.turns.specs.Turns.{TurnsBy}
use Rattle.boards.specs.Boards.{Sized, Swept}
use Rattle.boards.proofs.sweep_block.Given as goal

abbrev pub invariant-loop-k : goal.invariant-loop-k
invariant-loop-k l =
    Sized l.len l.first l.later l.wrong
    × ((F : List ℕ) (b : ℕ) → ((m : ℕ) → m < 16 → TurnsBy F (l.done + m) (get_or l.row-items m []))
    → Swept F l.cols l.reached l.len b l.done l.q l.initial.later l.initial.wrong → Swept F l.cols l.reached l.len b (l.done + l.k) l.first l.later l.wrong)
