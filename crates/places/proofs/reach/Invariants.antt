-- So far by the first m modes.
-- Assumes nothing.
use Prim.Native.Nat.{ℕ, ◌+◌, ◌≤◌}
use lib.ListN.{get_or}
use Rattle.rules.specs.Table.{Table, Accepted}
use Rattle.lives.specs.Left.{Farther}
use Rattle.ranks.specs.Ranks.{CountsOf, RanksOf}
use Rattle.places.proofs.reach.Given as goal

abbrev pub invariant-loop-m : goal.invariant-loop-m
invariant-loop-m l =
    (l.far ≤ l.to) × (l.to ≤ l.s + 32)
    × ((T : Table) (c : ℕ) → Accepted T → CountsOf T c l.counts → RanksOf T c 32 l.starts → Farther T c l.s (λ b. get_or l.row b 0) l.m l.far l.to)
