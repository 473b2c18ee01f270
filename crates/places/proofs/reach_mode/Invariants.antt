-- From far on each write so far starts before x.
-- Assumes nothing.
use Prim.Native.Nat.{ℕ, ◌+◌, ◌*◌, ◌<◌, ◌≤◌}
use lib.ListN.{get_or}
use Rattle.places.proofs.reach_mode.Given as goal

abbrev pub invariant-loop-to : goal.invariant-loop-to
invariant-loop-to l = (g : ℕ) → l.far ≤ l.s + g → l.s + g < l.to → get_or l.starts (32 * l.m + g) 0 < l.x
