-- The places of the first c cells are there.
-- Assumes nothing.
use Prim.Native.Nat.{ℕ, ◌<◌}
use mathlib.Core.Path.{◌≡◌}
use lib.ListN.{length, get_or}
use Rattle.rules.specs.Places.{IsPlaces}
use Rattle.table.specs.Tables.{table_of}
use Rattle.places.proofs.each.Given as goal

abbrev pub invariant-loop-c : goal.invariant-loop-c
invariant-loop-c l = (length l.out ≡ 32) × ((d : ℕ) → d < l.c → IsPlaces (table_of l.fn.t) l.q d (get_or l.out d 0))
