-- The numbers of the first c cells are written, and nothing else has changed.
-- Assumes nothing.
use mathlib.Core.Path.{◌≡◌}
use lib.ListN.{length, take}
use Rattle.rules.specs.Bytes.{places_bytes}
use Rattle.puts.specs.Puts.{stored}
use Rattle.stores.proofs.put_places.Given as goal

abbrev pub invariant-loop-c : goal.invariant-loop-c
invariant-loop-c l = (length l.out ≡ length l.initial.out) × (l.out ≡ stored l.initial.out 0 (places_bytes (take l.c l.rs)))
