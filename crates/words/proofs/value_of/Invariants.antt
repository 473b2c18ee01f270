-- The first digits are read: the number goes on from v with the rest.
-- Assumes nothing.
use Prim.Native.Nat.{◌≤◌}
use mathlib.Core.Path.{◌≡◌}
use mathlib.Core.Bool.{true}
use lib.ListN.{drop}
use Rattle.rules.specs.Words.{digits_only, value_from, value_of}
use Rattle.words.specs.Words.{capped, largest}
use Rattle.words.proofs.value_of.Given as goal

abbrev pub invariant-loop-d : goal.invariant-loop-d
invariant-loop-d l =
    (l.v ≤ largest) × (digits_only (drop l.d-index l.w) ≡ true) × (capped (value_of l.w) ≡ capped (value_from l.v (drop l.d-index l.w)))
