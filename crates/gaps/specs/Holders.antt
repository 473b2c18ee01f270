-- What an operation that holds boards asks of a gap.
-- Assumes nothing.
use Rattle.std.specs.Prelude.{ℕ, ◌<◌, ◌≡◌, true, List, get_or}
use Rattle.std.specs.Int.Bits.{bit_and}
use Rattle.rules.specs.Sets.{Share, shares}
use Rattle.rules.specs.Table.{Op, held_to}
use Rattle.theory.specs.Tests.{via}
use Rattle.columns.specs.Columns.{op_by}
use Rattle.columns.specs.declared.Dated.{Dated}
use Rattle.raises.specs.Raises.{InTime}

-- the modes of the first k operations
pub record ModesOf (cols : List Dated) (k : ℕ) (modes : List ℕ) : Type 0 where
  pub each : (j : ℕ) → j < k → get_or modes j 0 ≡ (op_by cols j).modes

-- at the gap g, operation o has let go of its boards when u, which shares one, starts m + 1 gaps later, if a run through the modes R can come
-- from the one to the other in so many turns; F has the followers of each mode
abbrev pub LetsGo : List ℕ → ℕ → ℕ → ℕ → Op → Op → Type 0
LetsGo F R m g o u =
    Share o.boards u.boards → shares (via F 0 m (bit_and R o.modes)) u.modes ≡ true → InTime (held_to o) u.start m g

-- so of operation i and every other, itself included, whatever m
unfoldable pub HolderFine : List ℕ → List Dated → ℕ → ℕ → ℕ → Type 0
HolderFine F cols R i g = (m j : ℕ) → j < 32 → LetsGo F R m g (op_by cols i) (op_by cols j)
