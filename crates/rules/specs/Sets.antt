-- Sets and intervals, as document 01 uses them. A set of boards, cells or modes is one number.
-- Assumes nothing.
use Rattle.std.specs.Prelude.{ℕ, ◌/◌, ◌%◌, ◌^◌, ◌<◌, ◌≡◌, Bool, true, not, ◌&&◌, eqb, ltb}
use Rattle.std.specs.Int.Bits.{bit_and}

-- "bit 0 of a set is the lowest bit": m is in the set s where bit m of s is 1.
unfoldable pub has : ℕ → ℕ → Bool
has s m = eqb (s / 2 ^ m % 2) 1

-- m is a member of s
abbrev pub In : ℕ → ℕ → Type 0
In m s = has s m ≡ true

-- s and t share a member
abbrev pub Share : ℕ → ℕ → Type 0
Share s t = (m : ℕ) × In m s × In m t

-- each member of s is one of t
abbrev pub Within : ℕ → ℕ → Type 0
Within s t = (m : ℕ) → In m s → In m t

-- "from t up to but not including t + d. Two operations that touch (one ends where the other starts) do not overlap": [a, b) and [c, d),
-- neither of them empty, have a tick in common.
abbrev pub Overlap : ℕ → ℕ → ℕ → ℕ → Type 0
Overlap a b c d = (a < d) × (c < b)

-- ---- the same two as tests that compute, for the judge. The crate `theory` proves that they say Share and Overlap.
unfoldable pub shares : ℕ → ℕ → Bool
shares s t = not (eqb (bit_and s t) 0)

unfoldable pub overlaps : ℕ → ℕ → ℕ → ℕ → Bool
overlaps a b c d = ltb a d && ltb c b
