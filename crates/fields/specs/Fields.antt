-- The tests of a field without its ranges.
-- Assumes nothing.
use Rattle.std.specs.Prelude.{ℕ, ◌+◌, ◌<◌, ◌≡◌, List, Option, Some, None}
use Rattle.rules.specs.Verdicts.{Test, accepted, refused, RANGE, ◌then◌}
use Rattle.rules.specs.Judge.{needed, header, due, not_many, sized, complete}

unfoldable pub sized_of : List ℕ → ℕ → ℕ → Test
sized_of s at size = sized s at size then complete s at size

unfoldable pub field_of : List ℕ → ℕ → ℕ → ℕ → Test
field_of s at tag size = needed s at then header s at then due s at tag then sized_of s at size

unfoldable pub repeat_of : List ℕ → ℕ → ℕ → ℕ → ℕ → Test
repeat_of s at left tag size = header s at then due s at tag then not_many at left then sized_of s at size

-- where in its field the first wrong number begins, as the rules tell it: n, and 0 where none is wrong
abbrev pub IsPlace : Option ℕ → ℕ → Type 0
IsPlace None n = 0 ≡ n
IsPlace (Some w) n = (w ≡ n) × (0 < w)

-- what the range test says of the field at a place: where a number is told, it is wrong, whatever its place in the field
abbrev pub told_wrong : Option ℕ → ℕ → Test
told_wrong None at = accepted tt
told_wrong (Some w) at = refused RANGE at (at + w)
