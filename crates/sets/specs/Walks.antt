-- A walk over the members of a set: which one is next, and what is left then.
-- Assumes nothing.
use Rattle.std.specs.Prelude.{ℕ, ◌^◌, ◌≡◌, Option, Some, None}
use Rattle.theory.specs.Tests.{without}
use Rattle.sets.specs.declared.Members as code
use Rattle.sets.specs.Members.{IsLowest}

abbrev pub IsNext : code.Members → Option ℕ → code.Members → Type 0
IsNext left None after = (left.0 ≡ 0) × (after.0 ≡ 0)
IsNext left (Some m) after = IsLowest left.0 m × (after.0 ≡ without left.0 (2 ^ m))
