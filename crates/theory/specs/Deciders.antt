-- Document 02, No. 4: the operation that EARLY names.
-- Assumes nothing.
use Rattle.std.specs.Prelude.{ℕ, ◌<◌, ◌≡◌}
use Rattle.rules.specs.Table.{Table, nops, op, end_of, Always}

-- operation i "doesn't run in every mode", and starts before the end of the decider d
abbrev pub TooEarly : Table → ℕ → ℕ → Type 0
TooEarly T d i = (Always T (op T i) → ⊥) × ((op T i).start < end_of (op T d))

-- "b the lowest operation that starts too early, or b the decider itself where it doesn't run in every mode, which is tested first"
pub data FirstEarly (T : Table) (d b : ℕ) : Type 0 where
  itself : b ≡ d → (Always T (op T d) → ⊥) → FirstEarly T d b
  lowest : Always T (op T d) → b < nops T → TooEarly T d b → ((j : ℕ) → j < b → TooEarly T d j → ⊥) → FirstEarly T d b
