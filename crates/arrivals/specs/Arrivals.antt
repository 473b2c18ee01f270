-- What a reader of a value asks, and what each of several asks.
-- Assumes nothing.
use Rattle.std.specs.Prelude.{ℕ, ◌<◌, ◌≡◌, true, List}
use Rattle.rules.specs.Sets.{In, shares}
use Rattle.columns.specs.Columns.{op_by}
use Rattle.columns.specs.declared.Dated.{Dated}
use Rattle.raises.specs.Raises.{InTime}

-- P holds of each number below k, at q
abbrev pub Each : (ℕ → ℕ → Type 0) → ℕ → ℕ → Type 0
Each P k q = (j : ℕ) → j < k → P j q

-- and of each member of a set
abbrev pub Every : (ℕ → ℕ → Type 0) → ℕ → ℕ → Type 0
Every P s q = (j : ℕ) → In j s → P j q

-- at q, what is written at `end` is there for operation j, n + 1 cycles later, if one of the modes that the value has come to is a fresh one
-- of j
abbrev pub ReaderFine : List Dated → (ℕ → ℕ) → ℕ → ℕ → ℕ → ℕ → ℕ → Type 0
ReaderFine cols fresh modes end n j q = shares modes (fresh j) ≡ true → InTime end (op_by cols j).start n q
