-- What it takes that the decider can be written.
-- Assumes nothing.
use Rattle.std.specs.Prelude.{ℕ, ◌<◌, ◌≡◌}
use Rattle.rules.specs.Table.{Decider, decides}

-- a number that fits a byte
abbrev pub Byte : Decider → Type 0
Byte who = (d : ℕ) → who ≡ decides d → d < 256
