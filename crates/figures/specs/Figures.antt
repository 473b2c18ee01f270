-- Figures as the code holds them.
-- Assumes nothing.
use Rattle.std.specs.Prelude.{ℕ}
use Rattle.figures.specs.declared.Figures.{Figures}

-- an answer in numbers
abbrev pub figures_of : ℕ → ℕ → ℕ → Figures
figures_of number a b = record { number = number; a = a; b = b }
