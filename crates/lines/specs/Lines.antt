-- What a function that writes a piece of the text leaves.
-- Assumes nothing.
use Rattle.std.specs.Prelude.{ℕ, ◌+◌, ◌≡◌, List, ◌++◌, length}
use Rattle.rules.specs.Text.{decimal, newline}
use Rattle.puts.specs.Puts.{stored}

-- from the buffer out, end with the bytes stored at a place, and n the place behind them
abbrev pub Puts : List ℕ → List ℕ → ℕ → ℕ → List ℕ → Type 0
Puts out end at n bytes = (end ≡ stored out at bytes) × (n ≡ at + length bytes)

-- three words, each with a number behind it, and the end of the line
abbrev pub line_of : List ℕ → ℕ → List ℕ → ℕ → List ℕ → ℕ → List ℕ
line_of u x v y w z = u ++ decimal x ++ (v ++ decimal y) ++ (w ++ decimal z) ++ newline
