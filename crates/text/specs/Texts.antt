-- A text as the code holds it, by value.
-- Assumes nothing.
use Rattle.std.specs.Prelude.{ℕ, List, length}
use Rattle.rules.specs.Text.{longest_text}
use Rattle.table.specs.Tables.{padded}
use Rattle.text.specs.declared.Text.{Text}

-- the bytes of a text, with zeros behind them, and how many they are
abbrev pub text_in : List ℕ → Text
text_in bytes = record { bytes = padded longest_text 0 bytes; len = length bytes }
