-- The text for a table's bytes, as the code holds it.
-- Assumes nothing.
use Rattle.std.specs.Prelude.{ℕ, ◌≡◌, List}
use Rattle.rules.specs.Table.{Table}
use Rattle.rules.specs.Runs.{IsPeriod}
use Rattle.rules.specs.Rows.{reply_of}
use Rattle.rules.specs.Text.{reply_text}
use Rattle.rules.specs.Answers.{IsText}
use Rattle.text.specs.declared.Text.{Text}
use Rattle.text.specs.Texts.{text_in}

-- the text of an accepted table's reply, at its period
abbrev pub TableText : Table → Text → Type 0
TableText T t = (q : ℕ) × IsPeriod T q × (t ≡ text_in (reply_text (reply_of T q)))

-- the text for a table's bytes, whole
abbrev pub TextFor : List ℕ → Text → Type 0
TextFor s t = (bytes : List ℕ) × IsText s bytes × (t ≡ text_in bytes)
