-- The text for a question, as the code holds it.
-- Assumes nothing.
use Rattle.std.specs.Prelude.{ℕ, ◌≡◌, List}
use Rattle.rules.specs.Answers.{IsSaid}
use Rattle.text.specs.declared.Text.{Text}
use Rattle.text.specs.Texts.{text_in}
use Rattle.words.specs.declared.Question.{Question}
use Rattle.words.specs.Words.{asked_by}

-- the text for a question about the bytes s, whole
abbrev pub SaidFor : Question → List ℕ → Text → Type 0
SaidFor q s t = (text : List ℕ) × IsSaid (asked_by q) s text × (t ≡ text_in text)
