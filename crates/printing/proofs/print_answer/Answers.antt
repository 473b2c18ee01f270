-- As many bytes as the text counts are handed on, and they are the text for the question.
-- Assumes nothing.
use Rattle.std.specs.Prelude.{ℕ, List}
use Rattle.std.proofs.Common.{sym, subst}
use Rattle.rules.specs.Answers.{IsSaid}
use Rattle.text.specs.TextLaws.{text_fits}
use Rattle.words.specs.Words.{asked_by}
use Rattle.saying.specs.SaidLaws.{said_is}
use Rattle.printing.proofs.print_answer.Goals as goal

pub as_bytes-counted-requires : goal.as_bytes-counted-requires
as_bytes-counted-requires c = let made = c.say-text in text_fits made.ensures.0 made.result made.ensures.2

pub emit-requires : goal.emit-requires
emit-requires c =
    subst (λ (bytes : List ℕ). IsSaid (asked_by c.args.q) c.args.s.now bytes) (sym c.as_bytes-counted.ensures)
    (said_is _ _ c.say-text.result c.say-text.ensures)
