-- The stream is that of a question, or that of words that ask nothing.
-- Assumes nothing.
use mathlib.Core.Path.{sym, ◌∙◌}
use Rattle.saying.specs.SaidLaws.{asked_printed, unasked_printed}
use Rattle.printing.proofs.emit.Goals as goal

pub emit_said-requires : goal.emit_said-requires
emit_said-requires c =
    let asked = c in
    let s = asked in
    (s.requires, asked_printed _ _ (sym asked.is_asked.ensures ∙ c.if-is_asked.true))

pub emit_list-requires : goal.emit_list-requires
emit_list-requires c =
    let asked = c in
    let s = asked in
    (s.requires, unasked_printed _ _ (sym asked.is_asked.ensures ∙ c.if-is_asked.false))
