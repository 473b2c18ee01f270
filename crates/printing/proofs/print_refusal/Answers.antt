-- As many bytes as the text counts are handed on, and they are the line of the refusal.
-- Assumes nothing.
use Rattle.std.proofs.Common.{◌∙◌}
use Rattle.text.specs.TextLaws.{text_fits, text_front}
use Rattle.printing.proofs.print_refusal.Goals as goal

pub as_bytes-counted-requires : goal.as_bytes-counted-requires
as_bytes-counted-requires c = text_fits _ c.refusal_text-line.result c.refusal_text-line.ensures

pub emit_line-requires : goal.emit_line-requires
emit_line-requires c = c.as_bytes-counted.ensures ∙ text_front _ c.refusal_text-line.result c.refusal_text-line.ensures
