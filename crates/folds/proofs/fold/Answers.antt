-- The text for the bytes is put into the buffer, as many bytes as it counts.
-- Assumes nothing.
use Rattle.std.proofs.Common.{take, ap, ◌∙◌}
use Rattle.rules.specs.Answers.{put}
use Rattle.text.specs.TextLaws.{text_fits}
use Rattle.folds.specs.FoldLaws.{text_is}
use Rattle.folds.proofs.fold.Goals as goal

pub as_bytes-text-requires : goal.as_bytes-text-requires
as_bytes-text-requires c = let made = c.text_of-whole in text_fits made.ensures.0 made.result made.ensures.2

pub returns : goal.returns
returns c =
    let t = c.text_of-whole.result in
    (take t.len t.bytes, text_is c.args.s.now t c.text_of-whole.ensures, c.put_text.ensures ∙ ap (λ b. put b c.args.out.now) c.as_bytes-text.ensures)
