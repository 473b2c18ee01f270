-- A refusal of the reply is told; an accepted one is told line by line.
-- Assumes nothing.
use Rattle.std.proofs.Common.{ap, ◌∙◌}
use Rattle.rules.specs.Judge.{judge_reply}
use Rattle.rules.specs.Text.{starts_text}
use Rattle.fields.specs.RefusalLaws.{heard_refusal}
use Rattle.starts.specs.Starts.{heard}
use Rattle.text.specs.Texts.{text_in}
use Rattle.text.specs.TextLaws.{told_refusal}
use Rattle.start_lines.proofs.starts_text.Goals as goal

pub returns-in-Err : goal.returns-in-Err
unfolding heard
returns-in-Err c =
    let refused = heard_refusal (judge_reply c.args.s.now) c.in-Err.r c.in-Err.ensures in
    c.refusal_text.ensures ∙ ap text_in (told_refusal starts_text c.in-Err.r refused)
