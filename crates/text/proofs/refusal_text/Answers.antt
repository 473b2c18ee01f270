-- The line is written into zeros, which are more than it has bytes.
-- Assumes nothing.
use Rattle.std.proofs.Common.{◌^◌, ◌<◌, ◌≤◌, length, sym, ap, ◌∙◌, rules, arith}
use Rattle.rules.specs.Text.{refused_line, longest_text}
use Rattle.theory.proofs.Text.{refused_short}
use Rattle.fields.specs.RefusalLaws.{refusal_at}
use Rattle.text.specs.Texts.{text_in}
use Rattle.text.specs.TextLaws.{refusal_text, text_made}
use Rattle.text.proofs.refusal_text.Goals as goal

pub returns : goal.returns
returns c =
    let f = c.from.result in
    let small : f.number < 2 ^ 32 = search rules in
    let n : f.number < 2 ^ 64 = omega (arith, small) in
    let a : f.a < 2 ^ 64 = search rules in
    let b : f.b < 2 ^ 64 = search rules in
    let short : length (refused_line f.number f.a f.b) ≤ longest_text = omega (arith, refused_short f.number f.a f.b n a b) in
    text_made (refused_line f.number f.a f.b) _ _ short c.put_refused_line-len.ensures
    ∙ ap text_in (sym (refusal_text _ (refusal_at c.args.r c.from.ensures)))
