-- The word and the digits behind it, and the end of the line, written into zeros.
-- Assumes nothing.
use native.Mathlib.Omega.{arith}
use Rattle.rules.specs.Text.{gap_line}
use Rattle.says.specs.SayLaws.{gap_short, gap_length, gap_put}
use Rattle.text.specs.TextLaws.{text_made}
use Rattle.says.proofs.gap_line.Goals as goal

pub put_part-end-requires : goal.put_part-end-requires
put_part-end-requires c =
    let s = c in
    omega (arith, gap_short s.args.g (omega (arith, s.ranges.g)))

pub put_bytes-len-requires : goal.put_bytes-len-requires
put_bytes-len-requires c =
    let p = c in
    let s = p in
    omega (arith, p.put_part-end.auto.out, p.put_part-end.ensures.1, gap_short s.args.g (omega (arith, s.ranges.g)))

pub returns : goal.returns
returns c =
    let end = c in
    let first = end in
    let g = first.args.g in
    text_made (gap_line g) _ _ (omega (arith, gap_length g, gap_short g (omega (arith, first.ranges.g)))) (gap_put g _ first.put_part-end.ensures end.put_bytes-len.ensures)
