-- The margin with its word, and the end of the line, written into zeros.
-- Assumes nothing.
use Prim.Native.Nat.{◌+◌}
use mathlib.Core.Path.{◌≡◌}
use mathlib.Core.List.{◌++◌}
use native.Mathlib.Omega.{arith}
use lib.ListN.{length}
use mir.Facts.{to_z-of_z}
use mir.Syntax.{w32}
use Rattle.rules.specs.Text.{margin_word, signed, margin_line}
use Rattle.says.specs.SayLaws.{signed_short, margin_length, margin_put}
use Rattle.text.specs.TextLaws.{text_made}
use Rattle.says.proofs.margin_text.Goals as goal

pub put_bytes-len-requires : goal.put_bytes-len-requires
put_bytes-len-requires c =
    let m = c.put_margin-end in
    let s = c in
    let end : m.result ≡ 0 + length (margin_word ++ signed s.args.m) = rw (to_z-of_z {w = w32} s.ranges.m) at m.ensures.1 in
    omega (arith, m.auto.out, signed_short s.args.m s.ranges.m)

pub returns : goal.returns
returns c =
    let end = c in
    let first = end in
    let s = first in
    let m = s.args.m in
    text_made (margin_line m) _ _ (omega (arith, margin_length m, signed_short m s.ranges.m)) (margin_put m _ (rw (to_z-of_z {w = w32} s.ranges.m) at first.put_margin-end.ensures) end.put_bytes-len.ensures)
