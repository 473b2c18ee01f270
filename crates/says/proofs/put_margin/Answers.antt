-- The sign with the word, and the digits behind it.
-- Assumes nothing.
use Prim.Native.Nat.{ℕ}
use mathlib.Core.Path.{◌≡◌, ap}
use mathlib.Core.Bool.{true, false}
use native.Mathlib.Omega.{arith}
use lib.IntN.{pos, nat_abs}
use lib.ListN.{length}
use lib.Signed.{lt_z}
use mir.Facts.{to_z-of_z}
use mir.Syntax.{w32}
use Rattle.rules.specs.Text.{decimal}
use Rattle.says.specs.SayLaws.{signed_below, signed_above, unsigned_short}
use Rattle.says.proofs.put_margin.Goals as goal

pub put_part-requires : goal.put_part-requires
put_part-requires c =
    let n = c in
    let s = n in
    let same : n.unsigned-n.result ≡ nat_abs s.args.m = rw (to_z-of_z {w = w32} s.ranges.m) at n.unsigned-n.ensures in
    omega (arith, ap (λ (k : ℕ). length (decimal k)) same, unsigned_short s.args.m s.ranges.m, s.requires)

pub returns-then-m-lt0 : goal.returns-then-m-lt0
returns-then-m-lt0 c =
    let put = c in
    let n = put in
    let s = n in
    let read = to_z-of_z {w = w32} s.ranges.m in
    let below : lt_z s.args.m (pos 0) ≡ true = rw read at put.if-m-lt0.true in
    let same : n.unsigned-n.result ≡ nat_abs s.args.m = rw read at n.unsigned-n.ensures in
    rw (signed_below s.args.m below, ← same) put.put_part.ensures

pub put_part-requires-2 : goal.put_part-requires-2
put_part-requires-2 c =
    let n = c in
    let s = n in
    let same : n.unsigned-n.result ≡ nat_abs s.args.m = rw (to_z-of_z {w = w32} s.ranges.m) at n.unsigned-n.ensures in
    omega (arith, ap (λ (k : ℕ). length (decimal k)) same, unsigned_short s.args.m s.ranges.m, s.requires)

pub returns : goal.returns
returns c =
    let put = c in
    let n = put in
    let s = n in
    let read = to_z-of_z {w = w32} s.ranges.m in
    let above : lt_z s.args.m (pos 0) ≡ false = rw read at put.if-m-lt0.false in
    let same : n.unsigned-n.result ≡ nat_abs s.args.m = rw read at n.unsigned-n.ensures in
    rw (signed_above s.args.m above, ← same) put.put_part-2.ensures
