-- The line of a refusal is one of three words with numbers.
-- Assumes nothing.
use Prim.Native.Nat.{◌^◌, ◌<◌}
use mathlib.Core.Path.{ap}
use native.Mathlib.Omega.{arith}
use lib.ListN.{length, length-append}
use Rattle.theory.proofs.Text.{refused_line_lem, refused_short}
use borrow.Author.Rules.{rules}
use Rattle.lines.proofs.put_refused_line.Goals as goal

pub put_line-requires : goal.put_line-requires
put_line-requires c =
    let f = c.args.f in
    let small : f.number < 2 ^ 32 = search rules in
    let n : f.number < 2 ^ 64 = omega (arith, small) in
    let a : f.a < 2 ^ 64 = search rules in
    let b : f.b < 2 ^ 64 = search rules in
    let short = refused_short f.number f.a f.b n a b in
    simp length-append (omega (arith, short, simp length-append at (ap length (refused_line_lem f.number f.a f.b)), c.requires))

pub returns : goal.returns
returns c =
    let f = c.args.f in
    rw (refused_line_lem f.number f.a f.b) c.put_line.ensures
