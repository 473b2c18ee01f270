-- The sums are unsigned and small, so one signed subtraction of them is exact.
-- Assumes nothing.
use native.Mathlib.Nat.{mul-le-mul}
use native.Mathlib.Omega.{arith}
use mathlib.Core.Path.{◌≡◌, ◌∙◌}
use mir.Facts.{to_z-of_z}
use mir.Syntax.{w32}
use borrow.Author.Rules.{rules}
use Rattle.rules.specs.Table.{end_of}
use Rattle.table.specs.Tables.{op_of}
use Rattle.margins.proofs.measure.Goals as goal

pub overflow_mul-later : goal.overflow_mul-later
overflow_mul-later c = omega (arith, mul-le-mul c.requires.0 c.requires.1)

pub overflow_add-later : goal.overflow_add-later
overflow_add-later c = let s = c in omega (arith, mul-le-mul s.requires.0 s.requires.1, s.requires.2, s.requires.3)

pub overflow_cast-end : goal.overflow_cast-end
overflow_cast-end c = let s = c in omega (arith, c.end_of-end.ensures, s.requires.2)

pub diff-requires : goal.diff-requires
diff-requires c =
    let s = c in (
      omega (arith, mul-le-mul s.requires.0 s.requires.1, s.requires.2, s.requires.3),
      omega (arith, mul-le-mul s.requires.0 s.requires.1, s.requires.2, s.requires.3),
    )

pub returns : goal.returns
returns c =
    let x = c in
    let end : x.end_of-end.result ≡ end_of (op_of x.args.o) = x.end_of-end.ensures in
    to_z-of_z {w = w32} (search rules) ∙ c.diff.ensures ∙ rw end
