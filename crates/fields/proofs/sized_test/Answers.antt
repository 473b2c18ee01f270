-- Each return is one outcome of the row of tests.
-- Assumes nothing.
use Prim.Native.Nat.{◌+◌, ◌<◌, ◌≤◌}
use mathlib.Core.Path.{sym, ◌∙◌}
use native.Mathlib.Omega.{arith}
use lib.ListN.{length}
use Rattle.fields.specs.FieldLaws.{sized_other, sized_short, sized_whole}
use Rattle.fields.proofs.sized_test.Goals as goal

pub returns-then-be16-size : goal.returns-then-be16-size
returns-then-be16-size c = let a = c.args in sym (sized_other _ a.at a.size (λ e. c.if-be16-size.true (c.be16.ensures.0 ∙ e)))

pub returns-then-s-at : goal.returns-then-s-at
returns-then-s-at c = let b = c in let a = b.args in let h : length a.s.now < a.at + 3 + a.size = omega arith in sym (sized_short _ a.at a.size (sym b.be16.ensures.0 ∙ b.if-be16-size.false) h)

pub returns : goal.returns
returns c = let b = c in let a = b.args in let h : a.at + 3 + a.size ≤ length a.s.now = omega arith in sym (sized_whole _ a.at a.size (sym b.be16.ensures.0 ∙ b.if-be16-size.false) h)
