-- Each return is one outcome of the row of tests, and the last is that of the tests of the length.
-- Assumes nothing.
use Prim.Native.Nat.{◌+◌, ◌<◌, ◌≤◌}
use mathlib.Core.Path.{sym, ◌∙◌}
use native.Mathlib.Omega.{arith}
use lib.ListN.{length}
use Rattle.fields.specs.FieldLaws.{repeat_cut, repeat_other, repeat_many, repeat_due}
use Rattle.fields.proofs.repeat_test.Goals as goal

pub returns-then-s-at-lt3 : goal.returns-then-s-at-lt3
returns-then-s-at-lt3 c = let a = c.args in let h : length a.s.now < a.at + 3 = omega arith in sym (repeat_cut _ a.at a.tag a.size a.left h)

pub returns-then-s-at : goal.returns-then-s-at
returns-then-s-at c = let a = c.args in let h : a.at + 3 ≤ length a.s.now = omega arith in sym (repeat_other _ a.at a.tag a.size a.left h c.if-s-at.true)

pub returns-then-left-eq0 : goal.returns-then-left-eq0
returns-then-left-eq0 c = let b = c in let a = b.args in let h : a.at + 3 ≤ length a.s.now = omega arith in sym (repeat_many _ a.at a.tag a.size a.left h b.if-s-at.false c.if-left-eq0.true)

pub returns : goal.returns
returns c = let d = c in let b = d in let a = b.args in let h : a.at + 3 ≤ length a.s.now = omega arith in c.sized_test.ensures ∙ sym (repeat_due _ a.at a.tag a.size a.left h b.if-s-at.false d.if-left-eq0.false)
