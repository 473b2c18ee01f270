-- Each return is one outcome of the row of tests, and the last is that of the tests of the length.
-- Assumes nothing.
use Prim.Native.Nat.{◌+◌, ◌<◌, ◌≤◌}
use mathlib.Core.Path.{sym, ◌∙◌}
use native.Mathlib.Omega.{arith}
use lib.ListN.{length}
use Rattle.fields.specs.FieldLaws.{field_missing, field_cut, field_other, field_due}
use Rattle.fields.proofs.field_test.Goals as goal

pub returns-then-n-at : goal.returns-then-n-at
returns-then-n-at c = let a = c.args in let h : length a.s.now ≤ a.at = omega arith in sym (field_missing _ a.at a.tag a.size h)

pub returns-then-n-at-lt3 : goal.returns-then-n-at-lt3
returns-then-n-at-lt3 c = let a = c.args in let h : a.at < length a.s.now = omega arith in let l : length a.s.now < a.at + 3 = omega arith in sym (field_cut _ a.at a.tag a.size h l)

pub returns-then-s-at : goal.returns-then-s-at
returns-then-s-at c = let a = c.args in let h : a.at + 3 ≤ length a.s.now = omega arith in sym (field_other _ a.at a.tag a.size h c.if-s-at.true)

pub returns : goal.returns
returns c = let b = c in let a = b.args in let h : a.at + 3 ≤ length a.s.now = omega arith in c.sized_test.ensures ∙ sym (field_due _ a.at a.tag a.size h b.if-s-at.false)
