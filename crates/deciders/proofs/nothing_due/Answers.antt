-- Each return is one outcome of the tests.
-- Assumes nothing.
use mathlib.Core.Path.{sym}
use native.Mathlib.Omega.{arith}
use Rattle.deciders.specs.DeciderLaws.{nothing_end, nothing_cut, nothing_order}
use Rattle.deciders.proofs.nothing_due.Goals as goal

pub returns-then-n-at : goal.returns-then-n-at
returns-then-n-at c = sym (nothing_end _ _ (omega arith))

pub returns-then-n-at-lt3 : goal.returns-then-n-at-lt3
returns-then-n-at-lt3 c = sym (nothing_cut _ _ (omega arith) (omega arith))

pub returns : goal.returns
returns c = sym (nothing_order _ _ (omega arith) (omega arith))
