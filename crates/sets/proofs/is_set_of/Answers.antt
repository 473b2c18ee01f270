-- `is_set_of` refuses the empty set, and asks `is_within` of any other.
-- Assumes nothing.
use borrow.Author.Tests.{lt-ltb, le-ltb}
use native.Mathlib.Omega.{arith}
use Rattle.rules.specs.Judge.{set_ok}
use Rattle.sets.proofs.is_set_of.Goals as goal

pub returns-then-s-eq0 : goal.returns-then-s-eq0
unfolding set_ok
returns-then-s-eq0 c = rw (le-ltb 0 c.args.s (omega arith))

pub returns : goal.returns
unfolding set_ok
returns c = rw (lt-ltb 0 c.args.s (omega arith)) c.is_within.ensures
