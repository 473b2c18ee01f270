-- At the end of the input they end; not where the first is due; else at a field 05.
-- Assumes nothing.
use native.Mathlib.Omega.{arith}
use borrow.Author.Tests.{le-leb, lt-leb, le-ltb, lt-ltb}
use lib.ListN.{length}
use Rattle.reading.proofs.ops_done.Goals as goal

pub returns-then-s-at : goal.returns-then-s-at
returns-then-s-at c = let a = c.args in rw (le-leb (length a.s.now) a.at (omega arith))

pub returns-then-at-first : goal.returns-then-at-first
returns-then-at-first c =
    let a = c.args in
    rw (lt-leb (length a.s.now) a.at (omega arith), le-ltb a.first a.at (omega arith))

pub returns : goal.returns
returns c =
    let a = c.args in
    rw (lt-leb (length a.s.now) a.at (omega arith), lt-ltb a.first a.at (omega arith))
