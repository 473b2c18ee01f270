-- What is heard of the rows from the place on is what is heard of all.
-- Assumes nothing.
use Rattle.std.proofs.Common.{◌≡◌}
use Rattle.rules.specs.Judge.{rows_from}
use Rattle.rows.specs.Rows.{ticks_of}
use Rattle.starts.specs.Starts.{heard}
use Rattle.starts.proofs.rows_test.Given as goal

abbrev pub invariant-loop-at : goal.invariant-loop-at
invariant-loop-at l = heard (rows_from (ticks_of l.q) l.s 32 5) ≡ heard (rows_from (ticks_of l.q) l.s l.left l.at)
