-- The lines of the first i rows are put, and nothing else has changed.
-- Assumes nothing.
use Rattle.start_lines.specs.StartLines.{LinesPut}
use Rattle.start_lines.proofs.put_lines.Given as goal

abbrev pub invariant-loop-i : goal.invariant-loop-i
invariant-loop-i l = LinesPut l.s l.i l.initial.out l.out l.end
