-- The lines of the first i operations are put, and nothing else has changed.
-- Assumes nothing.
use Rattle.std.proofs.Common.{◌+◌, ◌*◌, ◌≤◌, take}
use Rattle.rules.specs.Rows.{reply_of}
use Rattle.rules.specs.Text.{row_lines}
use Rattle.table.specs.Tables.{table_of}
use Rattle.lines.specs.Lines.{Puts}
use Rattle.text.proofs.put_row_lines.Given as goal

abbrev pub invariant-loop-i : goal.invariant-loop-i
invariant-loop-i l =
    Puts l.initial.out l.out l.at l.end (row_lines 0 (take l.i (reply_of (table_of l.t) l.q.0).rows))
    × (l.end ≤ l.at + 24 * l.i)
