-- The rows of the first i operations are written, and nothing else has changed.
-- Assumes nothing.
use Rattle.std.proofs.Common.{◌≡◌, take}
use Rattle.rules.specs.Rows.{reply_of}
use Rattle.rules.specs.Bytes.{joined, row_bytes}
use Rattle.puts.specs.Puts.{stored}
use Rattle.table.specs.Tables.{table_of}
use Rattle.replies.proofs.put_rows.Given as goal

abbrev pub invariant-loop-i : goal.invariant-loop-i
invariant-loop-i l = l.out ≡ stored l.initial.out 5 (joined row_bytes (take l.i (reply_of (table_of l.t) l.q.0).rows))
