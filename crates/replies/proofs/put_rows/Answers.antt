-- The rows of the first i operations are written, and nothing else has changed.
-- Assumes nothing.
use Rattle.std.proofs.Common.{◌+◌, ◌*◌, ◌<◌, ◌≤◌, ap, ◌∙◌, arith}
use Rattle.rules.specs.Table.{nops}
use Rattle.rules.specs.Rows.{Row}
use Rattle.rules.specs.Bytes.{row_bytes}
use Rattle.puts.specs.Puts.{stored}
use Rattle.table.specs.Tables.{table_of}
use Rattle.table.specs.TableLaws.{good_count}
use Rattle.replies.specs.ReplyLaws.{rows_none, rows_turn, rows_end}
use Rattle.replies.proofs.put_rows.Goals as goal

pub loop-i-init : goal.loop-i-init
loop-i-init c = rows_none (table_of c.args.t) c.args.q.0 c.args.out.now

pub loop-i-preserved : goal.loop-i-preserved
loop-i-preserved c =
    let T = table_of c.args.t in
    let h : c.loop-i.i < nops T = omega (arith, good_count c.args.t c.requires.0) in
    let row = ap (λ (r : Row). stored c.loop-i.out (5 + 7 * c.loop-i.i) (row_bytes r)) c.row_of-r.ensures in
    rows_turn T c.args.q.0 c.args.out.now c.loop-i.i h c.loop-i.invariant (c.put_row.ensures ∙ row)

pub returns : goal.returns
returns c =
    let T = table_of c.args.t in
    let h : nops T ≤ c.loop-i.i = omega (arith, good_count c.args.t c.requires.0) in
    rw (rows_end T c.args.q.0 c.loop-i.i h) at c.loop-i.invariant
