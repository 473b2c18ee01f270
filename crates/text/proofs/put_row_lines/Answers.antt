-- The lines of the first i operations are put, and nothing else has changed.
-- Assumes nothing.
use Rattle.std.proofs.Common.{◌<◌, ◌≤◌, arith}
use Rattle.rules.specs.Table.{nops}
use Rattle.rules.specs.Text.{row_line}
use Rattle.theory.proofs.Text.{row_short, row_small}
use Rattle.table.specs.Tables.{table_of}
use Rattle.table.specs.TableLaws.{good_count, good_few}
use Rattle.replies.specs.Replies.{row_in}
use Rattle.replies.specs.ReplyLaws.{rows_end}
use Rattle.lines.specs.Lines.{Puts}
use Rattle.text.specs.TextLaws.{row-lines-none, lines_turn}
use Rattle.text.proofs.put_row_lines.Goals as goal

pub loop-i-init : goal.loop-i-init
loop-i-init c = (row-lines-none (table_of c.args.t) c.args.q.0 c.args.out.now c.args.at, omega arith)

pub loop-i-preserved : goal.loop-i-preserved
loop-i-preserved c =
    let T = table_of c.args.t in
    let q = c.args.q.0 in
    let i = c.loop-i.i in
    let h : i < nops T = omega (arith, good_count c.args.t c.requires.0) in
    let small = row_small T q c.requires.0.accepted i h in
    let short = row_short i (row_in T q i) (omega (arith, good_few c.args.t c.requires.0)) small.0 small.1 in
    let line : Puts c.loop-i.out c.put_row_line-end.new.out c.loop-i.end c.put_row_line-end.result (row_line i (row_in T q i)) =
    rw c.row_of-r.ensures at c.put_row_line-end.ensures
    in
    (lines_turn T q c.args.out.now c.args.at i h c.loop-i.invariant.0 line, omega (arith, line.1, short, c.loop-i.invariant.1))

pub returns : goal.returns
returns c =
    let h : nops (table_of c.args.t) ≤ c.loop-i.i = omega (arith, good_count c.args.t c.requires.0) in
    rw (rows_end (table_of c.args.t) c.args.q.0 c.loop-i.i h) at c.loop-i.invariant.0
