-- The lines are written into zeros, which are as many as the longest text has bytes.
-- Assumes nothing.
use Rattle.std.proofs.Common.{arith}
use Rattle.rules.specs.Rows.{reply_of}
use Rattle.rules.specs.Text.{reply_text}
use Rattle.theory.proofs.Text.{period_short, reply_longest}
use Rattle.table.specs.Tables.{table_of}
use Rattle.table.specs.TableLaws.{good_few}
use Rattle.text.specs.TextLaws.{reply_put, text_made}
use Rattle.text.proofs.reply_text.Goals as goal

pub put_row_lines-len-requires : goal.put_row_lines-len-requires
put_row_lines-len-requires c =
    let short = period_short c.args.q.0 (omega (arith, c.requires.2, c.requires.0.accepted.len_high)) in
    (c.requires.0, c.requires.1, c.requires.2, omega (arith, short, c.put_period_line-end.ensures.1, c.put_period_line-end.auto.out, good_few _ c.requires.0))

pub returns : goal.returns
returns c =
    let T = table_of c.args.t in
    let q = c.args.q.0 in
    text_made (reply_text (reply_of T q)) _ _ (reply_longest T q c.requires.0.accepted c.requires.2)
    (reply_put T q _ c.put_period_line-end.ensures c.put_row_lines-len.ensures)
