-- The two parts are stored one behind the other, and the end of the line behind them.
-- Assumes nothing.
use Rattle.rows.specs.Rows.{ticks_of}
use Rattle.start_lines.specs.StartLineLaws.{start-put}
use Rattle.start_lines.proofs.put_start_line.Goals as goal

pub returns : goal.returns
returns c = start-put c.args.i (ticks_of c.args.t) c.args.out.now c.args.at c.put_part-first.ensures c.put_part-second.ensures c.put_bytes.ensures
