-- The three parts are stored one behind the other, and the end of the line behind them.
-- Assumes nothing.
use Rattle.lines.specs.LineLaws.{line_put}
use Rattle.lines.proofs.put_line.Goals as goal

pub returns : goal.returns
returns c =
    let a = c.args in
    line_put a.out.now a.at a.u.now a.x a.v.now a.y a.w.now a.z c.put_part-first.ensures c.put_part-second.ensures c.put_part-third.ensures c.put_bytes.ensures
