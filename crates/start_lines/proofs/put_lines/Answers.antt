-- The lines of the first i rows are put, and nothing else has changed.
-- Assumes nothing.
use Rattle.std.proofs.Common.{◌^◌, ◌<◌, rules, arith}
use Rattle.rows.specs.Rows.{ticks_of}
use Rattle.start_lines.specs.StartLineLaws.{start_lines_none, lines_turn}
use Rattle.start_lines.proofs.put_lines.Goals as goal

pub loop-i-init : goal.loop-i-init
loop-i-init c = start_lines_none c.args.s.now c.args.out.now

pub loop-i-preserved : goal.loop-i-preserved
loop-i-preserved c =
    let start = c.start_at-start.result in
    let small : start.0 < 2 ^ 32 = search rules in
    lines_turn c.args.s.now c.args.out.now c.args.n c.loop-i.i c.requires.0 c.requires.1 (omega arith) c.loop-i.invariant (ticks_of start) small c.start_at-start.ensures c.put_start_line-end.ensures
