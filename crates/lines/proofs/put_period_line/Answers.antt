-- The word with the period, and the end of the line.
-- Assumes nothing.
use mathlib.Core.Path.{◌≡◌}
use native.Mathlib.Omega.{arith}
use lib.ListN.{length}
use Rattle.theory.proofs.Text.{period_length, period_short}
use Rattle.lines.specs.LineLaws.{period_put}
use Rattle.lines.proofs.put_period_line.Goals as goal

pub put_part-end-requires : goal.put_part-end-requires
put_part-end-requires c = omega (arith, period_length c.args.q.0, period_short c.args.q.0 c.requires.1, c.requires.0)

pub put_bytes-requires : goal.put_bytes-requires
put_bytes-requires c =
    let part = c.put_part-end in
    let long : length part.new.out ≡ length c.args.out.now = part.auto.out in
    omega (arith, part.ensures.1, period_length c.args.q.0, period_short c.args.q.0 c.requires.1, c.requires.0)

pub returns : goal.returns
returns c = period_put _ _ _ c.put_part-end.ensures c.put_bytes.ensures
