-- Of the modes of a reader those are left in which no writer ends by its start.
-- Assumes nothing.
use mathlib.Core.Path.{◌≡◌}
use Rattle.cells.specs.Cells.{ended_in, fresh_of}
use Rattle.cells.proofs.fresh_in.Goals as goal

pub returns : goal.returns
unfolding fresh_of
returns c =
    let a = c.args in
    let e : c.ended_within.result ≡ ended_in a.cols.now a.writers 0 c.start-start.result = c.ended_within.ensures in
    rw (← c.start-start.ensures, ← e, ← c.modes.ensures) c.without.ensures
