-- Of the modes of a writer those are left in which no other ends after it.
-- Assumes nothing.
use mathlib.Core.Path.{◌≡◌}
use Rattle.cells.specs.Cells.{ended_in, last_of}
use Rattle.cells.proofs.last_in.Goals as goal

pub returns : goal.returns
unfolding last_of
returns c =
    let a = c.args in
    let e : c.ended_within.result ≡ ended_in a.cols.now a.writers c.end-end.result 1000 = c.ended_within.ensures in
    rw (← c.end-end.ensures, ← e, ← c.modes.ensures) c.without.ensures
