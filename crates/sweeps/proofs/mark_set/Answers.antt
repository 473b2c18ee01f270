-- An empty set hits nothing; for any other the row gives the modes.
-- Assumes nothing.
use mathlib.Core.Path.{◌≡◌}
use native.Mathlib.Omega.{arith}
use Rattle.sweeps.specs.Sweeps.{modes_after}
use Rattle.sweeps.specs.SweepLaws.{keeps_none, adds_empty}
use Rattle.sweeps.proofs.mark_set.Goals as goal

pub returns-then-set-eq0 : goal.returns-then-set-eq0
returns-then-set-eq0 c =
    let a = c.args in
    let e : a.set ≡ 0 = omega arith in
    rw e (keeps_none a.cols.now a.i a.n a.q, adds_empty a.cols.now a.i _ a.n a.q _)

pub returns : goal.returns
returns c =
    let s = c in
    let a = s.args in
    let e : s.step-after.result ≡ modes_after a.cols.now a.row.now a.reached a.i = rw s.modes.ensures at s.step-after.ensures in
    rw e at c.mark_op.ensures
