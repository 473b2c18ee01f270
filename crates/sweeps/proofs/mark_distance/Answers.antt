-- The operations below i are done.
-- Assumes nothing.
use native.Mathlib.Omega.{arith}
use Rattle.sweeps.specs.SweepLaws.{done_more}
use Rattle.sweeps.proofs.mark_distance.Goals as goal

pub loop-i-preserved : goal.loop-i-preserved
loop-i-preserved c =
    let (keep, more) = c.mark_set.ensures in
    done_more _ _ _ _ _ _ _ (omega arith) c.loop-i.invariant keep more
