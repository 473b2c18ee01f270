-- The operations below i are done.
-- Assumes nothing.
use Rattle.sweeps.specs.SweepLaws.{Done}
use Rattle.sweeps.proofs.mark_distance.Given as goal

abbrev pub invariant-loop-i : goal.invariant-loop-i
invariant-loop-i l = Done l.cols l.row l.reached l.n l.q l.initial.later l.initial.wrong l.later l.wrong l.i
