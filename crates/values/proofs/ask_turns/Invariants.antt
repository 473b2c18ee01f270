-- The bound stands for the first n distances; the search ends where no distance that is left asks for more.
-- Assumes nothing.
use Prim.Native.Nat.{◌≤◌}
use lib.ListN.{get_or}
use Rattle.values.specs.CarryLaws.{Carried}
use Rattle.values.proofs.ask_turns.Given as goal

abbrev pub invariant-loop-n : goal.invariant-loop-n
invariant-loop-n l =
    (1 ≤ l.most) × (l.most ≤ 1000) × Carried l.follow l.cols l.readers (λ j. get_or l.fresh j 0) l.written l.end l.from l.bound l.n l.modes l.seen l.most
