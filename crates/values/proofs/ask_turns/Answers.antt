-- The bound stands for the first n distances; the search ends where no distance that is left asks for more.
-- Assumes nothing.
use Prim.Native.Nat.{◌+◌}
use mathlib.Core.Path.{◌≡◌}
use native.Mathlib.Nat.{mul-le-mul_left}
use native.Mathlib.Omega.{arith}
use lib.ListN.{get_or}
use Rattle.theory.specs.Tests.{without, step}
use Rattle.arrivals.specs.Arrivals.{Every, ReaderFine}
use Rattle.raises.specs.Raises.{Raised}
use Rattle.raises.specs.RaiseLaws.{raised_up, raised_to, in_time_late}
use Rattle.values.specs.CarryLaws.{carried_none, carried_more, carried_far, carried_seen}
use Rattle.values.proofs.ask_turns.Goals as goal

pub loop-n-init : goal.loop-n-init
loop-n-init c = (omega arith, omega arith, carried_none _ _ _ _ _ _ _ _)

pub returns-then-end-early : goal.returns-then-end-early
returns-then-end-early c = carried_far _ _ _ _ _ _ _ _ _ _ _ _ c.loop-n.invariant.2 c.args.early c.requires.1 (omega arith)

pub returns-then-without-eq0 : goal.returns-then-without-eq0
returns-then-without-eq0 c =
    let F = c.args.follow.now in
    let e : c.without.result ≡ without (step F c.loop-n.modes) c.loop-n.seen
    = rw c.step-next.ensures at c.without.ensures
    in
    carried_seen _ _ _ _ _ _ _ _ _ _ _ _ c.loop-n.invariant.2 (rw e at c.if-without-eq0.true)

pub loop-n-preserved : goal.loop-n-preserved
loop-n-preserved c =
    let a = c.args in
    let next = step a.follow.now c.loop-n.modes in
    let e : c.step-next.result ≡ next = c.step-next.ensures in
    let y : Raised c.loop-n.most (Every (ReaderFine a.cols.now (λ j. get_or a.fresh.now j 0) next a.end c.loop-n.n) a.readers) c.ask_readers-most.result
    = rw e at c.ask_readers-most.ensures
    in (
      omega (arith, raised_up y),
      raised_to y 1000 c.loop-n.invariant.1 (λ j h z. in_time_late a.end _ c.loop-n.n 1000 c.requires.2),
      rw (c.without-modes.ensures, e) (carried_more _ _ _ _ _ _ _ _ _ _ _ _ c.loop-n.invariant.2 c.ask_readers-most.result y),
    )

pub returns : goal.returns
returns c =
    carried_far _ _ _ _ _ _ _ _ _ _ _ _ c.loop-n.invariant.2 c.args.early c.requires.1
    (omega (arith, mul-le-mul_left (c.loop-n.n + 1) c.loop-n.invariant.0))
