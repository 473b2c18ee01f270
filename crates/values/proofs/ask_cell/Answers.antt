-- The bound is raised by what the writers that were visited write into the cell.
-- Assumes nothing.
use mathlib.Core.Path.{◌≡◌}
use native.Mathlib.Omega.{arith}
use Rattle.theory.proofs.Sets.{in_small}
use Rattle.raises.specs.Raises.{Raised}
use Rattle.arrivals.specs.EachLaws.{every_more, every_all}
use Rattle.raises.specs.RaiseLaws.{raised_up, raised_to}
use Rattle.values.specs.Bounds.{WriterFine}
use Rattle.values.specs.BoundLaws.{no_writers, writer_late}
use Rattle.values.proofs.ask_cell.Goals as goal

pub returns-then-writers-eq0 : goal.returns-then-writers-eq0
returns-then-writers-eq0 c =
    let e : c.args.writers ≡ 0 = omega arith in
    rw e (no_writers _ _ _ _ _)

pub ask_writer-most-requires : goal.ask_writer-most-requires
ask_writer-most-requires c =
    let i = c.loop-m in
    let small = in_small c.in-Some.m 32 _ (omega arith) (i.invariant.2.inside _ c.in-Some.ensures.steps.0.member) in
    (c.requires.0, c.earliest-early.ensures, c.fresh_sets-fresh.ensures, c.ended_within-written.ensures, small, i.invariant.0, i.invariant.1)

pub loop-m-preserved : goal.loop-m-preserved
loop-m-preserved c =
    let a = c.args in
    let k = c.in-Some.m in
    let (lowest, left) = c.in-Some.ensures.steps in
    let (_, low, raising) = c.loop-m.invariant in
    let small = in_small k 32 _ (omega arith) (raising.inside k lowest.member) in
    let x : Raised c.loop-m.most (WriterFine a.follow.now a.cols.now a.reached a.writers a.readers k) c.ask_writer-most.result
    = c.ask_writer-most.ensures
    in (
      omega (arith, raised_up x),
      raised_to x 1000 low (writer_late _ _ c.requires.0 _ _ _ k small),
      rw left (every_more k lowest.member raising x),
    )

pub returns : goal.returns
returns c = every_all (rw c.in-None.ensures.steps.0 at c.loop-m.invariant.2)
