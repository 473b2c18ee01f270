-- The bound is raised by the readers that were visited.
-- Assumes nothing.
use native.Mathlib.Omega.{arith}
use lib.ListN.{get_or}
use Rattle.theory.proofs.Sets.{in_small}
use Rattle.arrivals.specs.Arrivals.{ReaderFine}
use Rattle.raises.specs.Raises.{Raised}
use Rattle.arrivals.specs.EachLaws.{every_more, every_all}
use Rattle.raises.specs.RaiseLaws.{raised_to, in_time_late}
use Rattle.arrivals.proofs.ask_readers.Goals as goal

pub bounds-fresh-j : goal.bounds-fresh-j
bounds-fresh-j c =
    in_small _ 32 _ (omega arith) (c.loop-m.invariant.1.inside _ c.in-Some.ensures.steps.0.member)

pub start-requires : goal.start-requires
start-requires c =
    in_small _ 32 _ (omega arith) (c.loop-m.invariant.1.inside _ c.in-Some.ensures.steps.0.member)

pub ask_reader-most-requires : goal.ask_reader-most-requires
ask_reader-most-requires c =
    let p = c.requires in
    let small = in_small c.in-Some.m 32 _ (omega arith) (c.loop-m.invariant.1.inside _ c.in-Some.ensures.steps.0.member) in
    (p.1, omega (arith, c.start.ensures, p.0.ends c.in-Some.m small), p.2, omega (arith, c.loop-m.invariant.0))

pub loop-m-preserved : goal.loop-m-preserved
loop-m-preserved c =
    let a = c.args in
    let j = c.in-Some.m in
    let (lowest, left) = c.in-Some.ensures.steps in
    let (low, raising) = c.loop-m.invariant in
    let x : Raised c.loop-m.most (ReaderFine a.cols.now (λ k. get_or a.fresh.now k 0) a.modes a.end a.n j) c.ask_reader-most.result
    = rw c.start.ensures at c.ask_reader-most.ensures
    in (
      raised_to x 1000 low (λ _. in_time_late a.end _ a.n 1000 c.requires.1),
      rw left (every_more j lowest.member raising x),
    )

pub returns : goal.returns
returns c = every_all (rw c.in-None.ensures.steps.0 at c.loop-m.invariant.1)
