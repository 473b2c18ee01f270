-- The bound is raised by the first c cells; raised by all of them it is the bound of the values of a table that has these columns.
-- Assumes nothing.
use mathlib.Core.Path.{◌≡◌, sym, ◌∙◌}
use native.Mathlib.Omega.{arith}
use lib.ListN.{get_or}
use Rattle.raises.specs.Raises.{Raised}
use Rattle.arrivals.specs.EachLaws.{each_more}
use Rattle.raises.specs.RaiseLaws.{raised_up, raised_to}
use Rattle.values.specs.Bounds.{CellFine}
use Rattle.values.specs.BoundLaws.{cell_late, raised_bound}
use Rattle.values.proofs.values_bound.Goals as goal
use Rattle.std.proofs.Common.{rules}

pub loop-c-preserved : goal.loop-c-preserved
loop-c-preserved c =
    let a = c.args in
    let k = c.loop-c.c in
    let r = c.turned-readers.result in
    let late = cell_late a.follow.now a.cols.now c.turned-writers.result c.requires.0 (c.turned-writers.ensures (λ o. o.writes) (λ d r h. search rules)) a.reached (get_or r k 0) k (omega arith) in
    let x : Raised c.loop-c.bound (CellFine a.follow.now a.cols.now a.reached (get_or c.turned-writers.result k 0) (get_or r k 0)) c.ask_cell-bound.result
    = c.ask_cell-bound.ensures
    in
    (omega (arith, raised_up x), raised_to x 1000 c.loop-c.invariant.1 late, each_more c.loop-c.invariant.2 x)

pub returns : goal.returns
returns c =
    let a = c.args in
    let end : c.loop-c.c ≡ a.count = omega arith in
    let all = c.loop-c.invariant.2 in
    λ T ok cols turns e.
    raised_bound T ok a.follow.now turns a.cols.now cols c.turned-writers.result (c.turned-writers.ensures (λ o. o.writes) (λ d r h. search rules)) c.turned-readers.result (c.turned-readers.ensures (λ o. o.reads) (λ d r h. search rules)) a.reached c.loop-c.bound
    (rw (end ∙ sym e) at all)
