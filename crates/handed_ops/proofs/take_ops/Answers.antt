-- The operations so far are in the table, and the verdict on all is that on the rest behind them, until one is refused or none is left.
-- Assumes nothing.
use Rattle.std.proofs.Common.{sym, ap, ◌∙◌, arith}
use Rattle.std.proofs.lemmas.Result.{err_from_is_err_and}
use Rattle.theory.specs.Holds.{op_width}
use Rattle.table.specs.JudgedLaws.{denied}
use Rattle.table.specs.Tables.{op_of}
use Rattle.table.specs.declared.Op as code
use Rattle.handed_ops.specs.OpsLaws.{op_room, taken_none, taken_few, taken_near, taken_end, taken_bad, taken_more}
use Rattle.handed_ops.proofs.take_ops.Goals as goal

pub loop-counts-init : goal.loop-counts-init
loop-counts-init c = rw c.ops_place-place.ensures (taken_none _ _ _ c.requires.0)

pub next_op-requires : goal.next_op-requires
next_op-requires c = (taken_few _ _ _ c.loop-counts.invariant, taken_near _ _ _ c.loop-counts.invariant c.requires.1)

pub returns-in_err-o : goal.returns-in_err-o
returns-in_err-o c =
    let q = c.in_err-o.field-0.0 in
    let p = err_from_is_err_and c.from_residual.result c.from_residual.ensures.1 in
    let on = sym c.none_left.ensures ∙ c.loop-counts-test.true in
    rw (p.1, p.2, taken_bad _ _ _ c.loop-counts.invariant on q c.in_err-o.ensures) (denied q)

pub bounds-t-t : goal.bounds-t-t
bounds-t-t c = op_room _ _ _ _ c.loop-counts.place c.in_ok-o.ensures.0

pub overflow_add-place : goal.overflow_add-place
overflow_add-place c = omega (arith, c.op_width-place.ensures.1, taken_near _ _ _ c.loop-counts.invariant c.requires.1)

pub loop-counts-preserved : goal.loop-counts-preserved
loop-counts-preserved c =
    taken_more _ _ _ c.loop-counts.invariant (sym c.none_left.ensures ∙ c.loop-counts-test.true) c.in_ok-o.ensures.0 (rw c.in_ok-o.ensures.1)
    (c.op_width-place.ensures.0 ∙ ap (λ (x : code.Op). op_width (op_of x)) c.in_ok-o.ensures.1)

pub returns : goal.returns
returns c = taken_end _ _ _ c.loop-counts.invariant (sym c.none_left.ensures ∙ c.loop-counts-test.false)
