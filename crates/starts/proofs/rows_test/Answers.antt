-- What is heard of the rows from the place on is what is heard of all.
-- Assumes nothing.
use Rattle.std.proofs.Common.{◌≡◌, ◌+◌, sym, ◌∙◌, arith}
use Rattle.rows.specs.Rows.{ticks_of}
use Rattle.heads.specs.HeadLaws.{handed_back}
use Rattle.starts.specs.StartLaws.{rows_end, rows_bad, rows_more}
use Rattle.starts.proofs.rows_test.Goals as goal

pub returns-in_err-row_test : goal.returns-in_err-row_test
returns-in_err-row_test c =
    handed_back _ _ c.from_residual.ensures.1
    (rows_bad _ _ _ _ _ (omega arith) c.in_err-row_test.ensures ∙ sym c.loop-at.invariant)

pub overflow_sub-left : goal.overflow_sub-left
overflow_sub-left c =
    let some : c.loop-at.left ≡ 0 → ⊥ = (rows_more (ticks_of c.args.q) c.args.s.now c.loop-at.left c.loop-at.at (omega arith) c.in_ok-row_test.ensures).1 in
    omega (arith, some)

pub loop-at-preserved : goal.loop-at-preserved
loop-at-preserved c =
    c.loop-at.invariant ∙ (rows_more (ticks_of c.args.q) c.args.s.now c.loop-at.left c.loop-at.at (omega arith) c.in_ok-row_test.ensures).2

pub returns : goal.returns
returns c = rows_end _ _ _ _ (omega arith) ∙ sym c.loop-at.invariant

pub returns-in_ok-row_test : goal.returns-in_ok-row_test
returns-in_ok-row_test c =
    let more = rows_more (ticks_of c.args.q) c.args.s.now c.loop-at.left c.loop-at.at (omega arith) c.in_ok-row_test.ensures in
    rows_end _ _ _ (c.loop-at.at + 7) (omega arith) ∙ sym (c.loop-at.invariant ∙ more.2)
