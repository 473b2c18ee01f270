-- The tests before the operations come first, and the verdict on the operations is the rest.
-- Assumes nothing.
use Rattle.std.proofs.Common.{sym}
use Rattle.std.proofs.lemmas.Result.{err_from_is_err_and}
use Rattle.table.specs.JudgedLaws.{denied}
use Rattle.handed.specs.Handed.{numbers_of}
use Rattle.handed.specs.HeadLaws.{test_small, verdict_refused, verdict_ops}
use Rattle.handed.specs.JudgeLaws.{head_back, head_ready}
use Rattle.handed.proofs.judge_fields.Goals as goal

pub returns-in_err-head_test : goal.returns-in_err-head_test
returns-in_err-head_test c =
    let q = c.in_err-head_test.field-0.0 in
    let p = err_from_is_err_and c.from_residual.result c.from_residual.ensures.1 in
    rw (p.1, p.2, verdict_refused (numbers_of c.args.n) q c.in_err-head_test.ensures) (denied q)

pub head_of-requires : goal.head_of-requires
head_of-requires c = test_small (numbers_of c.args.n) (sym c.in_ok-head_test.ensures)

pub take_ops-requires : goal.take_ops-requires
take_ops-requires c = head_ready _ c.head_of.ensures (test_small (numbers_of c.args.n) (sym c.in_ok-head_test.ensures))

pub returns : goal.returns
returns c =
    let pass = sym c.in_ok-head_test.ensures in
    rw (verdict_ops (numbers_of c.args.n) pass) (rw (head_back _ c.head_of.ensures (test_small (numbers_of c.args.n) pass)) at c.take_ops.ensures)
