-- A head that is refused decides; behind one that passes, the operations do.
-- Assumes nothing.
use Rattle.std.proofs.Common.{sym}
use Rattle.theory.proofs.Verdicts.{then_accepts}
use Rattle.reading.specs.Reading.{ops_verdict, fields_verdict}
use Rattle.table.specs.JudgedLaws.{denied}
use Rattle.fields.specs.RefusalLaws.{then_refusal, err_again}
use Rattle.reading.proofs.read_fields.Goals as goal

pub returns-in_err-head_test : goal.returns-in_err-head_test
unfolding fields_verdict
returns-in_err-head_test c =
    let r = c.in_err-head_test.field-0.0 in
    let refused = then_refusal r (ops_verdict c.args.s.now) (sym c.in_err-head_test.ensures) in
    rw (err_again c.from_residual.result r c.from_residual.ensures.1, refused) (denied r)

pub read_ops-requires : goal.read_ops-requires
read_ops-requires c = sym c.in_ok-head_test.ensures

pub returns : goal.returns
unfolding fields_verdict
returns c = rw (then_accepts _ (sym c.in_ok-head_test.ensures)) c.read_ops.ensures
