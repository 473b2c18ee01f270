-- Each refusal is one outcome of the row of tests, and numbers that pass it are those of the operation.
-- Assumes nothing.
use Rattle.std.proofs.Common.{◌+◌, ◌*◌, ◌<◌, length, refl, sym, ap, ◌∙◌, inl, inr, is_some, arith}
use Rattle.std.proofs.lemmas.Result.{err_from_is_err_and}
use Rattle.theory.proofs.Ranges.{op_within, range_passed}
use Rattle.theory.proofs.Judging.{form_most}
use Rattle.ranges.specs.Ranges.{wide_of, sized}
use Rattle.table.specs.Tables.{op_in}
use Rattle.fields.specs.FieldLaws.{place_fits}
use Rattle.handed_ops.specs.OpsLaws.{op_many, op_short, op_ranged}
use Rattle.handed_ops.proofs.next_op.Goals as goal

pub returns-then-count-ge32 : goal.returns-then-count-ge32
returns-then-count-ge32 c = sym (op_many _ _ _ _ c.args.place (omega arith))

pub returns-then-ops-count : goal.returns-then-ops-count
returns-then-ops-count c =
    let few : length c.args.ops.now < 6 * c.args.count + 6 = omega arith in
    let some : c.args.count < 32 = omega arith in
    sym (op_short _ _ _ _ c.args.place some (inl few))

pub returns-then-holds-count : goal.returns-then-holds-count
returns-then-holds-count c =
    let few : length c.args.holds.now < 2 * c.args.count + 2 = omega arith in
    let some : c.args.count < 32 = omega arith in
    sym (op_short _ _ _ _ c.args.place some (inr few))

pub range_test-requires : goal.range_test-requires
range_test-requires c =
    let high = op_within (sized c.args.counts) (is_some c.wide_at-w.result.hold) (wide_of c.wide_at-w.result) refl in
    place_fits _ _ _ c.wide_wrong.ensures (omega (arith, high, form_most (is_some c.wide_at-w.result.hold)))

pub returns-in_err-range_test : goal.returns-in_err-range_test
returns-in_err-range_test c =
    let p = err_from_is_err_and c.from_residual.result c.from_residual.ensures.1 in
    rw (p.1, p.2)
    (c.in_err-range_test.ensures.ruled _ c.wide_wrong.ensures
    ∙ op_ranged (sized c.args.counts) _ _ c.args.count _ (omega arith) c.wide_at-w.result c.wide_at-w.ensures (omega arith) (omega arith))

pub narrow-requires : goal.narrow-requires
narrow-requires c = range_passed _ c.args.place (sym (c.in_ok-range_test.ensures.ruled _ c.wide_wrong.ensures))

pub returns : goal.returns
returns c =
    let test = op_ranged (sized c.args.counts) c.args.ops.now c.args.holds.now c.args.count c.args.place (omega arith) c.wide_at-w.result c.wide_at-w.ensures (omega arith) (omega arith) in
    (sym test ∙ sym (c.in_ok-range_test.ensures.ruled _ c.wide_wrong.ensures), ap op_in (c.narrow.ensures ∙ c.wide_at-w.ensures.0))
