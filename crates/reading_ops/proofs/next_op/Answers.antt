-- The tests before the ranges, by the form that the field has; then the ranges of its numbers; then the operation that has them.
-- Assumes nothing.
use Rattle.std.proofs.Common.{refl, ℕ, sym, ap, subst, ◌∙◌, arith, is_some}
use Rattle.rules.specs.Verdicts.{accepted}
use Rattle.rules.specs.Bytes.{op_size}
use Rattle.theory.proofs.Ranges.{op_within}
use Rattle.fields.specs.Fields.{IsPlace}
use Rattle.fields.specs.FieldLaws.{repeat_passed, ranged_fine, place_fits}
use Rattle.fields.specs.RefusalLaws.{err_again}
use Rattle.ranges.specs.Ranges.{sized, wide_of}
use Rattle.reading_ops.specs.ReadingOps.{op_told}
use Rattle.reading_ops.specs.ReadingOpLaws.{form_size, form_read, form_judged, op_bad, op_range, op_fine}
use Rattle.reading_ops.proofs.next_op.Goals as goal

pub repeated_at-requires : goal.repeated_at-requires
repeated_at-requires c = (c.requires.0, omega (arith, c.size.ensures.1))

pub returns-in_err-repeated_at : goal.returns-in_err-repeated_at
returns-in_err-repeated_at c =
    let r = c.in_err-repeated_at.field-0.0 in
    let fits = form_size c.args.s.now c.args.at c.requires.1 c.size.ensures.0 in
    ap op_told (err_again c.from_residual.result r c.from_residual.ensures.1)
    ∙ op_bad (sized c.args.counts) c.args.s.now c.args.left c.args.at fits r c.in_err-repeated_at.ensures

pub read_op-w-requires : goal.read_op-w-requires
read_op-w-requires c = omega (arith, (repeat_passed _ _ _ _ _ (sym c.in_ok-repeated_at.ensures)).0, c.size.ensures.0)

-- before the need of the same call: a number that is told as another is refused here, where it fails
pub returns-in_err-range_test : goal.returns-in_err-range_test
returns-in_err-range_test c =
    let r = c.in_err-range_test.field-0.0 in
    let fits = form_size c.args.s.now c.args.at c.requires.1 c.size.ensures.0 in
    let T = sized c.args.counts in
    let judged = form_judged c.args.s.now c.args.at c.requires.1 T c.read_op-w.ensures.1 c.read_op-w.ensures.0 in
    let placed = subst (λ (n : ℕ). IsPlace c.wide_wrong-wrong.result n) judged c.wide_wrong-wrong.ensures in
    ap op_told (err_again c.from_residual-in_err-range_test.result r c.from_residual-in_err-range_test.ensures.1)
    ∙ op_range T c.args.s.now c.args.left c.args.at fits c.in_ok-repeated_at.ensures r (c.in_err-range_test.ensures.ruled _ placed)

pub range_test-requires : goal.range_test-requires
range_test-requires c =
    let whole = (repeat_passed _ _ _ _ _ (sym c.in_ok-repeated_at.ensures)).0 in
    let high = op_within (sized c.args.counts) (is_some c.read_op-w.result.hold) (wide_of c.read_op-w.result) refl in
    place_fits _ _ _ c.wide_wrong-wrong.ensures (omega (arith, high, whole, c.size.ensures.0, ap op_size c.read_op-w.ensures.1))

pub narrow-requires : goal.narrow-requires
narrow-requires c = ranged_fine _ c.args.at (c.in_ok-range_test.ensures.ruled _ c.wide_wrong-wrong.ensures)

pub returns : goal.returns
returns c =
    let fits = form_size c.args.s.now c.args.at c.requires.1 c.size.ensures.0 in
    let T = sized c.args.counts in
    let judged = form_judged c.args.s.now c.args.at c.requires.1 T c.read_op-w.ensures.1 c.read_op-w.ensures.0 in
    let placed = subst (λ (n : ℕ). IsPlace c.wide_wrong-wrong.result n) judged c.wide_wrong-wrong.ensures in
    ap accepted (c.narrow.ensures ∙ form_read _ _ c.requires.1 c.read_op-w.ensures.0)
    ∙ op_fine T c.args.s.now c.args.left c.args.at fits c.in_ok-repeated_at.ensures (c.in_ok-range_test.ensures.ruled _ placed)
