-- Each return is one outcome of the tests, and the last is that of what stands behind the field.
-- Assumes nothing.
use Rattle.std.proofs.Common.{refl, sym, ◌∙◌, arith}
use Rattle.std.proofs.lemmas.Result.{err_from_is_err_and}
use Rattle.rules.specs.Table.{decides}
use Rattle.theory.proofs.Ranges.{decider_within}
use Rattle.fields.specs.FieldLaws.{field_passed, place_fits}
use Rattle.deciders.specs.DeciderLaws.{no_field, test_bad, test_range, test_fine}
use Rattle.deciders.proofs.field_test.Goals as goal

pub returns-then-s-at : goal.returns-then-s-at
returns-then-s-at c = sym (no_field c.args.s.now c.args.at c.args.count (omega arith))

pub returns-in_err-field_at : goal.returns-in_err-field_at
returns-in_err-field_at c =
    let p = err_from_is_err_and c.from_residual.result c.from_residual.ensures.1 in
    rw (p.1, p.2) (test_bad c.args.s.now c.args.at c.args.count (omega arith) _ c.in_err-field_at.ensures)

pub byte-requires : goal.byte-requires
byte-requires c = omega (arith, field_passed _ _ _ _ (sym c.in_ok-field_at.ensures))

pub range_test-requires : goal.range_test-requires
range_test-requires c =
    let within = decider_within c.args.count (decides c.byte.result) refl in
    place_fits _ c.args.at _ c.decider_wrong-wrong.ensures (omega (arith, within, field_passed _ _ _ _ (sym c.in_ok-field_at.ensures)))

pub returns-in_err-range_test : goal.returns-in_err-range_test
returns-in_err-range_test c =
    let p = err_from_is_err_and c.from_residual-in_err-range_test.result c.from_residual-in_err-range_test.ensures.1 in
    rw (p.1, p.2)
    (test_range c.args.s.now c.args.at c.args.count (omega arith) c.in_ok-field_at.ensures c.byte.ensures.0 _ (c.in_err-range_test.ensures.ruled _ c.decider_wrong-wrong.ensures))

pub returns : goal.returns
returns c =
    c.nothing_due.ensures
    ∙ test_fine c.args.s.now c.args.at c.args.count (omega arith) c.in_ok-field_at.ensures c.byte.ensures.0 (c.in_ok-range_test.ensures.ruled _ c.decider_wrong-wrong.ensures)
