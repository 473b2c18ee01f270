-- The tests before the ranges, and then the ranges of the sets.
-- Assumes nothing.
use Rattle.std.proofs.Common.{◌+◌, refl, sym, ◌∙◌, rules, arith}
use Rattle.rules.specs.Bytes.{words}
use Rattle.theory.proofs.Ranges.{sets_within}
use Rattle.theory.proofs.Judging.{length_words}
use Rattle.fields.specs.FieldLaws.{field_passed, field_bad, field_ranged, place_fits}
use Rattle.heads.specs.HeadLaws.{handed_back}
use Rattle.heads.proofs.modes_test.Goals as goal

pub returns-in_err-field_at : goal.returns-in_err-field_at
returns-in_err-field_at c = handed_back _ _ c.from_residual.ensures.1 (field_bad _ _ _ _ _ _ c.in_err-field_at.ensures)

pub sets_wrong-requires : goal.sets_wrong-requires
sets_wrong-requires c = (search rules, omega (arith, field_passed _ _ _ _ (sym c.in_ok-field_at.ensures)))

pub range_test-requires : goal.range_test-requires
range_test-requires c =
    let ws = words c.args.s.now 14 (c.args.modes + 1) in
    place_fits _ _ _ c.sets_wrong.ensures (omega (arith, sets_within c.args.modes ws refl, length_words c.args.s.now 14 (c.args.modes + 1)))

pub returns : goal.returns
returns c = c.range_test.ensures.ruled _ c.sets_wrong.ensures ∙ field_ranged _ _ _ _ _ _ c.in_ok-field_at.ensures refl
