-- The tests before the range, and then the range of the length.
-- Assumes nothing.
use Rattle.std.proofs.Common.{refl, sym, ap, ◌∙◌, arith}
use Rattle.rules.specs.Judge.{len_wrong}
use Rattle.theory.proofs.Ranges.{len_within}
use Rattle.fields.specs.FieldLaws.{field_passed, field_bad, field_ranged, place_fits}
use Rattle.heads.specs.HeadLaws.{handed_back}
use Rattle.heads.proofs.len_test.Goals as goal

pub returns-in_err-field_at : goal.returns-in_err-field_at
returns-in_err-field_at c = handed_back _ _ c.from_residual.ensures.1 (field_bad _ _ _ _ _ _ c.in_err-field_at.ensures)

pub be16-requires : goal.be16-requires
be16-requires c = omega (arith, field_passed _ _ _ _ (sym c.in_ok-field_at.ensures))

pub range_test-requires : goal.range_test-requires
range_test-requires c = place_fits _ _ _ c.len_wrong-wrong.ensures (omega (arith, len_within c.be16.result refl))

pub returns : goal.returns
returns c =
    c.range_test.ensures.ruled _ c.len_wrong-wrong.ensures
    ∙ field_ranged _ _ _ _ _ _ c.in_ok-field_at.ensures (ap len_wrong c.be16.ensures.0)
