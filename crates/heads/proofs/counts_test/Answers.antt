-- The tests before the ranges, and then the ranges of the counts.
-- Assumes nothing.
use Rattle.std.proofs.Common.{refl, ◌∙◌, arith}
use Rattle.theory.proofs.Ranges.{counts_within}
use Rattle.fields.specs.FieldLaws.{field_bad, field_ranged, place_fits}
use Rattle.heads.specs.HeadLaws.{handed_back}
use Rattle.heads.proofs.counts_test.Goals as goal

pub returns-in_err-field_at : goal.returns-in_err-field_at
returns-in_err-field_at c = handed_back _ _ c.from_residual.ensures.1 (field_bad _ _ _ _ _ _ c.in_err-field_at.ensures)

pub range_test-requires : goal.range_test-requires
range_test-requires c =
    place_fits _ _ _ c.counts_wrong.ensures (omega (arith, counts_within c.byte-boards.result c.byte-cells.result c.byte-modes.result refl))

pub returns : goal.returns
returns c =
    c.range_test.ensures.ruled _ c.counts_wrong.ensures
    ∙ field_ranged _ _ _ _ _ _ c.in_ok-field_at.ensures (rw (c.byte-boards.ensures.0, c.byte-cells.ensures.0, c.byte-modes.ensures.0))
