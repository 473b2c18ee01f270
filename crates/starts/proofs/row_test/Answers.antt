-- The tests before the ranges, and then the ranges of the row.
-- Assumes nothing.
use Rattle.std.proofs.Common.{refl, sym, ap, ◌∙◌, arith}
use Rattle.rules.specs.Judge.{row_wrong}
use Rattle.theory.proofs.Ranges.{row_within}
use Rattle.fields.specs.FieldLaws.{repeat_passed, repeat_bad, repeat_ranged, place_fits}
use Rattle.heads.specs.HeadLaws.{handed_back}
use Rattle.rows.specs.Rows.{ticks_of, row_of}
use Rattle.starts.proofs.row_test.Goals as goal

pub returns-in_err-repeated_at : goal.returns-in_err-repeated_at
returns-in_err-repeated_at c = handed_back _ _ c.from_residual.ensures.1 (repeat_bad _ _ _ _ _ _ _ c.in_err-repeated_at.ensures)

pub row_at-requires : goal.row_at-requires
row_at-requires c = omega (arith, (repeat_passed _ _ _ _ _ (sym c.in_ok-repeated_at.ensures)).0)

pub range_test-requires : goal.range_test-requires
range_test-requires c =
    let whole = (repeat_passed _ _ _ _ _ (sym c.in_ok-repeated_at.ensures)).0 in
    place_fits _ _ _ c.row_wrong.ensures (omega (arith, whole, row_within (ticks_of c.args.q) (row_of c.row_at.result) refl))

pub returns : goal.returns
returns c =
    c.range_test.ensures.ruled _ c.row_wrong.ensures
    ∙ repeat_ranged _ _ _ _ _ _ _ c.in_ok-repeated_at.ensures (ap (row_wrong (ticks_of c.args.q)) c.row_at.ensures.0)
