-- Each entry is at most 1000, and the sum of the list is that of its entries.
-- Assumes nothing.
use Rattle.std.proofs.Common.{◌≡◌, ◌<◌, ◌∙◌, arith, rules}
use Rattle.std.specs.List.{sum_by}
use Rattle.remains.specs.RemainLaws.{low_sum, sum_row}
use Rattle.remains.proofs.total.Goals as goal

pub sum-requires : goal.sum-requires
sum-requires c =
    let row = c.args.row.now in
    let small : sum_by (λ x. x) row < 4294967296 = omega (arith, sum_row row c.told-row, low_sum row 32 c.requires) in
    search rules

pub returns : goal.returns
returns c =
    let all : c.sum.result ≡ sum_by (λ x. x) c.args.row.now = search rules in
    all ∙ sum_row c.args.row.now c.told-row
