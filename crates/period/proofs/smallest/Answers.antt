-- The sweep begins at the bound of the values, and ends at the first period from there at which the boards are right.
-- Assumes nothing.
use native.Mathlib.Omega.{arith}
use Rattle.table.specs.Tables.{table_of}
use Rattle.values.specs.Bounds.{IsBound}
use Rattle.period.specs.PeriodLaws.{columns_asked, columns_found, first_is_period, reach_found, values_asked_lem, boards_asked_lem, values_found, boards_found}
use Rattle.period.proofs.smallest.Goals as goal

pub columns-cols-requires : goal.columns-cols-requires
columns-cols-requires c = columns_asked c.args.t c.requires

pub values_bound-bound-requires : goal.values_bound-bound-requires
values_bound-bound-requires c =
    values_asked_lem c.args.t c.requires c.columns-cols.result (columns_found c.args.t c.columns-cols.ensures)

pub first_right-requires : goal.first_right-requires
first_right-requires c =
    let t = c.args.t in
    let bound : IsBound (table_of t) c.reached-reached.result c.values_bound-bound.result
    = values_found t c.requires c.columns-cols.result (columns_found c.args.t c.columns-cols.ensures) _ _ c.values_bound-bound.ensures in
    let (long, short, ends, high) = boards_asked_lem t c.requires c.columns-cols.result (columns_found c.args.t c.columns-cols.ensures) in
    (long, short, ends, high, omega (arith, bound.low), omega (arith, bound.high, c.requires.accepted.len_low))

pub returns : goal.returns
returns c =
    let t = c.args.t in
    let bound : IsBound (table_of t) c.reached-reached.result c.values_bound-bound.result
    = values_found t c.requires c.columns-cols.result (columns_found c.args.t c.columns-cols.ensures) _ _ c.values_bound-bound.ensures in
    let found = boards_found t c.requires c.columns-cols.result (columns_found c.args.t c.columns-cols.ensures) c.reached-reached.result c.values_bound-bound.result c.first_right.result bound.low c.first_right.ensures in
    first_is_period (table_of t) c.requires.accepted c.reached-reached.result (reach_found t c.requires _ c.reached-reached.ensures) c.values_bound-bound.result c.first_right.result bound found
