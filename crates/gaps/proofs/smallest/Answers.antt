-- The bound of the values, raised by the boards, is the gap.
-- Assumes nothing.
use native.Mathlib.Omega.{arith}
use Rattle.table.specs.Tables.{table_of}
use Rattle.columns.specs.ColumnLaws.{columns_short}
use Rattle.turns.specs.TurnLaws.{good_via}
use Rattle.arrivals.specs.Arrivals.{Each}
use Rattle.raises.specs.Raises.{Raised}
use Rattle.values.specs.Bounds.{IsBound}
use Rattle.period.specs.PeriodLaws.{columns_asked, columns_found, reach_found, values_asked_lem, values_found}
use Rattle.gaps.specs.Holders.{HolderFine}
use Rattle.gaps.specs.HolderLaws.{raised_gap}
use Rattle.gaps.proofs.smallest.Goals as goal

pub columns-cols-requires : goal.columns-cols-requires
columns-cols-requires c = columns_asked c.args.t c.requires

pub values_bound-bound-requires : goal.values_bound-bound-requires
values_bound-bound-requires c =
    values_asked_lem c.args.t c.requires c.columns-cols.result (columns_found c.args.t c.columns-cols.ensures)

pub boards_bound-requires : goal.boards_bound-requires
boards_bound-requires c =
    let t = c.args.t in
    let own = columns_found t c.columns-cols.ensures in
    let bound : IsBound (table_of t) c.reached-reached.result c.values_bound-bound.result
    = values_found t c.requires c.columns-cols.result own _ _ c.values_bound-bound.ensures
    in
    (columns_short c.requires.accepted own, omega (arith, bound.low), omega (arith, bound.high, c.requires.accepted.len_high))

pub returns : goal.returns
returns c =
    let t = c.args.t in
    let ok = c.requires.accepted in
    let cols = c.columns-cols.result in
    let own = columns_found t c.columns-cols.ensures in
    let reach = reach_found t c.requires _ c.reached-reached.ensures in
    let bound : IsBound (table_of t) c.reached-reached.result c.values_bound-bound.result
    = values_found t c.requires cols own _ _ c.values_bound-bound.ensures
    in
    let x : Raised c.values_bound-bound.result (Each (HolderFine t.follow cols c.reached-reached.result) 32) c.boards_bound.result
    = c.boards_bound.ensures
    in
    raised_gap (table_of t) ok t.follow (good_via t c.requires) cols own c.reached-reached.result reach c.values_bound-bound.result bound c.boards_bound.result x
