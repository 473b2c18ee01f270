-- The places of the first c cells are there.
-- Assumes nothing.
use Prim.Native.Nat.{◌<◌}
use native.Mathlib.Omega.{arith}
use lib.ListN.{get_or, length-set}
use Rattle.rules.specs.Places.{IsPlaces}
use Rattle.theory.proofs.Order.{filled_more}
use Rattle.table.specs.Tables.{table_of}
use Rattle.columns.specs.ColumnLaws.{columns_short}
use Rattle.turns.specs.TurnLaws.{good_via}
use Rattle.period.specs.PeriodLaws.{columns_asked, columns_found, reach_found}
use Rattle.places.specs.Search.{CellOf}
use Rattle.places.specs.CellLaws.{follows_of, writers_of, readers_of}
use Rattle.places.proofs.each.Goals as goal
use Rattle.std.proofs.Common.{rules}

pub columns-cols-requires : goal.columns-cols-requires
columns-cols-requires c = columns_asked c.args.t c.requires.0

pub cell-requires : goal.cell-requires
cell-requires c =
    columns_short c.requires.0.accepted (columns_found c.args.t c.columns-cols.ensures)

pub loop-c-preserved : goal.loop-c-preserved
loop-c-preserved c =
    let t = c.args.t in
    let good = c.requires.0 in
    let period = c.requires.1 in
    let own = columns_found t c.columns-cols.ensures in
    let small : c.loop-c.c < 32 = omega (arith, good.accepted.cells_high) in
    let x : CellOf (table_of t) c.loop-c.c c.columns-cols.result t.follow c.reached-reached.result (get_or c.turned-writers.result c.loop-c.c 0) (get_or c.turned-readers.result c.loop-c.c 0)
    = record {
      accepted = good.accepted;
      columns = own;
      follows = follows_of (table_of t) t.follow (good_via t good);
      reach = reach_found t good _ c.reached-reached.ensures;
      writers = writers_of (table_of t) _ own _ _ small (c.turned-writers.ensures (λ o. o.writes) (λ d r h. search rules));
      readers = readers_of (table_of t) _ own _ _ small (c.turned-readers.ensures (λ o. o.reads) (λ d r h. search rules));
    } in
    let here = c.cell.ensures (table_of t) c.loop-c.c x period.low period.right.values in (
      simp length-set c.loop-c.invariant.0,
      filled_more (λ d r. IsPlaces (table_of t) c.args.q d r) c.loop-c.c _ c.loop-c.out (omega (arith, c.loop-c.invariant.0)) c.loop-c.invariant.1 here,
    )
