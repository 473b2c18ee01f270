-- The room is told from the count of cells; the places at the smallest right period are written when they fit.
-- Assumes nothing.
use native.Mathlib.Omega.{arith}
use lib.ListN.{take}
use Rattle.table.specs.Tables.{table_of}
use Rattle.stores.specs.Stores.{stores_short, stores_room}
use Rattle.stores.proofs.store_table.Goals as goal

pub overflow_mul-needed : goal.overflow_mul-needed
overflow_mul-needed c = omega (arith, c.requires.accepted.cells_high)

pub returns-then-out-needed : goal.returns-then-out-needed
returns-then-out-needed c =
    let start = c in
    stores_short (table_of start.args.t) start.args.out.now start.requires.accepted _ (omega arith) c.if-out-needed.true

pub each-rs-requires : goal.each-rs-requires
each-rs-requires c = (c.requires, c.smallest-q.ensures)

pub put_places-requires : goal.put_places-requires
put_places-requires c =
    let each = c in
    let room = each in
    let start = room in
    (omega (arith, start.requires.accepted.cells_high), each.each-rs.ensures.0, omega (arith, room.if-out-needed.false))

pub returns : goal.returns
returns c =
    let put = c in
    let each = put in
    let found = each in
    let start = found in
    let t = start.args.t in
    stores_room (table_of t) start.args.out.now found.smallest-q.result _ (take t.cells each.each-rs.result) _
    found.smallest-q.ensures each.each-rs.ensures.1 (omega arith) found.if-out-needed.false put.put_places.ensures
