-- The sweep that begins at q ends there exactly when the boards are right.
-- Assumes nothing.
use native.Mathlib.Omega.{arith}
use borrow.Author.Tests.{eqb-true, eq-eqb}
use Rattle.table.specs.Tables.{table_of}
use Rattle.period.specs.PeriodLaws.{columns_asked, columns_found, boards_at, reach_found, boards_asked_lem, boards_found}
use Rattle.period.proofs.boards_fit.Goals as goal

pub columns-cols-requires : goal.columns-cols-requires
columns-cols-requires c = columns_asked c.args.t c.requires.0

pub first_right-requires : goal.first_right-requires
first_right-requires c =
    let (long, short, ends, high) = boards_asked_lem c.args.t c.requires.0 c.columns-cols.result (columns_found c.args.t c.columns-cols.ensures) in
    (long, short, ends, high, omega arith, omega arith)

pub returns : goal.returns
returns c =
    let t = c.args.t in
    let q = c.args.q in
    let found = boards_found t c.requires.0 c.columns-cols.result (columns_found c.args.t c.columns-cols.ensures) c.reached-reached.result q c.first_right.result c.requires.1 c.first_right.ensures in
    let said = boards_at (table_of t) c.requires.0.accepted c.reached-reached.result (reach_found t c.requires.0 _ c.reached-reached.ensures) q c.first_right.result c.requires.1 found in
    (λ e. said.0 (eqb-true c.first_right.result q e), λ x. eq-eqb c.first_right.result q (said.1 x))
