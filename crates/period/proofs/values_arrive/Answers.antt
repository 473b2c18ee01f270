-- Values are right exactly from the bound up.
-- Assumes nothing.
use Rattle.theory.proofs.Says.{says_leb}
use Rattle.table.specs.Tables.{table_of}
use Rattle.values.specs.Bounds.{IsBound}
use Rattle.period.specs.PeriodLaws.{columns_asked, columns_found, values_said, reach_found, values_asked_lem, values_found}
use Rattle.period.proofs.values_arrive.Goals as goal

pub columns-cols-requires : goal.columns-cols-requires
columns-cols-requires c = columns_asked c.args.t c.requires.0

pub values_bound-requires : goal.values_bound-requires
values_bound-requires c =
    values_asked_lem c.args.t c.requires.0 c.columns-cols.result (columns_found c.args.t c.columns-cols.ensures)

pub returns : goal.returns
returns c =
    let t = c.args.t in
    let bound : IsBound (table_of t) c.reached-reached.result c.values_bound.result
    = values_found t c.requires.0 c.columns-cols.result (columns_found c.args.t c.columns-cols.ensures) _ _ c.values_bound.ensures in
    let said = values_said (table_of t) c.requires.0.accepted c.reached-reached.result (reach_found t c.requires.0 _ c.reached-reached.ensures) c.values_bound.result c.args.q bound c.requires.1 in
    let test = says_leb c.values_bound.result c.args.q in
    (λ e. said.0 (test.0 e), λ x. test.1 (said.1 x))
