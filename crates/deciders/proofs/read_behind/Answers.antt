-- Nothing stands behind the operations where the input is no longer than they are at least; else the field is judged at the place where they end, and who
-- it names goes into the table.
-- Assumes nothing.
use Rattle.std.proofs.Common.{◌+◌, ◌*◌, ◌≤◌, length, refl, sym, arith}
use Rattle.std.proofs.lemmas.Result.{err_from_is_err_and}
use Rattle.rules.specs.Judge.{ops_place}
use Rattle.table.specs.JudgedLaws.{denied}
use Rattle.table.specs.Tables.{table_of}
use Rattle.deciders.specs.DeciderLaws.{test_whole, behind_bad, behind_fine, behind_none, tidy_count, named_by}
use Rattle.deciders.proofs.read_behind.Goals as goal

pub returns-then-s-ops_place : goal.returns-then-s-ops_place
returns-then-s-ops_place c =
    let over : length c.args.s.now ≤ ops_place c.args.t.modes + 21 * c.args.t.count = omega (arith, c.ops_place.ensures) in
    named_by c.args.t c.requires _ (behind_none (table_of c.args.t) refl (tidy_count c.args.t c.requires) c.args.s.now over)

pub returns-in_err-field_test : goal.returns-in_err-field_test
returns-in_err-field_test c =
    let q = c.in_err-field_test.field-0.0 in
    let p = err_from_is_err_and c.from_residual.result c.from_residual.ensures.1 in
    rw (
      p.1,
      p.2,
      behind_bad (table_of c.args.t) c.ops_end-at.ensures (tidy_count c.args.t c.requires) c.args.s.now q c.in_err-field_test.ensures,
    )
    (denied q)

pub who_at-requires : goal.who_at-requires
who_at-requires c = test_whole _ _ _ (sym c.in_ok-field_test.ensures)

pub returns : goal.returns
returns c =
    named_by c.args.t c.requires _
    (behind_fine (table_of c.args.t) c.ops_end-at.ensures (tidy_count c.args.t c.requires) c.args.s.now c.in_ok-field_test.ensures c.who_at.ensures)
