-- A refusal is handed on; a table that the fields accept is handed on where all tests of the whole pass.
-- Assumes nothing.
use Rattle.std.proofs.Common.{◌≡◌, length, sym, ◌∙◌, rules}
use Rattle.std.proofs.lemmas.Result.{err_from_is_err_and}
use Rattle.rules.specs.Judge.{judge_whole}
use Rattle.table.specs.JudgedLaws.{denied, granted, going_refused, going_accepted}
use Rattle.table.specs.TableLaws.{kept_few}
use Rattle.whole.proofs.WholeJudged.{whole_refused, whole_accepted}
use Rattle.whole.proofs.judge.Goals as goal

pub returns-in_err-t : goal.returns-in_err-t
returns-in_err-t c =
    let p = err_from_is_err_and c.from_residual.result c.from_residual.ensures.1 in
    rw (p.1, p.2, going_refused c.args.judged judge_whole _ c.in_err-t.was) (denied c.in_err-t.field-0.0)

pub whole_test-requires : goal.whole_test-requires
whole_test-requires c =
    let full : length c.in_ok-t.t.ops ≡ 32 = search rules in
    let (few, named) = c.requires.1 _ c.in_ok-t.was in
    (kept_few c.in_ok-t.t full (c.requires.0 _ c.in_ok-t.was), few, named)

pub returns-in_err-whole_test : goal.returns-in_err-whole_test
returns-in_err-whole_test c =
    let q = c.in_err-whole_test.field-0.0 in
    let p = err_from_is_err_and c.from_residual-in_err-whole_test.result c.from_residual-in_err-whole_test.ensures.1 in
    rw (p.1, p.2, going_accepted c.args.judged judge_whole _ c.in_ok-t.was, whole_refused _ q c.in_err-whole_test.ensures) (denied q)

pub returns : goal.returns
returns c =
    granted _ (going_accepted c.args.judged judge_whole _ c.in_ok-t.was ∙ whole_accepted _ (sym c.in_ok-whole_test.ensures)) (c.requires.0 _ c.in_ok-t.was)
