-- The period, that something comes behind it, and the rows.
-- Assumes nothing.
use Rattle.std.proofs.Common.{ℕ, ap, ◌∙◌, arith}
use Rattle.rules.specs.Rows.{ticks}
use Rattle.rules.specs.Judge.{rows_from}
use Rattle.heads.specs.HeadLaws.{handed_back}
use Rattle.starts.specs.Starts.{heard}
use Rattle.starts.specs.StartLaws.{period_bad, rows_missing, rows_there}
use Rattle.starts.proofs.judge.Goals as goal

pub returns-in_err-len_test : goal.returns-in_err-len_test
returns-in_err-len_test c = handed_back _ _ c.from_residual.ensures.1 (period_bad _ _ c.in_err-len_test.ensures)

pub returns-then-s-le5 : goal.returns-then-s-le5
returns-then-s-le5 c = rows_missing _ c.in_ok-len_test.ensures c.if-s-le5.true

pub returns : goal.returns
returns c =
    c.rows_test.ensures
    ∙ ap (λ (q : ℕ). heard (rows_from (ticks q) c.args.s.now 32 5)) c.period_of.ensures.0
    ∙ rows_there c.args.s.now c.in_ok-len_test.ensures (omega arith)
