-- The judgement of a table whose fields are judged.
-- Assumes nothing.
use Rattle.std.specs.Prelude.{ℕ, ◌<◌, ◌≤◌, ◌≡◌, length, Result}
use Rattle.std.specs.Result.{ForOk}
use Rattle.std.proofs.Common.{sym, ap, ◌∙◌}
use Rattle.rules.specs.Table.{decides, Table, nops}
use Rattle.rules.specs.Verdicts.{Verdict, accepted, onwards}
use Rattle.rules.specs.Judge.{judge_whole}
use Rattle.fields.specs.Verdicts.{answered}
use Rattle.fields.specs.declared.Refusal.{Refusal}
use Rattle.table.specs.Tables.{JudgedAs}
use Rattle.table.specs.TableLaws.{who_back}
use Rattle.table.specs.JudgedLaws.{judged_tidy, judged_accepted, going_by}
use Rattle.table.specs.declared.Table as code
use Rattle.early.specs.Early.{Named}
use Rattle.whole.specs.Whole.{whole_on, Ready}

-- ---- what passes on: as many words as modes, 32 modes at most, and a decider that is an operation
pub record Fit (T : Table) : Type 0 where
  pub words : length T.follow ≡ T.modes
  pub few : T.modes ≤ 32
  pub named : (d : ℕ) → T.decider ≡ decides d → d < nops T

-- the code's table of such a verdict is ready
pub ready_by : {v : Verdict Table} {r : Result code.Table Refusal} → JudgedAs v r → ((T : Table) → v ≡ accepted T → Fit T) → Ready r
ready_by {v} {r} j fits = (judged_tidy (λ T e. (fits T e).words) j, go)
  where
    go : ForOk r (λ t. (t.modes ≤ 32) × Named t)
    go t e =
        let took = judged_accepted v t (sym (ap answered e) ∙ j) in
        let fit = fits took.table took.said in
        rw took.held (fit.few, λ d x. fit.named d (sym (who_back took.table.decider) ∙ x))

-- and its judgement is that of the verdict
pub whole_by : {v : Verdict Table} (r : Result code.Table Refusal) → JudgedAs v r → ((T : Table) → v ≡ accepted T → Fit T) → whole_on r ≡ onwards v judge_whole
whole_by r j fits = going_by (λ T e. (fits T e).words) judge_whole r j
