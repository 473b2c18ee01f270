-- A refusal of the table is the answer; an accepted one is planned.
-- Assumes nothing.
use Rattle.table.specs.JudgedLaws.{judged_refused}
use Rattle.fields.specs.RefusalLaws.{err_again}
use Rattle.reading.specs.ReadLaws.{reads}
use Rattle.plans.specs.Plans.{plan_refused, plan_accepted}
use Rattle.plans.proofs.plan.Goals as goal

pub returns-in_err-t : goal.returns-in_err-t
returns-in_err-t c =
    let r = c.in_err-t.field-0.0 in
    rw (err_again c.from_residual.result r c.from_residual.ensures.1) (plan_refused _ _ r (judged_refused _ r c.in_err-t.ensures))

pub plan_table-requires : goal.plan_table-requires
plan_table-requires c = (reads _ _ c.in_ok-t.ensures).good

pub returns : goal.returns
returns c = plan_accepted _ _ _ _ (reads _ _ c.in_ok-t.ensures).said c.plan_table.ensures
