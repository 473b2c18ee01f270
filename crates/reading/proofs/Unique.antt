-- Two answers that the promise of `read`, or of `handed::judge`, allows are equal: the refusal with its figures, or every word of the table.
-- Assumes nothing.
use Rattle.std.specs.Prelude.{◌≡◌, Result}
use Rattle.std.proofs.Common.{sym, ◌∙◌}
use Rattle.rules.specs.Table.{Table}
use Rattle.rules.specs.Verdicts.{Verdict}
use Rattle.fields.proofs.Told.{answer_one}
use Rattle.fields.specs.declared.Refusal.{Refusal}
use Rattle.table.specs.Tables.{JudgedAs}
use Rattle.table.specs.declared.Table as code

pub judged_one : (v : Verdict Table) (r s : Result code.Table Refusal) → JudgedAs v r → JudgedAs v s → r ≡ s
judged_one v r s j k = answer_one r s (j ∙ sym k)
