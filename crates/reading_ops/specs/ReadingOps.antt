-- The verdict on one operation's field, with the operation.
-- Assumes nothing.
use Rattle.std.specs.Prelude.{ℕ, ◌+◌, Bool, cond, List, Result, Ok, Err}
use Rattle.rules.specs.Table.{Op, Table}
use Rattle.rules.specs.Verdicts.{Verdict, accepted, ◌then◌}
use Rattle.rules.specs.Bytes.{num16, op_at}
use Rattle.rules.specs.Judge.{repeat_test, size_at, wrong_at}
use Rattle.fields.specs.Verdicts.{refusal_of}
use Rattle.fields.specs.declared.Refusal.{Refusal}
use Rattle.table.specs.declared.Op as code
use Rattle.table.specs.Tables.{op_of}

-- the hold in a field of either form
abbrev pub hold_in : Bool → List ℕ → ℕ → ℕ
hold_in held s at = cond held (num16 s (at + 7)) 0

-- one operation's field, when `left` more may come, with the operation
unfoldable pub op_verdict : Table → List ℕ → ℕ → ℕ → Verdict Op
op_verdict T s left at = repeat_test s at left 4 (size_at s at) (wrong_at T s at) then accepted (op_at s at)

-- the code's answer to it
abbrev pub op_told : Result code.Op Refusal → Verdict Op
op_told (Ok o) = accepted (op_of o)
op_told (Err r) = refusal_of r
