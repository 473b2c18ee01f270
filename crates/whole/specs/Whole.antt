-- The tests over all pairs of a table's operations and of its decider, and the verdict on a table whose fields are judged.
-- Assumes nothing.
use Rattle.std.specs.Prelude.{ℕ, ◌<◌, ◌≤◌, ◌≡◌, Bool, Option, Some, None, Result, get_or}
use Rattle.std.specs.Result.{ForOk}
use Rattle.rules.specs.Table.{Op, Table}
use Rattle.rules.specs.Verdicts.{Verdict, accepted, refused, CLASH, RACE, Test, ◌then◌}
use Rattle.rules.specs.Judge.{clashes, races, pairs_test, early_test, judge_whole}
use Rattle.fields.specs.declared.Refusal.{Refusal}
use Rattle.table.specs.Tables.{op_of, blank_op, going_on, Tidy}
use Rattle.table.specs.declared.Op as ops
use Rattle.table.specs.declared.Table as code
use Rattle.early.specs.Early.{Named}

-- what a test of the code's operations gives is h, of any two operations of a table that count
abbrev pub TestsBy : (ops.Op → ops.Op → Bool → Type 0) → code.Table → (Op → Op → Bool) → Type 0
TestsBy gives t h =
    (i j : ℕ) → i < t.count → j < t.count → (r : Bool)
    → gives (get_or t.ops i blank_op) (get_or t.ops j blank_op) r
    → r ≡ h (op_of (get_or t.ops i blank_op)) (op_of (get_or t.ops j blank_op))

-- the first pair that is hit, or none, as the test over all pairs tells it with a refusal's number
abbrev pub FirstPair : Option (ℕ × ℕ) → (Op → Op → Bool) → ℕ → Table → Type 0
FirstPair None hit number T = pairs_test hit number T ≡ accepted tt
FirstPair (Some p) hit number T = pairs_test hit number T ≡ refused number p.0 p.1

-- "Then CLASH over all pairs ..; then RACE likewise"
abbrev pub both_tests : Table → Test
both_tests T = pairs_test clashes CLASH T then pairs_test races RACE T

-- "EARLY comes after RACE"
abbrev pub whole_test : Table → Test
whole_test T = both_tests T then early_test T T.decider

-- a refusal of the fields stays; a table that they accept is judged whole
abbrev pub whole_on : Result code.Table Refusal → Verdict Table
whole_on j = going_on j judge_whole

-- a table that they accept is zero where nothing counts, has no more modes than there may be, and its decider is an operation
abbrev pub Ready : Result code.Table Refusal → Type 0
Ready j = Tidy j × ForOk j (λ t. (t.modes ≤ 32) × Named t)
