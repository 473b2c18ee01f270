-- The verdict on a table's bytes up to its operations, and on one operation's field; and with the decider's field.
-- Assumes nothing.
use Rattle.std.specs.Prelude.{ℕ, ◌-◌, Bool, ◌&&◌, ◌||◌, List, leb, ltb, eqb, length}
use Rattle.rules.specs.Table.{Op, Table}
use Rattle.rules.specs.Verdicts.{Verdict, accepted, ◌then◌, onwards}
use Rattle.rules.specs.Bytes.{num8}
use Rattle.rules.specs.Judge.{head_of, with_ops, ops_place, head_test, ops_from}
use Rattle.table.specs.declared.Table as code
use Rattle.ranges.specs.Ranges.{counted}
use Rattle.deciders.specs.Deciders.{behind_of}
use Rattle.reading_ops.specs.ReadingOps.{op_verdict}

-- the operations end at a place, when the first of them is due at another
abbrev pub done_at : ℕ → List ℕ → ℕ → Bool
done_at first s at = leb (length s) at || (ltb first at && eqb (num8 s at) 5)

-- one operation's field, by the length and the counts of a table's head, when so many operations stand before this one
abbrev pub next_verdict : code.Table → ℕ → List ℕ → ℕ → Verdict Op
next_verdict h count s at = op_verdict (counted h.len h.boards h.cells h.modes) s (32 - count) at

-- the operations behind the head, with the head
unfoldable pub ops_verdict : List ℕ → Verdict Table
ops_verdict s = onwards (ops_from (head_of s) s 32 (ops_place (head_of s).modes)) (λ os. accepted (with_ops (head_of s) os))

-- the fields up to the operations: `judge` with the table accepted where `judge` asks for what comes behind
unfoldable pub fields_verdict : List ℕ → Verdict Table
fields_verdict s = head_test s then ops_verdict s

-- all fields: `judge` with the table accepted where `judge` asks for CLASH, RACE and EARLY
unfoldable pub whole_verdict : List ℕ → Verdict Table
whole_verdict s = onwards (fields_verdict s) (behind_of s)
