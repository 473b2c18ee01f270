-- The operations of a table handed over as numbers: their tests, one after the other, and the verdict on all.
-- Assumes nothing.
use Rattle.std.specs.Prelude.{ℕ, ◌-◌, ◌*◌, ◌≤◌, ◌≡◌, Bool, ◌||◌, List, [], ◌++◌, ltb, length, drop, Result, Ok, Err}
use Rattle.rules.specs.Table.{Op, Table}
use Rattle.rules.specs.Verdicts.{Verdict, accepted, SHORT, Test, refuse_if, ◌then◌, onwards}
use Rattle.rules.specs.Judge.{not_many, ranged, op_wrong, with_ops, ops_place, marked_of, op_of_numbers, none_left, ops_of_numbers}
use Rattle.fields.specs.Verdicts.{refusal_of}
use Rattle.fields.specs.declared.Refusal.{Refusal}
use Rattle.table.specs.Tables.{op_in, table_of, table_in}
use Rattle.ranges.specs.Ranges.{counted}
use Rattle.table.specs.declared.Op as ops
use Rattle.table.specs.declared.Table as code

-- the numbers behind k operations: six for each, and a mark and a hold
abbrev pub ops_past : ℕ → List ℕ → List ℕ
ops_past k ns = drop (6 * k) ns

abbrev pub holds_past : ℕ → List ℕ → List ℕ
holds_past k hs = drop (2 * k) hs

unfoldable pub none_behind : List ℕ → List ℕ → ℕ → Bool
none_behind ns hs k = none_left (ops_past k ns) (holds_past k hs)

-- the operation behind k others, and whether it is marked
unfoldable pub mark_there : List ℕ → ℕ → Bool
mark_there hs k = marked_of (holds_past k hs)

unfoldable pub op_there : List ℕ → List ℕ → ℕ → Op
op_there ns hs k = op_of_numbers (ops_past k ns) (holds_past k hs)

-- the tests of one operation, whose numbers stand first, when `left` more may come and it would be written at a place
unfoldable pub op_test : Table → List ℕ → List ℕ → ℕ → ℕ → Test
op_test T ns hs left at =
    not_many at left
    then refuse_if (ltb (length ns) 6 || ltb (length hs) 2) SHORT at 0
    then ranged (op_wrong T (marked_of hs) (op_of_numbers ns hs)) at

-- of the operation behind k others
unfoldable pub test_there : Table → List ℕ → List ℕ → ℕ → ℕ → Test
test_there T ns hs k at = op_test T (ops_past k ns) (holds_past k hs) (32 - k) at

-- what the code tells of it: the operation itself when it passes them, or the refusal
abbrev pub Told : Table → List ℕ → List ℕ → ℕ → ℕ → Result ops.Op Refusal → Type 0
Told T ns hs k at (Ok o) = (test_there T ns hs k at ≡ accepted tt) × (o ≡ op_in (op_there ns hs k))
Told T ns hs k at (Err q) = refusal_of q ≡ test_there T ns hs k at

-- the length and the counts of a table
abbrev pub counts_of : Table → Table
counts_of T = counted T.len T.boards T.cells T.modes

-- the verdict on the operations that come behind those of os, of which the next would be written at a place
unfoldable pub ops_behind : Table → List Op → List ℕ → List ℕ → ℕ → Verdict Table
ops_behind H os ns hs at =
    onwards (ops_of_numbers H (ops_past (length os) ns) (holds_past (length os) hs) (32 - length os) at) (λ us. accepted (with_ops H (os ++ us)))

-- the verdict on all the operations
unfoldable pub handed_ops : Table → List ℕ → List ℕ → Verdict Table
handed_ops H ns hs = onwards (ops_of_numbers H ns hs 32 (ops_place H.modes)) (λ os. accepted (with_ops H os))

-- ---- what the code takes

-- the counts of boards, cells and modes
pub record SmallCounts (boards cells modes : ℕ) : Type 0 where
  pub few_boards : boards ≤ 32
  pub few_cells : cells ≤ 32
  pub few_modes : modes ≤ 32

-- a table that is zero where nothing counts, with no operations
abbrev pub Bare : code.Table → Type 0
Bare t = t ≡ table_in (with_ops (table_of t) [])
