-- Which operations of a set, by columns, run in a mode, and how many of them end by a date; what that is of a table's cell.
-- Assumes nothing.
use Rattle.std.specs.Prelude.{ℕ, ◌<◌, ◌&&◌, List, ◌↔◌, leb}
use Rattle.rules.specs.Sets.{has, In}
use Rattle.rules.specs.Table.{Table, op, end_of}
use Rattle.rules.specs.Places.{sum, one}
use Rattle.columns.specs.Columns.{op_by}
use Rattle.columns.specs.declared.Dated.{Dated}

-- r has the operations of the set that run in mode m
pub record InMode (cols : List Dated) (ops m r : ℕ) : Type 0 where
  pub exact : (u : ℕ) → In u r ↔ (In u ops × In m (op_by cols u).modes)

-- how many operations of the set end by e
unfoldable pub ended_of : List Dated → ℕ → ℕ → ℕ
unfolding sum one has
ended_of cols ops e = sum (λ u. one (has ops u && leb (end_of (op_by cols u)) e)) 32

-- ---- of a table

-- r has the operations that read cell c, w those that write it, and v those that do so in mode m
abbrev pub ReadersOf : Table → ℕ → ℕ → Type 0
ReadersOf T c r = (u : ℕ) → In u r ↔ ((u < 32) × In c (op T u).reads)

abbrev pub WritersOf : Table → ℕ → ℕ → Type 0
WritersOf T c w = (u : ℕ) → In u w ↔ ((u < 32) × In c (op T u).writes)

abbrev pub ReadersIn : Table → ℕ → ℕ → ℕ → Type 0
ReadersIn T c m v = (u : ℕ) → In u v ↔ ((u < 32) × In m (op T u).modes × In c (op T u).reads)

abbrev pub WritersIn : Table → ℕ → ℕ → ℕ → Type 0
WritersIn T c m v = (u : ℕ) → In u v ↔ ((u < 32) × In m (op T u).modes × In c (op T u).writes)
