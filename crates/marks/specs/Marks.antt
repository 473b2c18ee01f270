-- Periods that are marked, and the operations for which they are.
-- Assumes nothing.
use Rattle.std.specs.Prelude.{ℕ, suc, ◌+◌, ◌*◌, ◌<◌, ◌≡◌, List, ◌↔◌, ◌⊎◌, length, get_or}
use Rattle.rules.specs.Sets.{In, Share, Overlap}
use Rattle.rules.specs.Table.{Op, held_to}
use Rattle.columns.specs.Columns.{op_by}
use Rattle.columns.specs.declared.Dated.{Dated}

-- the number x is marked
abbrev pub Marked : List ℕ → ℕ → Type 0
Marked wrong x = get_or wrong x 0 ≡ 1

-- the marks of `new` are those of `old` and the numbers at which P holds
pub record Adds (old : List ℕ) (P : ℕ → Type 0) (new : List ℕ) : Type 0 where
  pub long : length new ≡ length old
  pub exact : (x : ℕ) → Marked new x ↔ (Marked old x ⊎ P x)

-- at period x, operation u runs n + 1 cycles after o while o holds its boards
abbrev pub Meets : Op → Op → ℕ → ℕ → Type 0
Meets o u n x = Overlap o.start (held_to o) (u.start + suc n * x) (held_to u + suc n * x)

-- at period q, operation u starts n + 1 cycles after o before o has let go of its boards
abbrev pub Near : Op → Op → ℕ → ℕ → Type 0
Near o u n q = u.start + suc n * q < held_to o

-- r has those of the set that are near operation i
pub record Keeps (cols : List Dated) (i n q set r : ℕ) : Type 0 where
  pub exact : (j : ℕ) → In j r ↔ (In j set × Near (op_by cols i) (op_by cols j) n q)

-- at period x, operation j meets operation i, in one of the modes `after`; or one of a set does
abbrev pub Hits : List Dated → ℕ → ℕ → ℕ → ℕ → ℕ → Type 0
Hits cols i after n j x = Share after (op_by cols j).modes × Meets (op_by cols i) (op_by cols j) n x

abbrev pub HitBy : List Dated → ℕ → ℕ → ℕ → ℕ → ℕ → Type 0
HitBy cols i after n set x = (j : ℕ) × In j set × Hits cols i after n j x
