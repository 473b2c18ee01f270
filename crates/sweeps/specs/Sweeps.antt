-- What is wrong at one distance of cycles, and the first period that is not marked.
-- Assumes nothing.
use Rattle.std.specs.Prelude.{ℕ, ◌<◌, ◌≤◌, List, get_or}
use Rattle.std.specs.Int.Bits.{bit_and}
use Rattle.theory.specs.Tests.{step}
use Rattle.columns.specs.Columns.{op_by}
use Rattle.columns.specs.declared.Dated.{Dated}
use Rattle.marks.specs.Marks.{Marked, Keeps, HitBy}

-- the modes that can stand as many turns as the row says after a mode of R in which operation i runs
abbrev pub modes_after : List Dated → List ℕ → ℕ → ℕ → ℕ
modes_after cols row R i = step row (bit_and R (op_by cols i).modes)

-- at period x, one of the sets of the operations below k hits its operation
abbrev pub HitAny : List Dated → List ℕ → ℕ → ℕ → List ℕ → ℕ → ℕ → Type 0
HitAny cols row R n later k x = (i : ℕ) × (i < k) × HitBy cols i (modes_after cols row R i) n (get_or later i 0) x

-- each set below k has kept those that are near
pub record AllKept (cols : List Dated) (n q k : ℕ) (old new : List ℕ) : Type 0 where
  pub each : (i : ℕ) → i < k → Keeps cols i n q (get_or old i 0) (get_or new i 0)

-- r is the first number from q on that is not marked, or `len`
pub record FirstUnmarked (wrong : List ℕ) (len q r : ℕ) : Type 0 where
  pub low : q ≤ r
  pub high : r ≤ len
  pub passed : (x : ℕ) → q ≤ x → x < r → Marked wrong x
  pub clear : r < len → Marked wrong r → ⊥
