-- Modes that a run can reach, and walks from mode to mode.
-- Assumes nothing.
use Rattle.std.specs.Prelude.{ℕ, zero, suc, ◌↔◌}
use Rattle.rules.specs.Sets.{In}
use Rattle.rules.specs.Table.{Table, Turn}

-- some run comes to mode a
pub data Reach (T : Table) : ℕ → Type 0 where
  begin : {a : ℕ} → In a T.first → Reach T a
  turn : {a b : ℕ} → Reach T a → Turn T a b → Reach T b

-- R is the set of the modes that a run can reach
unfoldable pub IsReach : Table → ℕ → Type 0
IsReach T R = (a : ℕ) → In a R ↔ Reach T a

-- b follows a by exactly n turns, n at least 1, and each mode between them satisfies P
pub data Walk (T : Table) (P : ℕ → Type 0) : ℕ → ℕ → ℕ → Type 0 where
  last : {a b : ℕ} → Turn T a b → Walk T P (suc zero) a b
  more : {n a m b : ℕ} → Turn T a m → P m → Walk T P n m b → Walk T P (suc n) a b

-- every mode will do
abbrev pub Any : ℕ → Type 0
Any m = Unit {0}
