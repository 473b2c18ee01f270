-- Weaker readings of the rules, of the planners and errors that document 01 wants shut out. Nothing here is part of a promise.
-- Assumes nothing.
use Rattle.std.specs.Prelude.{ℕ, ◌+◌, ◌*◌, ◌<◌, ◌≤◌, ◌≡◌, List, length}
use Rattle.rules.specs.Sets.{In, Share, Overlap}
use Rattle.rules.specs.Table.{Table, op, end_of, held_to}
use Rattle.rules.specs.Runs.{IsRun, Runs, plain_start, plain_end, Source, BoardsRightAt, spaced}
use Rattle.theory.specs.Near.{BoardPair, ValuePair}

-- ---- rightness in runs of at most n cycles, for "one that tests the first pair of cycles only"
pub record RightInRuns (n : ℕ) (T : Table) (q : ℕ) : Type 0 where
  pub boards : (r : List ℕ) → IsRun T r → length r ≤ n → (i k j l : ℕ) → Runs T r k i → Runs T r l j → ((i ≡ j) × (k ≡ l) → ⊥)
      → Share (op T i).boards (op T j).boards
      → Overlap ((op T i).start + k * q) (held_to (op T i) + k * q) ((op T j).start + l * q) (held_to (op T j) + l * q) → ⊥
  pub values : (r : List ℕ) → IsRun T r → length r ≤ n → (c i k j l : ℕ) → Runs T r l j → In c (op T j).reads
      → Source T r c (plain_start T j l) i k → end_of (op T i) + k * q ≤ (op T j).start + l * q

-- the smallest period that is right in the first pair of cycles
pub record IsPairPeriod (T : Table) (q : ℕ) : Type 0 where
  pub low : 1 ≤ q
  pub high : q ≤ T.len
  pub right : RightInRuns 2 T q
  pub least : (shorter : ℕ) → 1 ≤ shorter → shorter < q → RightInRuns 2 T shorter → ⊥

-- ---- "Testing cycles one apart only": one cycle on, no two operations share a board and none reads what another wrote
pub record NoneNext (T : Table) : Type 0 where
  pub boards : (i j a b : ℕ) → BoardPair T 1 i j a b → ⊥
  pub values : (c i j a b : ℕ) → ValuePair T 1 c i j a b → ⊥

-- ---- "4 if starts went before ends in choosing the sources only": a write that ends when the reader starts is not seen
pub record LateSource (T : Table) (r : List ℕ) (c d i k : ℕ) : Type 0 where
  pub runs : Runs T r k i
  pub writes : In c (op T i).writes
  pub before : plain_end T i k < d
  pub last : (u m : ℕ) → Runs T r m u → In c (op T u).writes → plain_end T u m < d → plain_end T u m ≤ plain_end T i k

-- right, with these sources
pub record LateRight (T : Table) (q : ℕ) : Type 0 where
  pub boards : BoardsRightAt T (spaced q)
  pub values : (r : List ℕ) → IsRun T r → (c i k j l : ℕ) → Runs T r l j → In c (op T j).reads
      → LateSource T r c (plain_start T j l) i k → end_of (op T i) + k * q ≤ (op T j).start + l * q
