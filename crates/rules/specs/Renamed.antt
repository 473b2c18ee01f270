-- Document 02, No. 12, "Rows in another order": when a second table is the first with its operations in another order, its boards renamed and its modes
-- renamed, and when the rows of a reply have moved with their operations.
-- Assumes nothing.
use Rattle.std.specs.Prelude.{ℕ, ◌<◌, ◌≤◌, ◌≡◌, ◌↔◌, length, get_or}
use Rattle.rules.specs.Sets.{In}
use Rattle.rules.specs.Table.{Op, Decider, nobody, decides, Table, nops, op, followers}
use Rattle.rules.specs.Rows.{Row, Reply, ticks, cycles}

-- three maps: the place of each operation in the other order, the new name of each board, and the new number of each mode
pub record Names : Type 0 where
  pub place : ℕ → ℕ
  pub board : ℕ → ℕ
  pub mode : ℕ → ℕ

-- "one to one": each of P gets a name of Q, and no two of P the same. What the map does with others does not matter.
pub record OneToOne (P Q : ℕ → Type 0) (f : ℕ → ℕ) : Type 0 where
  pub there : (a : ℕ) → P a → Q (f a)
  pub apart : (a b : ℕ) → P a → P b → f a ≡ f b → a ≡ b

-- one of n operations, boards or modes
abbrev pub Below : ℕ → ℕ → Type 0
Below n a = a < n

-- a set renamed: t has the new name of each member of s, and nothing else
abbrev pub RenamedSet : (ℕ → ℕ) → ℕ → ℕ → Type 0
RenamedSet f s t = (b : ℕ) → In b t ↔ ((a : ℕ) × In a s × (f a ≡ b))

-- some operation has the board b. "Renaming its boards": a board that no operation has needs no new name.
abbrev pub InUse : Table → ℕ → Type 0
InUse T b = (i : ℕ) × (i < nops T) × In b (op T i).boards

-- an operation with its boards and modes renamed. "The dates inside a cycle stay put", and cells keep their numbers.
pub record OpRenamed (by : Names) (o u : Op) : Type 0 where
  pub start : u.start ≡ o.start
  pub dur : u.dur ≡ o.dur
  pub hold : u.hold ≡ o.hold
  pub boards : RenamedSet by.board o.boards u.boards
  pub reads : u.reads ≡ o.reads
  pub writes : u.writes ≡ o.writes
  pub modes : RenamedSet by.mode o.modes u.modes

-- "the decider's number following its operation"
abbrev pub following : (ℕ → ℕ) → Decider → Decider
following f nobody = nobody
following f (decides d) = decides (f d)

-- "listing its operations in another order, or renaming its boards one to one ..; Mode numbers renamed one to one, in the operations' mode sets, first
-- modes and turns alike": all three at once. The count of boards may change, where it covers the new names and is a count that a table may have.
pub record Renamed (by : Names) (first second : Table) : Type 0 where
  pub len : second.len ≡ first.len
  pub cells : second.cells ≡ first.cells
  pub count : nops second ≡ nops first
  pub places : OneToOne (Below (nops first)) (Below (nops second)) by.place
  pub each : (i : ℕ) → i < nops first → OpRenamed by (op first i) (op second (by.place i))
  pub boards : OneToOne (InUse first) (Below second.boards) by.board
  pub boards_high : second.boards ≤ 16
  pub modes : second.modes ≡ first.modes
  pub words : length second.follow ≡ length first.follow
  pub numbers : OneToOne (Below first.modes) (Below second.modes) by.mode
  pub firsts : RenamedSet by.mode first.first second.first
  pub turns : (a : ℕ) → a < first.modes → RenamedSet by.mode (followers first a) (followers second (by.mode a))
  pub decider : second.decider ≡ following by.place first.decider

-- each case by itself: the other maps change nothing. (The count of boards may be another in each.)
abbrev pub in_order : (ℕ → ℕ) → Names
in_order f = record { place = f; board = λ b. b; mode = λ a. a }

abbrev pub boards_by : (ℕ → ℕ) → Names
boards_by f = record { place = λ i. i; board = f; mode = λ a. a }

abbrev pub modes_by : (ℕ → ℕ) → Names
modes_by f = record { place = λ i. i; board = λ b. b; mode = f }

-- ---- the reply: "leaves the period and moves each folded row with its operation"

-- what stands past the last row
abbrev pub no_row : Row
no_row = record { start = ticks 0; fst = cycles 0 }

-- the row of operation i stands at its new place, each at one of its own
pub record Moved (place : ℕ → ℕ) (first second : Reply) : Type 0 where
  pub period : second.period ≡ first.period
  pub count : length second.rows ≡ length first.rows
  pub places : OneToOne (Below (length first.rows)) (Below (length second.rows)) place
  pub each : (i : ℕ) → i < length first.rows → get_or second.rows (place i) no_row ≡ get_or first.rows i no_row
