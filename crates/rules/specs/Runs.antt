-- Document 01, "Runs and right periods": runs, the plain run and its sources, and which periods are right.
-- Assumes nothing.
use Rattle.std.specs.Prelude.{ℕ, suc, ◌+◌, ◌*◌, ◌<◌, ◌≤◌, ◌≡◌, List, length, get_or}
use Rattle.rules.specs.Sets.{In, Share, Overlap}
use Rattle.rules.specs.Table.{Table, nops, op, Turn, end_of, held_to}

-- "Cycle k of a run has the k-th mode (from 0)"
abbrev pub mode : List ℕ → ℕ → ℕ
mode r k = get_or r k 0

-- "A run is a finite sequence of one or more modes. The first is a first mode; each next one may follow the one before."
pub record IsRun (T : Table) (r : List ℕ) : Type 0 where
  pub some : 0 < length r
  pub begins : In (mode r 0) T.first
  pub goes : (k : ℕ) → suc k < length r → Turn T (mode r k) (mode r (suc k))

-- "an operation runs in it when that mode is in its set": operation i runs in cycle k of r
pub record Runs (T : Table) (r : List ℕ) (k i : ℕ) : Type 0 where
  pub cycle : k < length r
  pub is_op : i < nops T
  pub in_mode : In (mode r k) (op T i).modes

-- ---- the plain run: "cycle k starts at k·p"

-- the date at which operation i starts in cycle k
abbrev pub plain_start : Table → ℕ → ℕ → ℕ
plain_start T i k = (op T i).start + k * T.len

-- "A write comes at the end of its operation."
abbrev pub plain_end : Table → ℕ → ℕ → ℕ
plain_end T i k = end_of (op T i) + k * T.len

-- "takes the value of the last write of that cell that ended at or before the reader's start": at the date d a reader of the cell c takes
-- what operation i wrote in cycle k. ("An end comes before a start of the same date": the two ≤ d.)
pub record Source (T : Table) (r : List ℕ) (c d i k : ℕ) : Type 0 where
  pub runs : Runs T r k i
  pub writes : In c (op T i).writes
  pub before : plain_end T i k ≤ d
  pub last : (u m : ℕ) → Runs T r m u → In c (op T u).writes → plain_end T u m ≤ d → plain_end T u m ≤ plain_end T i k

-- ---- right. s gives the date at which each cycle starts.

-- "no two different running instances that share a board overlap, whichever cycle starts first, the same operation in two cycles included"
unfoldable pub BoardsRightAt : Table → (ℕ → ℕ) → Type 0
BoardsRightAt T s =
    (r : List ℕ) → IsRun T r → (i k j l : ℕ) → Runs T r k i → Runs T r l j → ((i ≡ j) × (k ≡ l) → ⊥)
    → Share (op T i).boards (op T j).boards
    → Overlap ((op T i).start + s k) (held_to (op T i) + s k) ((op T j).start + s l) (held_to (op T j) + s l) → ⊥

-- "each reader's source, as the plain run has it, has ended at or before the reader's start". With no source it is the initial value, and
-- nothing is asked.
unfoldable pub ValuesRightAt : Table → (ℕ → ℕ) → Type 0
ValuesRightAt T s =
    (r : List ℕ) → IsRun T r → (c i k j l : ℕ) → Runs T r l j → In c (op T j).reads
    → Source T r c (plain_start T j l) i k → end_of (op T i) + s k ≤ (op T j).start + s l

pub record RightAt (T : Table) (s : ℕ → ℕ) : Type 0 where
  pub boards : BoardsRightAt T s
  pub values : ValuesRightAt T s

-- "with each operation at t + k·q"
abbrev pub spaced : ℕ → ℕ → ℕ
spaced q k = k * q

-- "A period q .. is right when, in every run, with each operation at t + k·q" both hold. This is said of every number q: "from 1 to p" stands
-- in IsPeriod and, for what is asked about q, in Answers.period_asked.
abbrev pub Right : Table → ℕ → Type 0
Right T q = RightAt T (spaced q)

-- "A period q, from 1 to p"; "The period is the smallest right q."
pub record IsPeriod (T : Table) (q : ℕ) : Type 0 where
  pub low : 1 ≤ q
  pub high : q ≤ T.len
  pub right : Right T q
  pub least : (shorter : ℕ) → 1 ≤ shorter → shorter < q → Right T shorter → ⊥
