-- Document 02, No. 1, "Places for each stored value": the values of a cell, how long each of them lives, and how many places are enough.
-- Assumes nothing.
use Rattle.std.specs.Prelude.{ℕ, zero, suc, ◌+◌, ◌*◌, ◌%◌, ◌<◌, ◌≤◌, ◌≡◌, Bool, cond, ◌&&◌, List, ◌⊎◌, leb, length, get_or}
use Rattle.rules.specs.Sets.{has, In}
use Rattle.rules.specs.Table.{Table, nops, op, end_of}
use Rattle.rules.specs.Runs.{mode, IsRun, Runs, plain_start, plain_end}

-- ---- counting

-- f 0 + f 1 + .. + f (n - 1)
unfoldable pub sum : (ℕ → ℕ) → ℕ → ℕ
sum f zero = 0
sum f (suc n) = sum f n + f n

-- 1 where the test passes: a sum of these counts
unfoldable pub one : Bool → ℕ
one b = cond b 1 0

-- ---- the numbers of the values

-- operation u runs in mode m and writes cell c
unfoldable pub writer : Table → ℕ → ℕ → ℕ → Bool
unfolding has
writer T c m u = has (op T u).modes m && has (op T u).writes c

-- how many writes of cell c in the run r have come at or before the plain date d
unfoldable pub writes_by : Table → List ℕ → ℕ → ℕ → ℕ
unfolding sum one writer
writes_by T r c d = sum (λ k. sum (λ u. one (writer T c (mode r k) u && leb (plain_end T u k) d)) (nops T)) (length r)

-- "the writes of a cell are counted from 1 in plain order": operation i of cycle k writes value w of cell c. The write itself counts, so the first
-- is 1. No two writes of a cell end at one plain date (`Counts.one_end`, in the crate `lives`).
pub record Writes (T : Table) (r : List ℕ) (c w i k : ℕ) : Type 0 where
  pub runs : Runs T r k i
  pub writes : In c (op T i).writes
  pub value : writes_by T r c (plain_end T i k) ≡ w

-- operation j of cycle l reads value w of cell c: as many writes have come by its plain start, so it is the last of them, and with none "the
-- initial value is value 0". That is the source of document 01 (`Counts.source_value`, `value_source`).
pub record Reads (T : Table) (r : List ℕ) (c w j l : ℕ) : Type 0 where
  pub runs : Runs T r l j
  pub reads : In c (op T j).reads
  pub value : writes_by T r c (plain_start T j l) ≡ w

-- ---- lives

-- nobody reads value w
unfoldable pub Unread : Table → List ℕ → ℕ → ℕ → Type 0
Unread T r c w = (j l : ℕ) → Reads T r c w j l → ⊥

-- "A value lives .. to the end of its last reader, or of its write where nobody reads it": value w lives until operation j of cycle l has ended. Its
-- life is over when all of these have. (Value 0 has no write: where nobody reads it, its life is over "before tick 0".)
unfoldable pub Lives : Table → List ℕ → ℕ → ℕ → ℕ → ℕ → Type 0
Lives T r c w j l = Reads T r c w j l ⊎ (Writes T r c w j l × Unread T r c w)

-- ---- places

-- at the period q a "later write", v, of operation i in cycle k, "starts before that value's life is over": the life of w, which lasts until
-- operation j of cycle l has ended. "A step that reads a value and writes the cell again does not conflict with its own read": the two are not one.
pub record Conflict (T : Table) (q : ℕ) (r : List ℕ) (c w v j l i k : ℕ) : Type 0 where
  pub lives : Lives T r c w j l
  pub write : Writes T r c v i k
  pub later : w < v
  pub soon : (op T i).start + k * q < end_of (op T j) + l * q
  pub other : (i ≡ j) × (k ≡ l) → ⊥

-- "value w has place w mod R"; "R is enough when, in every run, no later write to that place starts before that value's life is over"
unfoldable pub Enough : Table → ℕ → ℕ → ℕ → Type 0
Enough T q c R =
    (r : List ℕ) → IsRun T r → (w v j l i k : ℕ) → v % R ≡ w % R → Conflict T q r c w v j l i k → ⊥

-- "the smallest number R of places": from 1 up, since a place is a number mod R
pub record IsPlaces (T : Table) (q c R : ℕ) : Type 0 where
  pub low : 1 ≤ R
  pub enough : Enough T q c R
  pub least : (fewer : ℕ) → 1 ≤ fewer → fewer < R → Enough T q c fewer → ⊥

-- "For each cell": the numbers of cells 0, 1, ..
pub record EachPlaces (T : Table) (q : ℕ) (rs : List ℕ) : Type 0 where
  pub size : length rs ≡ T.cells
  pub each : (c : ℕ) → c < T.cells → IsPlaces T q c (get_or rs c 0)
