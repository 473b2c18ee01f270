-- What a planner looks at in place of all runs: the differences v - w of values w and later writes v that meet in some run. At a right period a
-- number of places is enough exactly when it is not such a difference (`Chain`).
-- Assumes nothing.
use Rattle.std.specs.Prelude.{ℕ, zero, suc, ◌+◌, ◌*◌, ◌<◌, ◌≡◌, ◌&&◌, List, ◌⊎◌, leb, ltb}
use Rattle.rules.specs.Sets.{In}
use Rattle.rules.specs.Table.{Table, nops, op, Turn, end_of}
use Rattle.rules.specs.Runs.{IsRun}
use Rattle.theory.specs.Walks.{Reach}
use Rattle.rules.specs.Places.{sum, one, writer, Writes, Reads}

-- operation j of cycle l reads value w, or has written it: where values are right, its life lasts as long as each of these
unfoldable pub Uses : Table → List ℕ → ℕ → ℕ → ℕ → ℕ → Type 0
Uses T r c w j l = Reads T r c w j l ⊎ Writes T r c w j l

-- a conflict by a use
pub record Meets (T : Table) (q : ℕ) (r : List ℕ) (c w v j l i k : ℕ) : Type 0 where
  pub uses : Uses T r c w j l
  pub write : Writes T r c v i k
  pub later : w < v
  pub soon : (op T i).start + k * q < end_of (op T j) + l * q
  pub other : (i ≡ j) × (k ≡ l) → ⊥

-- d is a difference: in some run a value and the write d later meet
unfoldable pub Differ : Table → ℕ → ℕ → ℕ → Type 0
Differ T q c d = (r : List ℕ) × IsRun T r × (w j l i k : ℕ) × Meets T q r c w (w + d) j l i k

-- ---- counts in a cycle of mode m: all the writes of cell c, those that end by the date e of the cycle, those that end after it
unfoldable pub writes_in : Table → ℕ → ℕ → ℕ
unfolding sum one writer
writes_in T c m = sum (λ u. one (writer T c m u)) (nops T)

unfoldable pub ended_in : Table → ℕ → ℕ → ℕ → ℕ
unfolding sum one writer
ended_in T c m e = sum (λ u. one (writer T c m u && leb (end_of (op T u)) e)) (nops T)

unfoldable pub ahead_in : Table → ℕ → ℕ → ℕ → ℕ
unfolding sum one writer
ahead_in T c m e = sum (λ u. one (writer T c m u && ltb e (end_of (op T u)))) (nops T)

-- b follows a by exactly n turns, n at least 1, and in the modes between them there are s writes of cell c in all
pub data Counted (T : Table) (c : ℕ) : ℕ → ℕ → ℕ → ℕ → Type 0 where
  last : {a b : ℕ} → Turn T a b → Counted T c (suc zero) zero a b
  more : {n s a m b : ℕ} → Turn T a m → Counted T c n s m b → Counted T c (suc n) (writes_in T c m + s) a b

-- operation j runs in mode a and uses the value of cell c that is there at the date e of the cycle: it reads it at its start, or has
-- written it at its end
pub record UseIn (T : Table) (c a j e : ℕ) : Type 0 where
  pub is_op : j < nops T
  pub runs : In a (op T j).modes
  pub uses : (In c (op T j).reads × (e ≡ (op T j).start)) ⊎ (In c (op T j).writes × (e ≡ end_of (op T j)))

-- operation i runs in mode b and writes cell c
pub record WriteIn (T : Table) (c b i : ℕ) : Type 0 where
  pub is_op : i < nops T
  pub runs : In b (op T i).modes
  pub writes : In c (op T i).writes

-- d by a walk of n turns: a use in mode a, s writes between, and a write in mode b that starts before the use has ended. The difference
-- is that of the writes after the use in a, those between, and those in b up to the write.
pub record NearBy (T : Table) (q c d n s a b j e i : ℕ) : Type 0 where
  pub reach : Reach T a
  pub used : UseIn T c a j e
  pub walk : Counted T c n s a b
  pub write : WriteIn T c b i
  pub soon : (op T i).start + n * q < end_of (op T j)
  pub count : ahead_in T c a e + s + ended_in T c b (end_of (op T i)) ≡ d

unfoldable pub NearDiffer : Table → ℕ → ℕ → ℕ → Type 0
NearDiffer T q c d = (n s a b j e i : ℕ) × NearBy T q c d n s a b j e i
