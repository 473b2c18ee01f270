-- What the planner looks at in place of all runs: pairs of operations at distances n with n * q below the table's length; and of cycles that the
-- operator starts, at every distance.
-- Assumes nothing.
use Rattle.std.specs.Prelude.{ℕ, ◌+◌, ◌*◌, ◌<◌, ◌≤◌}
use Rattle.rules.specs.Sets.{In, Share, Overlap}
use Rattle.rules.specs.Table.{Table, nops, op, end_of, held_to}
use Rattle.theory.specs.Walks.{Reach, Walk, Any}

-- i and j share a board, and j runs n cycles after i, on a walk from a reachable mode a to b
pub record BoardPair (T : Table) (n i j a b : ℕ) : Type 0 where
  pub first : i < nops T
  pub second : j < nops T
  pub board : Share (op T i).boards (op T j).boards
  pub reach : Reach T a
  pub runs : In a (op T i).modes
  pub walk : Walk T Any n a b
  pub ends : In b (op T j).modes

-- two such operations do not overlap, at any distance n with n * q below the length
unfoldable pub BoardsNear : Table → ℕ → Type 0
BoardsNear T q =
    (n : ℕ) → 1 ≤ n → n * q < T.len → (i j a b : ℕ) → BoardPair T n i j a b
    → Overlap (op T i).start (held_to (op T i)) ((op T j).start + n * q) (held_to (op T j) + n * q) → ⊥

-- i is the last writer of cell c in mode a
pub record LastWriter (T : Table) (c a i : ℕ) : Type 0 where
  pub is_op : i < nops T
  pub runs : In a (op T i).modes
  pub writes : In c (op T i).writes
  pub last : (u : ℕ) → u < nops T → In a (op T u).modes → In c (op T u).writes → end_of (op T u) ≤ end_of (op T i)

-- no operation writes cell c in mode m
abbrev pub Quiet : Table → ℕ → ℕ → Type 0
Quiet T c m = (u : ℕ) → u < nops T → In m (op T u).modes → In c (op T u).writes → ⊥

-- no operation writes cell c in mode m and ends by the date d
abbrev pub QuietTo : Table → ℕ → ℕ → ℕ → Type 0
QuietTo T c d m = (u : ℕ) → u < nops T → In m (op T u).modes → In c (op T u).writes → end_of (op T u) ≤ d → ⊥

-- j reads in mode b what i wrote n cycles before in mode a
pub record ValuePair (T : Table) (n c i j a b : ℕ) : Type 0 where
  pub reach : Reach T a
  pub writer : LastWriter T c a i
  pub walk : Walk T (Quiet T c) n a b
  pub is_op : j < nops T
  pub reads : In c (op T j).reads
  pub runs : In b (op T j).modes
  pub quiet : QuietTo T c (op T j).start b

-- what is so read has ended by the reader's start
unfoldable pub ValuesNear : Table → ℕ → Type 0
ValuesNear T q =
    (n : ℕ) → 1 ≤ n → n * q < T.len → (c i j a b : ℕ) → ValuePair T n c i j a b
    → end_of (op T i) ≤ (op T j).start + n * q

-- ---- document 02, No. 6: cycles that start g or more after one another

-- i has let go of its boards when j starts n gaps later, at every distance n
unfoldable pub BoardsClear : Table → ℕ → Type 0
BoardsClear T g = (n : ℕ) → 1 ≤ n → (i j a b : ℕ) → BoardPair T n i j a b → held_to (op T i) ≤ (op T j).start + n * g

-- and what is read there has ended
unfoldable pub ValuesClear : Table → ℕ → Type 0
ValuesClear T g = (n : ℕ) → 1 ≤ n → (c i j a b : ℕ) → ValuePair T n c i j a b → end_of (op T i) ≤ (op T j).start + n * g
