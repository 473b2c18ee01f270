-- The operations that use each cell, by columns; the modes of some operations that end between two dates; the modes in which a writer of a
-- cell is the last, and a reader of it is fresh.
-- Assumes nothing.
use Rattle.std.specs.Prelude.{ℕ, zero, suc, ◌<◌, ◌≤◌, ◌≡◌, Bool, cond, ◌&&◌, List, [], ◌∷◌, ◌↔◌, ◌⊎◌, leb, ltb, length, get_or}
use Rattle.rules.specs.Sets.{In}
use Rattle.rules.specs.Table.{Op, end_of}
use Rattle.theory.specs.Tests.{without, step}
use Rattle.columns.specs.Columns.{op_by}
use Rattle.columns.specs.declared.Dated.{Dated}

-- ---- who uses each cell

-- the sets of cells with k added to those of `cells`
pub record Added (users : List ℕ) (k cells : ℕ) (out : List ℕ) : Type 0 where
  pub long : length out ≡ length users
  pub each : (c j : ℕ) → c < 32 → In j (get_or out c 0) ↔ (In j (get_or users c 0) ⊎ (In c cells × (j ≡ k)))

-- k is in the set of cell c exactly when c is in the set of operation k
pub record Turned (sets : ℕ → ℕ) (users : List ℕ) : Type 0 where
  pub each : (c k : ℕ) → c < 32 → In k (get_or users c 0) ↔ ((k < 32) × In c (sets k))

-- ---- operations between two dates

abbrev pub ends_within : ℕ → ℕ → Op → Bool
ends_within after by o = ltb after (end_of o) && leb (end_of o) by

-- the modes of operation k, if it ends after one date and by another
abbrev pub modes_within : List Dated → ℕ → ℕ → ℕ → ℕ
modes_within cols after by k = cond (ends_within after by (op_by cols k)) (op_by cols k).modes 0

-- f k, f (k + 1), .., n words
unfoldable pub words_from : (ℕ → ℕ) → ℕ → ℕ → List ℕ
words_from f k zero = []
words_from f k (suc n) = f k ∷ words_from f (suc k) n

-- and of all the operations of s: they are added up as one turn adds up the followers of the modes of a set
unfoldable pub ended_in : List Dated → ℕ → ℕ → ℕ → ℕ
ended_in cols s after by = step (words_from (modes_within cols after by) 0 32) s

-- ---- the writers and readers of a cell

-- the modes of i in which none of the writers w ends after it
unfoldable pub last_of : List Dated → ℕ → ℕ → ℕ
last_of cols w i = without (op_by cols i).modes (ended_in cols w (end_of (op_by cols i)) 1000)

-- the modes of j in which none of them ends by its start
unfoldable pub fresh_of : List Dated → ℕ → ℕ → ℕ
fresh_of cols w j = without (op_by cols j).modes (ended_in cols w 0 (op_by cols j).start)

-- of each reader
pub record FreshSets (cols : List Dated) (w readers : ℕ) (fresh : List ℕ) : Type 0 where
  pub each : (j : ℕ) → In j readers → get_or fresh j 0 ≡ fresh_of cols w j

-- no reader starts before e
pub record Early (cols : List Dated) (readers e : ℕ) : Type 0 where
  pub high : e ≤ 1000
  pub each : (j : ℕ) → In j readers → e ≤ (op_by cols j).start
