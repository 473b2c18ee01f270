-- The successor sets by distance and mode: row n has for each mode m the modes that may stand n turns after m.
-- Assumes nothing.
use Rattle.std.specs.Prelude.{ℕ, zero, suc, ◌<◌, ◌≡◌, List, [], ◌∷◌, ◌++◌, get_or}
use Rattle.rules.specs.Table.{Table}
use Rattle.theory.specs.Tests.{step, via}

-- f 0, .., f (n - 1)
unfoldable pub tab : {A : Type 0} → (ℕ → A) → ℕ → List A
tab f zero = []
tab f (suc n) = tab f n ++ (f n ∷ [])

-- one turn more in front, for the list F of the followers of modes 0, 1, ..: what follows a follower of m
unfoldable pub next_row : List ℕ → List ℕ → List ℕ
unfolding tab step
next_row F row = tab (λ m. step row (get_or F m 0)) 32

-- two rows agree in the first k modes
abbrev pub SameRow : List ℕ → List ℕ → ℕ → Type 0
SameRow a b k = (m : ℕ) → m < k → get_or a m 0 ≡ get_or b m 0

-- a row with n turns more; F itself is the row of one turn
unfoldable pub row_after : List ℕ → List ℕ → ℕ → List ℕ
unfolding next_row
row_after F row zero = row
row_after F row (suc n) = next_row F (row_after F row n)

-- "for sixteen distances at a time": a row with 1 to 16 turns more
unfoldable pub block_from : List ℕ → List ℕ → List (List ℕ)
unfolding tab row_after
block_from F row = tab (λ n. row_after F row (suc n)) 16

-- the row is that of n + 1 turns: one step by it is n + 1 turns by F
pub record TurnsBy (F : List ℕ) (n : ℕ) (row : List ℕ) : Type 0 where
  pub exact : (s : ℕ) → step row s ≡ via F 0 n s

-- F has the turns of T; it may have more words, which nothing follows
abbrev pub TurnsOf : Table → List ℕ → Type 0
TurnsOf T F = (w n s : ℕ) → via F w n s ≡ via T.follow w n s
