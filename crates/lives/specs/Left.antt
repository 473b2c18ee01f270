-- How a search goes over the number of writes since a use of a value: what is left of the use when a later cycle starts, row by row, a row for
-- each number of writes. Not part of any promise.
-- Assumes nothing.
use Rattle.std.specs.Prelude.{ℕ, ◌+◌, ◌-◌, ◌<◌, ◌≤◌, ◌≡◌, ◌&&◌, List, ◌⊎◌, ltb, get_or}
use Rattle.rules.specs.Table.{Table, nops, op, Turn, end_of}
use Rattle.rules.specs.Places.{sum, one, writer}
use Rattle.theory.specs.Walks.{Reach}
use Rattle.lives.specs.Near.{Differ, writes_in, ahead_in, UseIn}

-- x is the largest number that Q holds of, or 0 where there is none: what bounds all of them bounds x
pub record Most (Q : ℕ → Type 0) (x : ℕ) : Type 0 where
  pub most : (y : ℕ) → Q y → y ≤ x
  pub least : (z : ℕ) → ((y : ℕ) → Q y → y ≤ z) → x ≤ z

-- a walk from a use comes to mode b, with s writes of cell c after the use and before the cycle of b, and x ticks are left of the use when that
-- cycle starts (0: none)
pub data Left (T : Table) (q c : ℕ) : ℕ → ℕ → ℕ → Type 0 where
  begin : {a b j e : ℕ} → Reach T a → UseIn T c a j e → Turn T a b → Left T q c (ahead_in T c a e) b (end_of (op T j) - q)
  onward : {s m b x : ℕ} → Left T q c s m x → Turn T m b → Left T q c (s + writes_in T c m) b (x - q)

-- row s: for each mode the most that is left, with s writes since the use
abbrev pub IsRow : Table → ℕ → ℕ → ℕ → (ℕ → ℕ) → Type 0
IsRow T q c s f = (b : ℕ) → b < 32 → Most (Left T q c s b) (f b)

-- ---- what waits for its row

-- a use in mode m with t writes of the cell behind it in its cycle, which ends at x
pub record Used (T : Table) (c t m x : ℕ) : Type 0 where
  pub reach : Reach T m
  pub by : (j e : ℕ) × UseIn T c m j e × (ahead_in T c m e ≡ t) × (x ≡ end_of (op T j))

-- what a cycle of mode m has for the cycle behind it, with t writes since the use: a use of its own, or what was left at its start, in one of the
-- first s rows
abbrev pub Waiting : Table → ℕ → ℕ → ℕ → ℕ → ℕ → ℕ → Type 0
Waiting T q c s t m x = Used T c t m x ⊎ ((u : ℕ) × (u < s) × (u + writes_in T c m ≡ t) × Left T q c u m x)

-- the most that waits, for the next 33 rows
abbrev pub IsRing : Table → ℕ → ℕ → ℕ → (ℕ → ℕ → ℕ) → Type 0
IsRing T q c s g = (t m : ℕ) → s ≤ t → t < s + 33 → m < 32 → Most (Waiting T q c s t m) (g t m)

-- what bounds all that is left with s writes bounds f
abbrev pub Sound : Table → ℕ → ℕ → ℕ → (ℕ → ℕ) → Type 0
Sound T q c s f = (b z : ℕ) → b < 32 → ((y : ℕ) → Left T q c s b y → y ≤ z) → f b ≤ z

-- the modes that write nothing hand on what they have, and nothing more comes of it
abbrev pub Handed : Table → ℕ → ℕ → (ℕ → ℕ) → Type 0
Handed T q c f = (m b : ℕ) → m < 32 → b < 32 → writes_in T c m ≡ 0 → Turn T m b → f m - q ≤ f b

-- ---- how far the rows reach

-- the writes of cell c in a cycle of mode m that start before the date x. The writes of a cell in one mode do not overlap, so these are the first so
-- many of them: what is left with s writes shows the differences from s + 1 to s + started_in T c b x.
unfoldable pub started_in : Table → ℕ → ℕ → ℕ → ℕ
unfolding sum one writer
started_in T c m x = sum (λ u. one (writer T c m u && ltb (op T u).start x)) (nops T)

-- the first s rows reach d
abbrev pub Shown : Table → ℕ → ℕ → ℕ → ℕ → Type 0
Shown T q c s d = (u b x : ℕ) × (u < s) × Left T q c u b x × (d ≡ u + started_in T c b x)

-- the first s rows reach to far, and each number below s is a difference
pub record Searched (T : Table) (q c s far : ℕ) : Type 0 where
  pub reach : Most (Shown T q c s) far
  pub passed : (d : ℕ) → 1 ≤ d → d < s → (Differ T q c d → ⊥) → ⊥

-- far, moved on by what row s reaches in the first n modes
pub record Farther (T : Table) (c s : ℕ) (f : ℕ → ℕ) (n far r : ℕ) : Type 0 where
  pub low : far ≤ r
  pub each : (b : ℕ) → b < n → s + started_in T c b (f b) ≤ r
  pub least : (z : ℕ) → far ≤ z → ((b : ℕ) → b < n → s + started_in T c b (f b) ≤ z) → r ≤ z

-- ---- the numbers of a search, as lists

-- no mode counts more than 32 writes
abbrev pub Few : List ℕ → Type 0
Few counts = (m : ℕ) → m < 32 → get_or counts m 0 ≤ 32

-- none of the first n ticks is above 1000
abbrev pub Low : List ℕ → ℕ → Type 0
Low ticks n = (k : ℕ) → k < n → get_or ticks k 0 ≤ 1000
