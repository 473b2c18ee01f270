-- What the uses of a cell leave in the ring, by columns, and of a table.
-- Assumes nothing.
use Rattle.std.specs.Prelude.{ℕ, ◌+◌, ◌-◌, ◌*◌, ◌<◌, ◌≤◌, ◌≡◌, List, ◌⊎◌, length, get_or}
use Rattle.rules.specs.Sets.{In}
use Rattle.rules.specs.Table.{Table, op, end_of, Accepted}
use Rattle.lives.specs.Near.{ahead_in, UseIn}
use Rattle.lives.specs.Left.{Most, Used}
use Rattle.columns.specs.Columns.{op_by, Columns}
use Rattle.columns.specs.declared.Dated.{Dated}
use Rattle.counting.specs.Counting.{ended_of, ReadersOf, WritersOf}

-- how many of the writers end after the date e
abbrev pub ahead_of : List Dated → ℕ → ℕ → ℕ
ahead_of cols w e = ended_of cols w 1000 - ended_of cols w e

-- what a user of the cell since a date offers to entry k
abbrev pub Offer : List Dated → ℕ → ℕ → (ℕ → ℕ) → ℕ → ℕ → ℕ → Type 0
Offer cols w users since m k y =
    (j : ℕ) × In j users × (k ≡ 32 * ahead_of cols w (since j) + m) × (y ≡ end_of (op_by cols j))

-- each entry is the most of what it was and what is offered
pub record Offered (cols : List Dated) (w users : ℕ) (since : ℕ → ℕ) (m : ℕ) (old new : List ℕ) : Type 0 where
  pub long : length new ≡ length old
  pub each : (k : ℕ) → k < 1056 → Most (λ y. (y ≡ get_or old k 0) ⊎ Offer cols w users since m k y) (get_or new k 0)

-- the uses in mode m, whatever the table: the column of m has the most of what it was and of the uses, and the others are as before; and no entry
-- is above 1000 where none was
pub record OfferedMode (cols : List Dated) (writers readers m : ℕ) (old new : List ℕ) : Type 0 where
  pub long : length new ≡ length old
  pub low : ((k : ℕ) → k < 1056 → get_or old k 0 ≤ 1000) → (k : ℕ) → k < 1056 → get_or new k 0 ≤ 1000
  pub here : (T : Table) (c : ℕ) → Accepted T → Columns T cols → WritersOf T c writers → ReadersOf T c readers → (t : ℕ) → t < 33
      → Most (λ y. (y ≡ get_or old (32 * t + m) 0) ⊎ ((j e : ℕ) × UseIn T c m j e × (ahead_in T c m e ≡ t) × (y ≡ end_of (op T j)))) (get_or new (32 * t + m) 0)
  pub rest : (t n : ℕ) → t < 33 → n < 32 → (n ≡ m → ⊥) → get_or new (32 * t + n) 0 ≡ get_or old (32 * t + n) 0

-- the most of the uses of cell c, by the writes behind them and their mode
abbrev pub UsesOf : Table → ℕ → List ℕ → Type 0
UsesOf T c ring = (t m : ℕ) → t < 33 → m < 32 → Most (Used T c t m) (get_or ring (32 * t + m) 0)
