-- Document 01: fold, unfold and the margin.
-- Assumes nothing.
use Rattle.std.specs.Prelude.{ℕ, ◌+◌, ◌-◌, ◌*◌, ◌/◌, List, map, ℤ, pos, ◌-ℤ◌}
use Rattle.rules.specs.Table.{Op, Table, op, end_of}

-- "Dates are counted in ticks and start indices in cycles; the code keeps a date and a cycle index apart"
pub record Ticks : Type 0 where
  pub number : ℕ

pub record Cycles : Type 0 where
  pub number : ℕ

abbrev pub ticks : ℕ → Ticks
ticks n = record { number = n }

abbrev pub cycles : ℕ → Cycles
cycles n = record { number = n }

-- a folded row: the folded start and fst
pub record Row : Type 0 where
  pub start : Ticks
  pub fst : Cycles

-- "fst is the whole part of t / q, and the folded start is t − fst·q"; q is the period
abbrev pub fst_of : Ticks → Ticks → Cycles
fst_of q t = cycles (t.number / q.number)

abbrev pub fold_at : Ticks → Ticks → Row
fold_at q t = record { start = ticks (t.number - (fst_of q t).number * q.number); fst = fst_of q t }

-- the start that a row came from
abbrev pub unfold_at : Ticks → Row → Ticks
unfold_at q r = ticks (r.fst.number * q.number + r.start.number)

-- a reply: the period and a row for each operation, in table order
pub record Reply : Type 0 where
  pub period : Ticks
  pub rows : List Row

-- a table folded at the period q
unfoldable pub reply_of : Table → ℕ → Reply
reply_of T q = record { period = ticks q; rows = map (λ (o : Op). fold_at (ticks q) (ticks o.start)) T.ops }

-- a reply unfolded
unfoldable pub starts_of : Reply → List Ticks
starts_of R = map (unfold_at R.period) R.rows

-- "The margin of operations i, j at distance n and period q is n·q − (t + d of i, less t of j). It is signed": an integer.
unfoldable pub margin : Table → ℕ → ℕ → ℕ → ℕ → ℤ
margin T i j n q = pos (n * q) -ℤ (pos (end_of (op T i)) -ℤ pos (op T j).start)
