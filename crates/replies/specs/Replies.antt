-- The rows of a table.
-- Assumes nothing.
use Rattle.std.specs.Prelude.{ℕ}
use Rattle.rules.specs.Table.{Table, op}
use Rattle.rules.specs.Rows.{Row, ticks, fold_at}

-- the row of operation i at the period q
abbrev pub row_in : Table → ℕ → ℕ → Row
row_in T q i = fold_at (ticks q) (ticks (op T i).start)
