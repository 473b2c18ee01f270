-- The bound of the values, and how the code comes to it: raised by one distance, writer and cell after the other.
-- Assumes nothing.
use Rattle.std.specs.Prelude.{ℕ, ◌+◌, ◌≤◌, ◌≡◌, true, List, ◌↔◌}
use Rattle.std.specs.Int.Bits.{bit_and}
use Rattle.rules.specs.Table.{Table, end_of}
use Rattle.theory.specs.Tests.{via, values_fine}
use Rattle.columns.specs.Columns.{op_by}
use Rattle.columns.specs.declared.Dated.{Dated}
use Rattle.cells.specs.Cells.{ended_in, last_of, fresh_of}
use Rattle.arrivals.specs.Arrivals.{Every, ReaderFine}

-- r is the smallest period at which every value is in time, in runs through the modes R; every longer one serves too
pub record IsBound (T : Table) (R r : ℕ) : Type 0 where
  pub low : 1 ≤ r
  pub high : r ≤ T.len
  pub exact : (q : ℕ) → 1 ≤ q → (values_fine T R q ≡ true) ↔ (r ≤ q)

-- at q, what is written at `end` is there for every reader at every distance from n + 1 on, when it has come to the modes `modes` after n
-- turns and is written over in those of w; F has the followers of each mode
unfoldable pub TurnsFine : List ℕ → List Dated → ℕ → (ℕ → ℕ) → ℕ → ℕ → ℕ → ℕ → ℕ → Type 0
TurnsFine F cols readers fresh w end n modes q = (m : ℕ) → Every (ReaderFine cols fresh (via F w m modes) end (n + m)) readers q

-- and for what operation i, one of the writers of a cell, writes into it where it is the last
unfoldable pub WriterFine : List ℕ → List Dated → ℕ → ℕ → ℕ → ℕ → ℕ → Type 0
WriterFine F cols R writers readers i =
    TurnsFine F cols readers (fresh_of cols writers) (ended_in cols writers 0 1000) (end_of (op_by cols i)) 0 (bit_and R (last_of cols writers i))

-- and for all that is written into the cell
abbrev pub CellFine : List ℕ → List Dated → ℕ → ℕ → ℕ → ℕ → Type 0
CellFine F cols R writers readers = Every (WriterFine F cols R writers readers) writers
