-- The bytes before the operations, in the parts in which the code writes them.
-- Assumes nothing.
use Rattle.std.specs.Prelude.{ℕ, ◌<◌, ◌≤◌, List, [], ◌∷◌, ◌++◌, take}
use Rattle.rules.specs.Bytes.{be16, be32, field_bytes, joined}
use Rattle.table.specs.declared.Table.{Table}

-- fields 01 and 02
abbrev pub counts_bytes : Table → List ℕ
counts_bytes t = field_bytes 1 (be16 t.len) ++ field_bytes 2 (t.boards ∷ t.cells ∷ t.modes ∷ [])

-- field 03
abbrev pub modes_bytes : Table → List ℕ
modes_bytes t = field_bytes 3 (be32 t.first ++ joined be32 (take t.modes t.follow))

-- what it takes that they can be written: counts that fit a byte, and words that are there
pub record Writable (t : Table) : Type 0 where
  pub boards : t.boards < 256
  pub cells : t.cells < 256
  pub modes : t.modes ≤ 32
