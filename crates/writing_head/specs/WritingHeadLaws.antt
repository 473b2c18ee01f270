-- Laws of the bytes before the operations: how many there are.
-- Assumes nothing.
use Rattle.std.specs.Prelude.{◌+◌, ◌*◌, ◌≤◌, ◌≡◌, ◌++◌, length, take}
use Rattle.std.proofs.Common.{◌∙◌, arith, length-take-le}
use Rattle.rules.specs.Bytes.{be32, joined, head_bytes}
use Rattle.rules.specs.Judge.{ops_place}
use Rattle.theory.proofs.Bytes.{words_length, head_length}
use Rattle.table.specs.Tables.{table_of}
use Rattle.table.specs.declared.Table.{Table}

module _ (t : Table) (words : length t.follow ≡ 32) (few : t.modes ≤ 32) where
  pub words_there : length (take t.modes t.follow) ≡ t.modes
  words_there = length-take-le t.modes t.follow (omega arith)

  -- the length of the field of the modes
  pub modes_size : length (be32 t.first ++ joined be32 (take t.modes t.follow)) ≡ 4 + 4 * t.modes
  modes_size = omega (arith, words_length (take t.modes t.follow), words_there)

  -- the operations begin where the head ends
  pub head_size : length (head_bytes (table_of t)) ≡ ops_place t.modes
  head_size = head_length (table_of t) ∙ rw words_there
