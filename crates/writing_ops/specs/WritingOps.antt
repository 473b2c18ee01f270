-- The operations' bytes.
-- Assumes nothing.
use Rattle.std.specs.Prelude.{ℕ, List, ◌++◌}
use Rattle.rules.specs.Bytes.{be16, be32, op_bytes}
use Rattle.table.specs.Tables.{op_of}
use Rattle.table.specs.declared.Op.{Op}

-- an operation's field
abbrev pub bytes_of_op : Op → List ℕ
bytes_of_op o = op_bytes (op_of o)

-- the sets in it
abbrev pub used_bytes : Op → List ℕ
used_bytes o = be16 o.boards ++ be32 o.reads ++ be32 o.writes ++ be32 o.modes
