-- A margin as the code works it out.
-- Assumes nothing.
use Rattle.std.specs.Prelude.{ℕ, ◌+◌, ◌*◌, ℤ, pos, ◌-ℤ◌}
use Rattle.rules.specs.Table.{end_of}
use Rattle.table.specs.Tables.{op_of}
use Rattle.table.specs.declared.Op.{Op}

-- the margin of two of the code's operations, by one subtraction
abbrev pub gap : ℕ → ℕ → Op → Op → ℤ
gap n q o u = pos (n * q + u.start) -ℤ pos (end_of (op_of o))
