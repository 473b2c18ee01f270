-- The first k operations are in their places.
-- Assumes nothing.
use mathlib.Core.Path.{◌≡◌}
use mathlib.Core.List.{map}
use lib.ListN.{take}
use Rattle.rules.specs.Table.{Table}
use Rattle.table.specs.Tables.{op_of}
use Rattle.columns.specs.ColumnLaws.{Filled}
use Rattle.columns.proofs.columns.Given as goal

abbrev pub invariant-loop-k : goal.invariant-loop-k
invariant-loop-k l = (T : Table) → T.ops ≡ map op_of (take l.count l.ops) → Filled T l.k l.cols
