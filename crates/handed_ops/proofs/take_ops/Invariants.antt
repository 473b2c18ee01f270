-- The operations so far are in the table, and the verdict on all is that on the rest behind them, until one is refused or none is left.
-- Assumes nothing.
use Prim.Native.Nat.{◌-◌}
use Rattle.table.specs.Tables.{table_of}
use Rattle.handed_ops.specs.OpsLaws.{Taken}
use Rattle.handed_ops.proofs.take_ops.Given as goal

abbrev pub invariant-loop-counts : goal.invariant-loop-counts
invariant-loop-counts l = Taken (table_of l.initial.t) l.ops l.holds l.t l.place

abbrev pub decreases-loop-counts : goal.decreases-loop-counts
decreases-loop-counts l = 33 - l.t.count
