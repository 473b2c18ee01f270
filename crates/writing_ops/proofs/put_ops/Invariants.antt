-- The fields of the operations so far are stored, one behind the other, and the place is behind them.
-- Assumes nothing.
use Prim.Native.Nat.{◌+◌}
use mathlib.Core.Path.{◌≡◌}
use lib.ListN.{length, take}
use Rattle.rules.specs.Bytes.{joined}
use Rattle.rules.specs.Judge.{ops_place}
use Rattle.puts.specs.Puts.{stored}
use Rattle.widths.specs.WidthLaws.{size_to}
use Rattle.writing_ops.specs.WritingOps.{bytes_of_op}
use Rattle.writing_ops.proofs.put_ops.Given as goal

abbrev pub invariant-loop-i : goal.invariant-loop-i
invariant-loop-i l =
    (length l.out ≡ length l.initial.out) × (l.at ≡ ops_place l.t.modes + size_to l.t.ops l.i) × (l.out ≡ stored l.initial.out (ops_place l.t.modes) (joined bytes_of_op (take l.i l.t.ops)))
