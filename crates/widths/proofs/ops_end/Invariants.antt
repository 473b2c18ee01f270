-- So far the place is behind the first operations.
-- Assumes nothing.
use Prim.Native.Nat.{◌+◌}
use mathlib.Core.Path.{◌≡◌}
use Rattle.rules.specs.Judge.{ops_place}
use Rattle.widths.specs.WidthLaws.{size_to}
use Rattle.widths.proofs.ops_end.Given as goal

abbrev pub invariant-loop-o : goal.invariant-loop-o
invariant-loop-o l = l.at ≡ ops_place l.modes + size_to l.o-items l.o-index
