-- The first n rows are there; once a row came again, it is its own next row.
-- Assumes nothing.
use Prim.Native.Nat.{suc}
use mathlib.Core.Path.{◌≡◌}
use mathlib.Core.Bool.{true}
use lib.ListN.{length, take}
use Rattle.turns.specs.Turns.{tab, next_row, row_after}
use Rattle.turns.proofs.block.Given as goal

abbrev pub invariant-loop-entry : goal.invariant-loop-entry
invariant-loop-entry l = record {
  sixteen : length l.entry-items ≡ 16;
  long : length l.last ≡ 32;
  last : l.last ≡ row_after l.follow l.row l.entry-index;
  rows : take l.entry-index l.entry-items ≡ tab (λ k. row_after l.follow l.row (suc k)) l.entry-index;
  still : l.still ≡ true → next_row l.follow l.last ≡ l.last;
}
