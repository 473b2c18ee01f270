-- The words so far, and zero behind them.
-- Assumes nothing.
use Rattle.std.proofs.Common.{◌≡◌, take}
use Rattle.table.specs.Tables.{padded}
use Rattle.handed.proofs.words_of.Given as goal

abbrev pub invariant-loop-i : goal.invariant-loop-i
invariant-loop-i l = l.words ≡ padded 32 0 (take l.i l.follow)
