-- The words before m stand in front, and the rest is zero.
-- Assumes nothing.
use Rattle.std.proofs.Common.{◌≡◌, length}
use Rattle.rules.specs.Bytes.{words}
use Rattle.table.specs.Tables.{padded}
use Rattle.heads.proofs.read_words.Given as goal

abbrev pub invariant-loop-m : goal.invariant-loop-m
invariant-loop-m l = (length l.out ≡ 32) × (l.out ≡ padded 32 0 (words l.s 18 l.m))
