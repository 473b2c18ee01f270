-- Which set is wrong first of all is which is first of those from word m on, until a wrong one or the end.
-- Assumes nothing.
use Rattle.std.proofs.Common.{◌≡◌, ◌+◌}
use Rattle.rules.specs.Bytes.{words}
use Rattle.rules.specs.Judge.{sets_wrong}
use Rattle.theory.proofs.Ranges.{sets_from}
use Rattle.heads.proofs.sets_wrong.Given as goal

abbrev pub invariant-loop-m : goal.invariant-loop-m
invariant-loop-m l = sets_wrong l.modes (words l.s 14 (l.modes + 1)) ≡ sets_from 3 l.modes (words l.s 14 (l.modes + 1)) l.m
