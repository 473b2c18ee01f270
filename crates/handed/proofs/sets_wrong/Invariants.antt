-- Which set is wrong first of all is which is first of those from word m on, until a wrong one or the end.
-- Assumes nothing.
use Rattle.std.proofs.Common.{◌≡◌, ◌∷◌}
use Rattle.rules.specs.Judge.{sets_wrong}
use Rattle.theory.proofs.Ranges.{sets_from}
use Rattle.handed.proofs.sets_wrong.Given as goal

abbrev pub invariant-loop-m : goal.invariant-loop-m
invariant-loop-m l = sets_wrong l.modes (l.first ∷ l.follow) ≡ sets_from 7 l.modes l.follow l.m
