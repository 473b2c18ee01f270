-- A yes is told as 1 and a no as 0, and a refusal by its figures.
-- Assumes nothing.
use Rattle.std.proofs.Common.{rules}
use Rattle.telling.specs.Telling.{yes_of}
use Rattle.telling.proofs.truth_told.Goals as goal

pub returns : goal.returns
unfolding yes_of
returns c = search rules
