-- An accepted verdict is told as 0, 0, 0, and a refusal by its figures.
-- Assumes nothing.
use Rattle.std.proofs.Common.{rules}
use Rattle.telling.specs.Telling.{unwritten}
use Rattle.telling.proofs.verdict_told.Goals as goal

pub returns : goal.returns
unfolding unwritten
returns c = search rules
