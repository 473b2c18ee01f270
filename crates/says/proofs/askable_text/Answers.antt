-- The literal is the list.
-- Assumes nothing.
use Rattle.rules.specs.Words.{askable}
use Rattle.says.proofs.askable_text.Goals as goal

pub returns : goal.returns
unfolding askable
returns c = c.bytes_text.ensures
