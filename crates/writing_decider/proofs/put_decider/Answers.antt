-- Nothing is stored where nobody decides; else the field is.
-- Assumes nothing.
use Rattle.puts.specs.Puts.{stored}
use Rattle.writing_decider.proofs.put_decider.Goals as goal

pub returns-in_default : goal.returns-in_default
unfolding stored
returns-in_default c = rw c.in_default.is
