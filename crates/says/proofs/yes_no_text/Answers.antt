-- The word for what is said.
-- Assumes nothing.
use Rattle.rules.specs.Text.{yes_no_line}
use Rattle.says.proofs.yes_no_text.Goals as goal

pub returns-then-said : goal.returns-then-said
unfolding yes_no_line
returns-then-said c = rw c.if-said.true c.bytes_text.ensures

pub returns : goal.returns
unfolding yes_no_line
returns c = rw c.if-said.false c.bytes_text-2.ensures
