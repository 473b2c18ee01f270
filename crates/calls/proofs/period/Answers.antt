-- What `tell` leaves is what is told of the answer of `period_of`.
-- Assumes nothing.
use mathlib.Core.Path.{◌∙◌}
use Rattle.calls.proofs.period.Goals as goal

pub returns : goal.returns
returns c = (_, c.period_of-found.ensures, c.tell.ensures ∙ c.found_told.ensures)
