-- What `tell` leaves is what is told of the answer of `gap_of`.
-- Assumes nothing.
use mathlib.Core.Path.{◌∙◌}
use Rattle.calls.proofs.gap.Goals as goal

pub returns : goal.returns
returns c = (_, c.gap_of-found.ensures, c.tell.ensures ∙ c.found_told.ensures)
