-- What `tell` leaves is what is told of the answer of `boards_fit`.
-- Assumes nothing.
use mathlib.Core.Path.{◌∙◌}
use Rattle.calls.proofs.boards_fit.Goals as goal

pub returns : goal.returns
returns c = (_, c.boards_fit-truth.ensures, c.tell.ensures ∙ c.truth_told.ensures)
