-- What `tell` leaves is what is told of the answer of `values_arrive`.
-- Assumes nothing.
use mathlib.Core.Path.{◌∙◌}
use Rattle.calls.proofs.values_arrive.Goals as goal

pub returns : goal.returns
returns c = (_, c.values_arrive-truth.ensures, c.tell.ensures ∙ c.truth_told.ensures)
