-- What `tell` leaves is what is told of the answer of `margin`, and the margin is left where it is wanted.
-- Assumes nothing.
use mathlib.Core.Path.{◌∙◌}
use Rattle.telling.specs.TellingLaws.{ended_told}
use Rattle.calls.proofs.margin.Goals as goal

pub returns : goal.returns
returns c = (_, c.margin-measured.ensures, ended_told c.tell.ensures ∙ c.measured_told.ensures)
