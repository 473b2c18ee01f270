-- What `tell` leaves is what is told of the answer of `fold`, which also leaves the buffer as it has to be.
-- Assumes nothing.
use mathlib.Core.Path.{◌∙◌}
use Rattle.telling.specs.TellingLaws.{ended_told}
use Rattle.calls.proofs.fold.Goals as goal

pub returns : goal.returns
returns c = (_, c.fold-text.ensures, ended_told (c.tell.ensures ∙ c.answer_told.ensures))
