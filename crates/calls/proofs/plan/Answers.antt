-- What `tell` leaves is what is told of the answer of `plan`, which also leaves the buffer as it has to be.
-- Assumes nothing.
use mathlib.Core.Path.{◌∙◌}
use Rattle.telling.specs.TellingLaws.{ended_told}
use Rattle.calls.proofs.plan.Goals as goal

pub returns : goal.returns
returns c = (_, c.plan-reply.ensures, ended_told (c.tell.ensures ∙ c.answer_told.ensures))
