-- What `tell` leaves is what is told of the answer of `write`, which also leaves the buffer as it has to be.
-- Assumes nothing.
use mathlib.Core.Path.{◌∙◌}
use Rattle.telling.specs.TellingLaws.{ended_told}
use Rattle.calls.proofs.write.Goals as goal

pub returns : goal.returns
returns c = (_, c.write_table-table.ensures, ended_told (c.tell.ensures ∙ c.answer_told.ensures))
