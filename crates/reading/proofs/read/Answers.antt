-- The fields are judged, then the decider's, and what they make is judged whole.
-- Assumes nothing.
use Rattle.reading.specs.FieldsLaws.{fields_tidy, fields_behind, whole_ready, fields_whole}
use Rattle.reading.proofs.read.Goals as goal

pub read-requires : goal.read-requires
read-requires c = fields_tidy _ c.read_fields.ensures

pub judge-requires : goal.judge-requires
judge-requires c = whole_ready _ (rw (fields_behind _ _ c.read_fields.ensures) at c.read.ensures)

pub returns : goal.returns
returns c = rw (fields_whole _ _ (rw (fields_behind _ _ c.read_fields.ensures) at c.read.ensures)) c.judge.ensures
