-- The number stands behind the header, and together they are the field.
-- Assumes nothing.
use Rattle.std.proofs.Common.{refl}
use Rattle.puts.specs.PutLaws.{stored_then}
use Rattle.writing_decider.proofs.put_field.Goals as goal

pub returns : goal.returns
returns c = stored_then _ _ _ _ c.put_header.ensures refl c.put8.ensures
