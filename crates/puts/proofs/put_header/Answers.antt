-- The tag is stored, and the length behind it.
-- Assumes nothing.
use mathlib.Core.Path.{refl}
use Rattle.puts.specs.PutLaws.{stored_then}
use Rattle.puts.proofs.put_header.Goals as goal

pub returns : goal.returns
returns c = stored_then _ _ _ _ c.put8.ensures refl c.put16.ensures
