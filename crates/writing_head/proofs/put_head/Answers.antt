-- The field of the modes stands behind the two before it.
-- Assumes nothing.
use mathlib.Core.Path.{refl}
use Rattle.puts.specs.PutLaws.{stored_then}
use Rattle.writing_head.proofs.put_head.Goals as goal

pub returns : goal.returns
returns c = stored_then _ _ _ _ c.put_counts.ensures refl c.put_modes.ensures
