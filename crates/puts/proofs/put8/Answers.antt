-- The byte is stored at its place.
-- Assumes nothing.
use mathlib.Core.Path.{refl}
use Rattle.puts.specs.Puts.{stored}
use Rattle.puts.proofs.put8.Goals as goal

pub returns : goal.returns
unfolding stored
returns c = refl
