-- `meets` tests that the intersection is not empty, and so does `shares`.
-- Assumes nothing.
use mathlib.Core.Path.{refl}
use Rattle.rules.specs.Sets.{shares}
use Rattle.sets.proofs.meets.Goals as goal

pub returns : goal.returns
unfolding shares
returns c = refl
