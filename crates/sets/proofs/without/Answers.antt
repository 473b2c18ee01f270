-- `without` takes the common members out of s by the very operations of its definition.
-- Assumes nothing.
use mathlib.Core.Path.{refl}
use Rattle.theory.specs.Tests.{without}
use Rattle.sets.proofs.without.Goals as goal

pub returns : goal.returns
unfolding without
returns c = refl
