-- The trailing zeros of a number that is not 0 are its lowest member.
-- Assumes nothing.
use native.Mathlib.Omega.{arith}
use Rattle.sets.specs.Members.{lowest_is}
use Rattle.sets.proofs.lowest.Goals as goal

pub returns : goal.returns
returns c = lowest_is 32 _ (omega arith) (omega arith)
