-- 1 shifted by m bits is the set of m alone.
-- Assumes nothing.
use mathlib.Core.Path.{ap}
use lib.Bits.{bit_or}
use Rattle.sets.specs.Laws.{one_shl}
use Rattle.sets.proofs.with.Goals as goal

pub returns : goal.returns
returns c = ap (bit_or c.args.s) (one_shl 32 c.args.m c.requires)
