-- `is_all` compares one more than s with 1 shifted by n, which is 2 ^ n since 64 bits hold it.
-- Assumes nothing.
use native.Mathlib.Omega.{arith}
use Rattle.sets.specs.Laws.{one_shl}
use Rattle.sets.proofs.is_all.Goals as goal

pub returns : goal.returns
returns c = rw (one_shl 64 c.args.n (omega arith))
