-- The four bytes.
-- Assumes nothing.
use native.Mathlib.Omega.{arith}
use Rattle.puts.specs.PutLaws.{stored_over}
use Rattle.puts.proofs.put32.Goals as goal

pub returns : goal.returns
returns c = stored_over c.args.out.now c.args.at _ (rw c.to_be_bytes.ensures at c.copy_from_slice.ensures.after) (omega arith) c.requires
