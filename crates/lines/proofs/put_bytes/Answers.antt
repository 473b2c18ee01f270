-- The bytes are copied to their place.
-- Assumes nothing.
use Rattle.std.proofs.Common.{refl, arith}
use Rattle.puts.specs.PutLaws.{stored_over}
use Rattle.lines.proofs.put_bytes.Goals as goal

pub returns : goal.returns
returns c = (stored_over c.args.out.now c.args.at _ c.copy_from_slice.ensures.after (omega arith) c.requires, refl)
