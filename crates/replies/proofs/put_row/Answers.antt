-- The header is stored, the folded start behind it, and the start index behind that.
-- Assumes nothing.
use Rattle.std.proofs.Common.{refl}
use Rattle.puts.specs.PutLaws.{stored_then}
use Rattle.replies.proofs.put_row.Goals as goal

pub returns : goal.returns
returns c = stored_then _ _ _ _ (stored_then _ _ _ _ c.put_header.ensures refl c.put16.ensures) refl c.put16-2.ensures
