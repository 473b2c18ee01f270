-- The word is stored, and the digits behind it.
-- Assumes nothing.
use Rattle.lines.specs.LineLaws.{puts_then}
use Rattle.lines.proofs.put_part.Goals as goal

pub returns : goal.returns
returns c = puts_then _ _ _ _ c.put_bytes-end.ensures c.put_decimal.ensures
