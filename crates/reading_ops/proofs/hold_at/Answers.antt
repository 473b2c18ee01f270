-- The number behind the duration, where there is one.
-- Assumes nothing.
use Rattle.std.proofs.Common.{sym}
use Rattle.reading_ops.proofs.hold_at.Goals as goal

pub returns-then-held : goal.returns-then-held
returns-then-held c = (sym c.if-held.true, rw c.if-held.true c.be16.ensures.0)
