-- Each number stands behind the one before it, and together they are the sets.
-- Assumes nothing.
use mathlib.Core.Path.{refl}
use Rattle.puts.specs.PutLaws.{stored_then}
use Rattle.writing_ops.proofs.put_used.Goals as goal

pub returns : goal.returns
returns c =
    let e2 = stored_then _ _ _ _ c.put16.ensures refl c.put32.ensures in
    let e3 = stored_then _ _ _ _ e2 refl c.put32-2.ensures in
    stored_then _ _ _ _ e3 refl c.put32-3.ensures
