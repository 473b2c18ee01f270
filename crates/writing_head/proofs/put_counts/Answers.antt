-- Each number stands behind the one before it, and together they are the two fields.
-- Assumes nothing.
use mathlib.Core.Path.{refl}
use Rattle.puts.specs.PutLaws.{stored_then}
use Rattle.writing_head.proofs.put_counts.Goals as goal

pub returns : goal.returns
returns c =
    let e2 = stored_then _ _ _ _ c.put_header.ensures refl c.put16.ensures in
    let e3 = stored_then _ _ _ _ e2 refl c.put_header-2.ensures in
    let e4 = stored_then _ _ _ _ e3 refl c.put8.ensures in
    let e5 = stored_then _ _ _ _ e4 refl c.put8-2.ensures in
    stored_then _ _ _ _ e5 refl c.put8-3.ensures
