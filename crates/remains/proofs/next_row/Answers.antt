-- What comes fresh, handed on until nothing is new, is the row.
-- Assumes nothing.
use Rattle.remains.specs.RemainLaws.{settled_row}
use Rattle.remains.proofs.next_row.Goals as goal

pub returns : goal.returns
returns c =
    let d = c.settle.ensures in
    (d.long, d.low, settled_row c.spread.ensures.2 d)
