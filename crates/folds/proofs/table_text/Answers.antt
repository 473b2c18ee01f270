-- The text is that of the reply at the smallest right period.
-- Assumes nothing.
use native.Mathlib.Omega.{arith}
use Rattle.folds.proofs.table_text.Goals as goal

pub reply_text-requires : goal.reply_text-requires
reply_text-requires c =
    let found = c.smallest-q.ensures in
    let good = c.requires in
    let some = good.accepted.len_low in
    (good, omega (arith, found.low, some), omega (arith, found.high, some))

pub returns : goal.returns
returns c = let found = c.smallest-q in (found.result, found.ensures, c.reply_text.ensures)
