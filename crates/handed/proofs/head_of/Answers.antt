-- Each number fits, and nothing stands behind the words and among the operations but zero.
-- Assumes nothing.
use Rattle.table.specs.Tables.{padded}
use Rattle.handed.proofs.head_of.Goals as goal

pub returns : goal.returns
unfolding padded
returns c = rw (c.words_of.ensures, c.empty.ensures)
