-- Each number is read at its place, and there are no operations yet.
-- Assumes nothing.
use Rattle.rules.specs.Judge.{head_of}
use Rattle.table.specs.Tables.{padded}
use Rattle.heads.proofs.read_head.Goals as goal

pub returns : goal.returns
unfolding head_of padded
returns c =
    rw (
      c.be16-len.ensures.0,
      c.byte-boards.ensures.0,
      c.byte-cells.ensures.0,
      c.read_words-follow.ensures,
      c.byte-modes.ensures.0,
      c.be32-first.ensures,
      c.empty.ensures,
    )
