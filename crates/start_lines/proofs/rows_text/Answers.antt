-- The size of the reply tells how many rows it has; their lines are written into zeros.
-- Assumes nothing.
use Rattle.std.proofs.Common.{arith}
use Rattle.starts.specs.StartLaws.{heard_size}
use Rattle.start_lines.specs.StartLineLaws.{rows_told}
use Rattle.start_lines.proofs.rows_text.Goals as goal

pub returns : goal.returns
returns c = rows_told c.args.s.now c.requires c.put_lines-len.ensures (omega (arith, heard_size _ c.requires))
