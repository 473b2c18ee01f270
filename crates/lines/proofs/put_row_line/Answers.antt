-- The line of a row is one of three words with numbers.
-- Assumes nothing.
use mathlib.Core.Path.{ap}
use native.Mathlib.Omega.{arith}
use lib.ListN.{length, length-append}
use Rattle.theory.proofs.Text.{row_line_lem, row_short}
use Rattle.rows.specs.Rows.{row_of}
use Rattle.lines.proofs.put_row_line.Goals as goal

pub put_line-requires : goal.put_line-requires
put_line-requires c =
    let r = row_of c.args.r in
    let short = row_short c.args.i r c.requires.1 c.requires.2 c.requires.3 in
    simp length-append (omega (arith, short, simp length-append at (ap length (row_line_lem c.args.i r)), c.requires.0))

pub returns : goal.returns
returns c = rw (row_line_lem c.args.i (row_of c.args.r)) c.put_line.ensures
