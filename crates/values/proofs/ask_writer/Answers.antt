-- Where a cycle of the bound takes until the operation's end, for the reader that starts first, nothing is asked for; else it is asked for at every
-- distance, from the reached modes in which the operation is the last to write the cell.
-- Assumes nothing.
use mathlib.Core.Path.{◌≡◌}
use native.Mathlib.Omega.{arith}
use lib.Bits.{bit_and}
use lib.ListN.{get_or}
use Rattle.rules.specs.Table.{end_of}
use Rattle.columns.specs.Columns.{op_by}
use Rattle.cells.specs.Cells.{fresh_of}
use Rattle.raises.specs.Raises.{Raised}
use Rattle.raises.specs.RaiseLaws.{raised_as}
use Rattle.values.specs.Bounds.{TurnsFine, WriterFine}
use Rattle.values.specs.CarryLaws.{carried_none, carried_far}
use Rattle.values.specs.BoundLaws.{turns_same}
use Rattle.values.proofs.ask_writer.Goals as goal

pub returns-then-end-early : goal.returns-then-end-early
unfolding WriterFine
returns-then-end-early c =
    carried_far _ _ _ _ _ _ _ _ _ _ _ _ (carried_none _ _ _ _ _ _ _ _) c.args.early c.requires.1 (omega (arith, c.end-end.ensures))

pub returns : goal.returns
unfolding WriterFine
returns c =
    let a = c.args in
    let cols = a.cols.now in
    let end : c.end-end.result ≡ end_of (op_by cols a.i) = c.end-end.ensures in
    let x : Raised a.bound (TurnsFine a.follow.now cols a.readers (λ j. get_or a.fresh.now j 0) a.written c.end-end.result 0 (bit_and a.reached c.last_in-last.result)) c.ask_turns.result
    = c.ask_turns.ensures
    in
    raised_as (turns_same a.follow.now cols a.readers _ (fresh_of cols a.writers) c.requires.2.each _ _ _ _)
    (rw (c.requires.3, end, c.last_in-last.ensures) at x)
