-- Only those that start before the operation lets go, one cycle of the bound later, are asked; from the reached modes in which it runs, and nothing
-- hides a board.
-- Assumes nothing.
use mathlib.Core.Path.{◌≡◌}
use lib.Bits.{bit_and}
use lib.ListN.{get_or}
use Rattle.rules.specs.Table.{held_to}
use Rattle.columns.specs.Columns.{op_by}
use Rattle.raises.specs.Raises.{Raised}
use Rattle.values.specs.Bounds.{TurnsFine}
use Rattle.gaps.specs.HolderLaws.{raised_holder}
use Rattle.gaps.proofs.ask_holder.Goals as goal

pub returns : goal.returns
returns c =
    let a = c.args in
    let cols = a.cols.now in
    let held : c.held-held.result ≡ held_to (op_by cols a.i) = c.held-held.ensures in
    let modes : c.modes.result ≡ (op_by cols a.i).modes = c.modes.ensures in
    let x : Raised a.bound (TurnsFine a.follow.now cols c.later_of-later.result (λ j. get_or a.modes.now j 0) 0 c.held-held.result 0 (bit_and a.reached c.modes.result)) c.ask_turns.result
    = c.ask_turns.ensures
    in
    raised_holder a.follow.now cols a.reached a.i a.bound c.later_of-later.result c.later_of-later.ensures a.modes.now c.requires.1
    (rw (held, modes) at x)
