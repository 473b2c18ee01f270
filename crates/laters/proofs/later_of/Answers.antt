-- Those of the first j operations that may meet i are in the set.
-- Assumes nothing.
use mathlib.Core.Path.{◌≡◌, ◌∙◌}
use native.Mathlib.Omega.{arith}
use Rattle.theory.proofs.Says.{clash_bool}
use Rattle.laters.specs.LaterLaws.{later_none, later_idle, later_with, later_without}
use Rattle.laters.proofs.later_of.Goals as goal
use Rattle.laters.proofs.later_of.Goals.{then-may_meet, else-may_meet}

pub returns-then-boards-eq0 : goal.returns-then-boards-eq0
returns-then-boards-eq0 c =
    let none : 0 ≡ c.boards.result = omega arith in
    later_idle _ _ _ 32 (none ∙ c.boards.ensures)

pub loop-j-init : goal.loop-j-init
loop-j-init c = later_none _ _ _

pub loop-j-preserved : goal.loop-j-preserved
loop-j-preserved c =
    let m = c.may_meet.ensures in
    let l = c.loop-j.invariant in
    elim c.if-may_meet.branch [
      | then-may_meet w ↦ rw (w.all-is ∙ w.with-all.ensures) (later_with _ _ _ l (m.0 w.if-may_meet.true))
      | else-may_meet w ↦ rw w.all-is (later_without _ _ _ l (λ h. clash_bool (m.1 h) w.if-may_meet.false))
    ]
