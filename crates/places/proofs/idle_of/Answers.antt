-- Those of the first m modes that count nothing are in the set.
-- Assumes nothing.
use mathlib.Core.Path.{◌∙◌}
use native.Mathlib.Omega.{arith}
use Rattle.places.specs.SearchLaws.{idle_none, idle_with, idle_without}
use Rattle.places.proofs.idle_of.Goals as goal
use Rattle.places.proofs.idle_of.Goals.{then-count-eq0, else-count-eq0}

pub loop-m-init : goal.loop-m-init
loop-m-init c = idle_none _

pub loop-m-preserved : goal.loop-m-preserved
loop-m-preserved c =
    let l = c.loop-m.invariant in
    elim c.if-count-eq0.branch [
      | then-count-eq0 w ↦ rw (w.idle-is ∙ w.with-idle.ensures) (idle_with _ l (omega arith))
      | else-count-eq0 w ↦ rw w.idle-is (idle_without _ l (λ h. omega arith))
    ]
