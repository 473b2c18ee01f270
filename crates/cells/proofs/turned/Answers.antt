-- The first k operations are in the sets of their cells.
-- Assumes nothing.
use Rattle.std.proofs.Common.{◌≡◌, refl, ◌∙◌}
use Rattle.std.proofs.lemmas.Fn.{says_at}
use Rattle.columns.specs.Columns.{dates}
use Rattle.cells.specs.UserLaws.{turning_none, turning_more}
use Rattle.cells.proofs.turned.Goals as goal

pub loop-k-init : goal.loop-k-init
loop-k-init g c = (refl, λ sets same. turning_none _)

pub loop-k-preserved : goal.loop-k-preserved
loop-k-preserved g c = (
  c.add_user.ensures.long ∙ c.loop-k.invariant.0,
  λ sets same.
      let set : c.of.result ≡ sets (dates c.args.cols.now c.loop-k.k) = same _ _ (says_at g.F.Fn c.of.ensures refl) in
      turning_more (c.loop-k.invariant.1 sets same) (rw set at c.add_user.ensures),
)
