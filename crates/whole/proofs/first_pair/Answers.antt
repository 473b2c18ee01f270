-- The loops pass only pairs that are not hit, so a pair at which they stop is the first that is.
-- Assumes nothing.
use Rattle.std.proofs.Common.{◌≡◌, ◌∙◌, ℕ, refl, length, arith, rules, Option}
use Rattle.std.proofs.Math.Path.{subst⁻¹}
use Rattle.table.specs.Tables.{table_of}
use Rattle.whole.specs.Whole.{FirstPair}
use Rattle.whole.specs.PairLaws.{hit_by, rows_none, row_none, row_more, rows_more, pairs_clear, pairs_hit}
use Rattle.whole.proofs.first_pair.Goals as goal
use Rattle.whole.proofs.first_pair.Goals.{else-pairs-test, then-pairs-test+then-loop-j-test+then-hit}

pub pairs-init : goal.pairs-init
pairs-init g c = (refl, λ h _. rows_none h c.args.t)

pub loop-j-init : goal.loop-j-init
loop-j-init g c = (omega arith, c.pairs.invariant.0, c.pairs.invariant.1, λ h _. row_none h c.args.t c.pairs.i)

pub loop-j-preserved : goal.loop-j-preserved
loop-j-preserved g c =
    let v = c.loop-j.invariant in (
      omega arith,
      v.1,
      v.2,
      λ h tests. row_more h c.args.t c.pairs.i c.loop-j.j (v.3 h tests) (hit_by h c.args.t _ _ (tests _ _ (omega arith) (omega arith) _ c.hit.ensures) c.if-hit.false),
    )

pub pairs-preserved : goal.pairs-preserved
pairs-preserved g c =
    let v = c.loop-j.invariant in
    (v.1, λ h tests. rows_more h c.args.t c.pairs.i c.loop-j.j (omega arith) (v.2 h tests) (v.3 h tests))

pub returns : goal.returns
returns g c =
    λ h tests number.
    let full : length c.args.t.ops ≡ 32 = search rules in
    let first : Option (ℕ × ℕ) → Type 0 = λ r. FirstPair r h number (table_of c.args.t) in
    elim c.pairs-test.branch [
      | else-pairs-test w ↦
          subst⁻¹ first (w.found-is ∙ c.pairs.invariant.0)
          (pairs_clear h c.args.t number (omega arith) c.pairs.i (omega arith) (c.pairs.invariant.1 h tests))
      | then-pairs-test+then-loop-j-test+then-hit w ↦
          subst⁻¹ first w.found-is
          (pairs_hit h c.args.t number (omega arith) c.pairs.i w.loop-j.j (omega arith) (omega arith)
          (w.loop-j.invariant.2 h tests)
          (w.loop-j.invariant.3 h tests)
          (hit_by h c.args.t _ _ (tests _ _ (omega arith) (omega arith) _ w.hit.ensures) w.if-hit.true))
    ]
