-- The loop passes only operations that are late enough, so one at which it stops is the lowest that is not.
-- Assumes nothing.
use Rattle.std.proofs.Common.{◌≡◌, length, sym, ◌∙◌, arith, rules}
use Rattle.early.specs.EarlyLaws.{late_none, late_more, early_clear, early_hit}
use Rattle.early.proofs.first_early.Goals as goal

pub loop-i-init : goal.loop-i-init
loop-i-init c = late_none _ _

pub loop-i-preserved : goal.loop-i-preserved
loop-i-preserved c = late_more _ _ _ c.loop-i.invariant (sym c.too_early.ensures ∙ c.if-too_early.false)

pub returns-then-too_early : goal.returns-then-too_early
returns-then-too_early c =
    let full : length c.args.t.ops ≡ 32 = search rules in
    let hit = sym c.too_early.ensures ∙ c.if-too_early.true in
    sym (early_hit c.args.t c.args.d (omega arith) c.requires.2 _ (omega arith) c.loop-i.invariant hit)

pub returns : goal.returns
returns c =
    let full : length c.args.t.ops ≡ 32 = search rules in
    sym (early_clear c.args.t c.args.d (omega arith) c.requires.2 _ (omega arith) c.loop-i.invariant)
