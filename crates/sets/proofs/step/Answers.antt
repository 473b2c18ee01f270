-- `step` goes over the members of s from the lowest up: what follows those that it has passed, and what follows those that are left, is the
-- whole turn.
-- Assumes nothing.
use Rattle.std.proofs.Common.{ap, sym, ◌∙◌}
use lib.Bits.{or_zero_l, or_zero_r}
use Rattle.theory.specs.Tests.{step}
use Rattle.sets.specs.Members.{walk_on, step_none}
use Rattle.sets.specs.declared.Members as code
use Rattle.sets.proofs.step.Goals as goal

pub loop-m-init : goal.loop-m-init
loop-m-init c = or_zero_l _ ∙ ap (λ (w : code.Members). step c.args.follow.now w.0) c.into_iter-m-iterator.ensures.into_iter_gives

pub loop-m-preserved : goal.loop-m-preserved
loop-m-preserved c =
    let i = c.loop-m in
    let (lowest, left) = c.in-Some.ensures.steps in
    walk_on i.m-iterator.0 c.in-Some.m lowest.member c.args.follow.now i.all _ _ c.word-all.ensures left ∙ i.invariant

pub returns : goal.returns
returns c =
    let none = c.in-None.ensures.steps.0 in
    sym (or_zero_r _) ∙ rw (none, step_none) at c.loop-m.invariant
