-- Which set is wrong first of all is which is first of those from word m on, until a wrong one or the end.
-- Assumes nothing.
use Rattle.std.proofs.Common.{◌<◌, ◌≤◌, length, sym, ◌∙◌, arith}
use Rattle.theory.proofs.Ranges.{set_wrong, set_fine, sets_end}
use Rattle.handed.specs.HeadLaws.{first_wrong_lem, first_fine}
use Rattle.handed.proofs.sets_wrong.Goals as goal

pub returns-then-not-is_set_of : goal.returns-then-not-is_set_of
returns-then-not-is_set_of c = (sym (first_wrong_lem _ _ _ (sym c.is_set_of.ensures ∙ c.if-not-is_set_of.true)), omega arith)

pub loop-m-init : goal.loop-m-init
loop-m-init c = first_fine _ _ _ (sym c.is_set_of.ensures ∙ c.if-not-is_set_of.false)

-- before the return behind the same test: a word that is not tested is refused here, where it fails
pub loop-m-preserved : goal.loop-m-preserved
loop-m-preserved c =
    let h : c.loop-m.m < length c.args.follow.now = omega arith in
    c.loop-m.invariant ∙ set_fine 7 c.args.modes c.args.follow.now c.loop-m.m h (sym c.is_set_of-in-loop-m.ensures ∙ c.if-not-is_set_of-2.false)

pub returns-then-not-is_set_of-2 : goal.returns-then-not-is_set_of-2
returns-then-not-is_set_of-2 c =
    let h : c.loop-m.m < length c.args.follow.now = omega arith in
    let wrong = set_wrong 7 c.args.modes c.args.follow.now c.loop-m.m h (sym c.is_set_of-in-loop-m.ensures ∙ c.if-not-is_set_of-2.true) in
    (sym (c.loop-m.invariant ∙ wrong), omega arith)

pub returns : goal.returns
returns c =
    let h : length c.args.follow.now ≤ c.loop-m.m = omega arith in
    sym (c.loop-m.invariant ∙ sets_end 7 c.args.modes c.args.follow.now c.loop-m.m h)
