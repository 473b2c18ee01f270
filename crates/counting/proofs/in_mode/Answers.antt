-- The visited operations that run in the mode are in the set.
-- Assumes nothing.
use Prim.Native.Nat.{◌^◌}
use mathlib.Core.Path.{◌≡◌, sym, ◌∙◌}
use native.Mathlib.Omega.{arith}
use Rattle.rules.specs.Sets.{shares}
use Rattle.theory.proofs.Says.{clash_bool}
use Rattle.theory.proofs.Sets.{in_small}
use Rattle.sets.specs.Laws.{one_shl}
use Rattle.columns.specs.Columns.{op_by}
use Rattle.counting.specs.CountingLaws.{picked_none, picked_all, picked_with, picked_without, says_meets}
use Rattle.counting.proofs.in_mode.Goals as goal

pub loop-u-init : goal.loop-u-init
loop-u-init c = rw c.into_iter-u-iterator.ensures.into_iter_gives (picked_none _ _ _)

pub modes-requires : goal.modes-requires
modes-requires c = in_small _ 32 _ (omega arith) (c.loop-u.invariant.inside _ c.in-Some.ensures.steps.0.member)

pub with-all-requires : goal.with-all-requires
with-all-requires c = in_small _ 32 _ (omega arith) (c.loop-u.invariant.inside _ c.in-Some.ensures.steps.0.member)

pub loop-u-preserved-then-meets : goal.loop-u-preserved-then-meets
loop-u-preserved-then-meets c =
    let (lowest, left) = c.in-Some.ensures.steps in
    let modes = (op_by c.args.cols.now c.in-Some.u).modes in
    let test : c.meets.result ≡ shares modes (2 ^ c.args.m) = rw (← c.modes.ensures, ← one_shl 32 c.args.m c.requires) c.meets.ensures in
    let runs = (says_meets modes c.args.m).0 (sym test ∙ c.if-meets.true) in
    rw (left, c.with-all.ensures) (picked_with c.in-Some.u lowest.member c.loop-u.invariant runs)

pub loop-u-preserved : goal.loop-u-preserved
loop-u-preserved c =
    let (lowest, left) = c.in-Some.ensures.steps in
    let modes = (op_by c.args.cols.now c.in-Some.u).modes in
    let test : c.meets.result ≡ shares modes (2 ^ c.args.m) = rw (← c.modes.ensures, ← one_shl 32 c.args.m c.requires) c.meets.ensures in
    rw left
    (picked_without c.in-Some.u lowest.member c.loop-u.invariant
    (λ h. clash_bool ((says_meets modes c.args.m).1 h) (sym test ∙ c.if-meets.false)))

pub returns : goal.returns
returns c = picked_all (rw c.in-None.ensures.steps.0 at c.loop-u.invariant)
