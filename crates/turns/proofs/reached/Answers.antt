-- The set grows by what follows, a mode at least in each turn of the loop, and there are 32. Where it has no more of them than before nothing was
-- new, and it is all that a run can reach.
-- Assumes nothing.
use Prim.Native.Nat.{ℕ}
use mathlib.Core.Path.{◌≡◌, sym, subst}
use native.Mathlib.Omega.{arith}
use lib.Bits.{bit_or, or_lt}
use lib.Count.{ones-le}
use borrow.Author.Rules.{rules}
use Rattle.sets.specs.Members.{ones_or}
use Rattle.turns.specs.TurnLaws.{Growing, growing_first, growing_more, growing_end}
use Rattle.turns.proofs.reached.Goals as goal

pub loop-all-init : goal.loop-all-init
loop-all-init c = (omega arith, growing_first _ _)

pub loop-all-smaller : goal.loop-all-smaller
loop-all-smaller c = let all = c.loop-all.all in
    let more = c.step.result in
    omega (arith, (ones_or 32 all more (omega arith) (search rules)).0, ones-le 32 (bit_or all more) (or_lt 32 all more (omega arith) (search rules)))

pub loop-all-preserved : goal.loop-all-preserved
loop-all-preserved c = let i = c.loop-all in
    (or_lt 32 i.all c.step.result (omega arith) (search rules), rw c.step.ensures (growing_more _ _ _ i.invariant.1))

pub returns : goal.returns
returns c = let i = c.loop-all in
    let more = c.step.result in
    let grown = ones_or 32 i.all more (omega arith) (search rules) in
    let e : bit_or i.all more ≡ i.all = grown.1 (omega (arith, grown.0)) in
    let a = c.args in
    let F = a.follow.now in
    let same = rw c.step.ensures at e in
    λ T ok turns f. growing_end T ok F turns i.all (subst (λ (x : ℕ). Growing x F i.all) (sym f) i.invariant.1) same
