-- The first digits are read: the number goes on from v with the rest.
-- Assumes nothing.
use mathlib.Core.Path.{refl, ◌∙◌}
use native.Mathlib.Omega.{arith}
use Rattle.rules.specs.Words.{value_of}
use Rattle.words.specs.WordLaws.{digits_both, value_end, value_turn}
use Rattle.words.proofs.value_of.Goals as goal

pub loop-d-init : goal.loop-d-init
unfolding value_of
loop-d-init c = (omega arith, c.requires, refl)

pub with_digit-v-requires : goal.with_digit-v-requires
with_digit-v-requires c = (digits_both _ c.loop-d.d-index c.loop-d-test.true c.loop-d.invariant.1).0

pub loop-d-preserved : goal.loop-d-preserved
loop-d-preserved c =
    let l = c.loop-d in
    (omega arith, (digits_both _ l.d-index c.loop-d-test.true l.invariant.1).1, l.invariant.2 ∙ value_turn _ l.d-index c.loop-d-test.true l.v _ c.with_digit-v.ensures)

pub returns : goal.returns
returns c =
    let l = c.loop-d in
    omega (arith, l.invariant.2, value_end c.args.w.now l.d-index l.v (omega arith))
