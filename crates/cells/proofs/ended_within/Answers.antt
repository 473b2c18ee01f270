-- `ended_within` goes over the members of ops from the lowest up: the modes of those that it has passed, and those of what is left, are the modes
-- of all.
-- Assumes nothing.
use mathlib.Core.Path.{ap, sym, ◌∙◌}
use native.Mathlib.Omega.{arith}
use lib.Bits.{or_zero_l, or_zero_r}
use Rattle.theory.proofs.Sets.{in_small}
use Rattle.sets.specs.declared.Members as code
use Rattle.sets.specs.Members.{rest_less}
use Rattle.cells.specs.Cells.{ended_in}
use Rattle.cells.specs.WriteLaws.{ended_none, ended_on}
use Rattle.cells.proofs.ended_within.Goals as goal

pub loop-k-init : goal.loop-k-init
loop-k-init c =
    let a = c.args in
    let e = c.into_iter-k-iterator.ensures.into_iter_gives in
    (rw e (omega arith), or_zero_l _ ∙ ap (λ (w : code.Members). ended_in a.cols.now w.0 a.after a.by) e)

pub modes_within-all-requires : goal.modes_within-all-requires
modes_within-all-requires c = (in_small _ 32 _ c.loop-k.invariant.0 c.in-Some.ensures.steps.0.member, c.requires)

pub loop-k-preserved : goal.loop-k-preserved
loop-k-preserved c =
    let a = c.args in
    let i = c.loop-k in
    let (lowest, left) = c.in-Some.ensures.steps in
    let small = in_small _ 32 _ i.invariant.0 lowest.member in (
      omega (arith, left, rest_less i.k-iterator.0 c.in-Some.k lowest.member),
      ended_on a.cols.now a.after a.by i.k-iterator.0 c.in-Some.k lowest.member small i.all _ _ c.modes_within-all.ensures left ∙ i.invariant.1,
    )

pub returns : goal.returns
returns c = sym (or_zero_r _) ∙ rw (c.in-None.ensures.steps.0, ended_none) at c.loop-k.invariant.1
