-- What is marked at one distance takes the sweep one distance on.
-- Assumes nothing.
use mathlib.Core.Path.{◌∙◌}
use native.Mathlib.Omega.{arith}
use Rattle.boards.specs.SweptLaws.{swept_more}
use Rattle.boards.proofs.sweep_distance.Goals as goal

pub mark_distance-requires : goal.mark_distance-requires
mark_distance-requires c =
    let p = c.requires in
    (p.0.marks, p.0.sets, p.1, p.2, omega (arith, p.0.high, p.0.short))

pub first_unmarked-requires : goal.first_unmarked-requires
first_unmarked-requires c = let p = c.requires in (p.0.short, p.0.high)

pub returns : goal.returns
returns c =
    let p = c.requires in
    let (sets, kept, adds) = c.mark_distance.ensures in
    let found = c.first_unmarked.ensures in (
      record {
        marks = adds.long ∙ p.0.marks;
        sets = sets;
        low = omega (arith, p.0.low, found.low);
        high = found.high;
        short = p.0.short;
      },
      λ F b by s. swept_more F _ _ _ b s by kept adds found,
    )
