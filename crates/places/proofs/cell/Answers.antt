-- What is known before row s: the numbers below it are differences, how far the rows reach, and what waits.
-- Assumes nothing.
use mathlib.Core.Path.{◌∙◌}
use native.Mathlib.Omega.{arith}
use Rattle.ring.specs.RingLaws.{carried_low}
use Rattle.places.specs.SearchLaws.{idle_is}
use Rattle.places.specs.CellLaws.{known_first, known_more, known_places, known_last}
use Rattle.places.proofs.cell.Goals as goal

pub loop-s-init : goal.loop-s-init
loop-s-init c =
    let e = c.fill-2.ensures in
    (omega arith, e.0, e.1, λ T d x. known_first T x.accepted _ d _ (e.2 T d x.accepted x.columns x.writers x.readers x.reach))

pub loop-s-preserved : goal.loop-s-preserved
loop-s-preserved c =
    let carry = c.carry.ensures in
    let reach = c.reach-far.ensures in
    let row = c.next_row-row in
    let starts = c.fill.ensures in
    let idle = c.idle_of-idle.ensures in
    let counts = c.counts-counts.ensures in
    let i = c.loop-s.invariant in (
      omega (arith, reach.1),
      carry.long ∙ i.1,
      carried_low i.2 row.ensures.1 carry,
      λ T d x.
          let ok = x.accepted in
          let count = counts.2 T d ok x.columns x.writers in
          let known = i.3 T d x in
          let made = row.ensures.2 T d c.loop-s.s ok x.follows (idle_is T d _ _ count idle) known.waits in
          let farther = reach.2 T d ok count (starts.1 T d ok x.columns x.writers) in
          known_more T ok _ d known row.result c.counts-counts.result _ _ _ (omega arith) count counts.1 made farther carry (omega arith),
    )

pub returns-then-far-s : goal.returns-then-far-s
returns-then-far-s c = λ T d x low values. known_places T x.accepted _ d (c.loop-s.invariant.3 T d x) values (omega arith)

pub returns : goal.returns
returns c = λ T d x low values. known_last T x.accepted _ d (c.loop-s.invariant.3 T d x) low values (omega arith)
