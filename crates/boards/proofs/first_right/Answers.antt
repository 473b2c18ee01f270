-- The sweep begins with nothing marked; the row of one turn is the list of the followers.
-- Assumes nothing.
use mathlib.Core.Path.{refl}
use native.Mathlib.Omega.{arith}
use Rattle.turns.specs.TurnLaws.{turns_first}
use Rattle.boards.specs.SweptLaws.{swept_first}
use Rattle.boards.proofs.first_right.Goals as goal

pub later_sets-later-requires : goal.later_sets-later-requires
later_sets-later-requires c = let p = c.requires in (p.1, omega arith)

pub sweep_distance-q-requires : goal.sweep_distance-q-requires
sweep_distance-q-requires c =
    let p = c.requires in
    let l = c.later_sets-later.ensures in
    (record { marks = refl; sets = l.0; low = p.4; high = p.5; short = p.3 }, p.1, omega arith)

pub sweep_rest-requires : goal.sweep_rest-requires
sweep_rest-requires c =
    let p = c.requires in
    (c.sweep_distance-q.ensures.0, p.1, p.2, p.0)

pub returns : goal.returns
returns c =
    let s = c in
    let l = s in
    let a = l.args in
    let F = a.follow.now in
    let first = swept_first F a.cols.now a.reached a.len a.bound _ l.requires.5 l.later_sets-later.ensures.1 in
    c.sweep_rest.ensures a.bound (s.sweep_distance-q.ensures.1 F a.bound (turns_first F) first)
