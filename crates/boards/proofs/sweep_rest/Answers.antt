-- The first `done` distances are swept, and `last` is the row of the last of them.
-- Assumes nothing.
use Prim.Native.Nat.{ℕ, ◌+◌, ◌-◌, ◌*◌, ◌<◌, ◌≤◌}
use mathlib.Core.Path.{◌≡◌, subst}
use mathlib.Core.List.{[]}
use native.Mathlib.Omega.{arith}
use lib.ListN.{get_or}
use Rattle.turns.specs.Turns.{TurnsBy}
use Rattle.turns.specs.TurnLaws.{turns_first, block_turns, length_block}
use Rattle.raises.specs.RaiseLaws.{cycles_fit}
use Rattle.boards.specs.SweptLaws.{swept_end, none_far, none_left_lem, distance_fits}
use Rattle.boards.proofs.sweep_rest.Goals as goal

pub loop-done-init : goal.loop-done-init
loop-done-init c = (omega arith, omega arith, c.requires.0, c.requires.3, turns_first _, λ b s. s)

pub overflow_add-done : goal.overflow_add-done
overflow_add-done c = omega arith

pub overflow_mul-done : goal.overflow_mul-done
overflow_mul-done c =
    let i = c.loop-done in
    let s = i.invariant.2 in
    let h : i.first ≤ 1000 = omega (arith, s.high, s.short) in
    omega (arith, cycles_fit _ _ i.invariant.1 h)

pub block-rows-requires : goal.block-rows-requires
block-rows-requires c = c.loop-done.invariant.3

pub sweep_block-first-requires : goal.sweep_block-first-requires
sweep_block-first-requires c =
    let f = c in
    let i = f.loop-done in
    let a = f in
    let s = i.invariant.2 in
    let near : (i.done + 1) * i.first < a.args.len = omega arith in
    (s, a.requires.1, a.requires.2, distance_fits _ _ s.low near s.short)

pub bounds-rows-15 : goal.bounds-rows-15
bounds-rows-15 c = omega arith

pub overflow_add-done-in-loop-done : goal.overflow_add-done-in-loop-done
overflow_add-done-in-loop-done c = omega arith

pub loop-done-smaller : goal.loop-done-smaller
loop-done-smaller c = omega arith

pub loop-done-preserved : goal.loop-done-preserved
loop-done-preserved c =
    let k = c in
    let f = k in
    let i = f.loop-done in
    let a = f in
    let F = a.args.follow.now in
    let s = i.invariant.2 in
    let near : (i.done + 1) * i.first < a.args.len = omega arith in
    let (sized, more) = c.sweep_block-first.ensures in
    let turns : (m : ℕ) → m < 16 → TurnsBy F (i.done + m) (get_or k.block-rows.result m [])
    = λ m h. rw k.block-rows.ensures (block_turns F i.last i.done i.invariant.0 (omega (arith, a.requires.3)) i.invariant.4 m h) in
    let e : i.done + 15 ≡ i.done + 16 - 1 = omega arith in (
      omega arith,
      omega (arith, distance_fits _ _ s.low near s.short),
      sized,
      rw k.block-rows.ensures (length_block F i.last 15 (omega arith)),
      subst (λ (n : ℕ). TurnsBy F n (get_or k.block-rows.result 15 [])) e (turns 15 (omega arith)),
      λ b z. more F b turns (i.invariant.5 b z),
    )

pub returns-then-len-done : goal.returns-then-len-done
returns-then-len-done c =
    let i = c.loop-done in
    let p = c.requires in
    λ b z. let y = i.invariant.5 b z in swept_end _ _ _ _ b y p.2 (none_far _ _ _ _ b y p.2 (omega arith))

pub returns-then-none_left : goal.returns-then-none_left
returns-then-none_left c =
    let i = c.loop-done in
    let p = c.requires in
    λ b z. let y = i.invariant.5 b z in swept_end _ _ _ _ b y p.2 (none_left_lem _ _ _ _ b y (c.none_left.ensures.0 c.if-none_left.true))
