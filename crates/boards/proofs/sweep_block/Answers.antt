-- The first k distances of the block are swept; where it ends early, the others ask for nothing.
-- Assumes nothing.
use Prim.Native.Nat.{◌+◌}
use mathlib.Core.Path.{◌≡◌}
use native.Mathlib.Omega.{arith}
use Rattle.boards.specs.SweptLaws.{swept_at, swept_rest, none_far, none_left_lem}
use Rattle.boards.proofs.sweep_block.Goals as goal

pub returns-then-len-n : goal.returns-then-len-n
returns-then-len-n c = (
  c.loop-k.invariant.0,
  λ F b turns z.
      let y = c.loop-k.invariant.1 F b turns z in
      swept_rest F _ _ _ b y _ (omega arith) (none_far F _ _ _ b y c.requires.2 (omega arith)),
)

pub returns-then-none_left : goal.returns-then-none_left
returns-then-none_left c = (
  c.loop-k.invariant.0,
  λ F b turns z.
      let y = c.loop-k.invariant.1 F b turns z in
      swept_rest F _ _ _ b y _ (omega arith) (none_left_lem F _ _ _ b y (c.none_left.ensures.0 c.if-none_left.true)),
)

pub loop-k-preserved : goal.loop-k-preserved
loop-k-preserved c =
    let i = c.loop-k in
    let d = c.args.done in
    let (s, more) = c.sweep_distance-first.ensures in
    let e : d + i.k + 1 ≡ d + (i.k + 1) = omega arith in
    (s, λ F b turns z. swept_at e (more F b (turns i.k (omega arith)) (i.invariant.1 F b turns z)))

pub returns : goal.returns
returns c =
    let d = c.args.done in
    let e : d + c.loop-k.k ≡ d + 16 = omega arith in
    (c.loop-k.invariant.0, λ F b turns z. swept_at e (c.loop-k.invariant.1 F b turns z))
