-- So far by the first m modes.
-- Assumes nothing.
use Prim.Native.Nat.{◌≤◌}
use mathlib.Core.Path.{◌≡◌}
use native.Mathlib.Omega.{arith}
use lib.ListN.{get_or}
use Rattle.places.specs.Search.{Stops}
use Rattle.places.specs.SearchLaws.{stops_high, farther_more}
use Rattle.places.proofs.reach.Goals as goal

pub loop-m-preserved : goal.loop-m-preserved
loop-m-preserved c =
    let a = c.args in
    let v = c.loop-m.invariant in
    let p : Stops a.starts.now c.loop-m.m (get_or a.counts.now c.loop-m.m 0) (get_or a.row.now c.loop-m.m 0) a.s c.loop-m.to c.reach_mode-to.result
    = c.reach_mode-to.ensures
    in
    let few : get_or a.counts.now c.loop-m.m 0 ≤ 32 = c.requires.0 _ (omega arith) in (
      omega (arith, p.low),
      stops_high p v.1 few,
      λ T d ok counts ranks.
          farther_more T ok d _ ranks (λ b. get_or a.row.now b 0) _ _ _ _ _ _ (omega arith) (counts _ (omega arith)) (omega arith) (v.2 T d ok counts ranks) p,
    )

pub returns : goal.returns
returns c =
    let e : c.loop-m.m ≡ 32 = omega arith in
    let all = c.loop-m.invariant.2 in
    (c.loop-m.invariant.0, c.loop-m.invariant.1, rw e at all)
