-- The users that were visited are offered.
-- Assumes nothing.
use Rattle.std.proofs.Common.{◌≡◌, ◌+◌, ◌-◌, ◌*◌, ◌<◌, ◌≤◌, length, refl, arith, length-set}
use Rattle.std.proofs.lemmas.Fn.{says_at}
use Rattle.theory.proofs.Sets.{in_small}
use Rattle.sets.specs.Members.{rest_within}
use Rattle.columns.specs.Columns.{dates}
use Rattle.counting.specs.Counting.{ended_of}
use Rattle.counting.specs.CountingLaws.{ended_mono}
use Rattle.offers.specs.OfferLaws.{offering_none, offering_more, offering_all}
use Rattle.offers.proofs.offer_users.Goals as goal

pub loop-u-init : goal.loop-u-init
loop-u-init g c =
    rw c.into_iter-u-iterator.ensures.into_iter_gives
    (record { inside = λ j h. h; long = refl; offered = λ date same. offering_none _ _ _ _ _ _ })

pub bounds-cols-j : goal.bounds-cols-j
bounds-cols-j g c = in_small _ 32 _ (omega arith) (c.loop-u.invariant.inside _ c.in-Some.ensures.steps.0.member)

pub overflow_sub-ahead : goal.overflow_sub-ahead
overflow_sub-ahead g c =
    let small : c.in-Some.u < 32
    = in_small _ 32 _ (omega arith) (c.loop-u.invariant.inside _ c.in-Some.ensures.steps.0.member) in
    let early : c.since.result ≤ 1000 = c.requires.early _ _ small (says_at g.F.Fn c.since.ensures refl) in
    omega (arith, c.ended-all.ensures.0, c.ended.ensures.0, ended_mono c.args.cols.now c.args.writers c.since.result 1000 early)

pub end-requires : goal.end-requires
end-requires g c =
    (in_small _ 32 _ (omega arith) (c.loop-u.invariant.inside _ c.in-Some.ensures.steps.0.member), c.requires.sized.0)

pub loop-u-preserved : goal.loop-u-preserved
loop-u-preserved g c =
    let (lowest, left) = c.in-Some.ensures.steps in
    let i = c.loop-u in
    let a = c.args in
    let u = c.in-Some.u in
    let all : c.ended-all.result ≡ ended_of a.cols.now a.writers 1000 = c.ended-all.ensures.0 in
    let by : c.ended.result ≡ ended_of a.cols.now a.writers c.since.result = c.ended.ensures.0 in
    let k = 32 * (c.ended-all.result - c.ended.result) + a.m in
    let low : k < length i.ring = omega (arith, c.ended-all.ensures.1, c.requires.sized.2, i.invariant.long) in
    record {
      inside = rw left (rest_within a.users i.u-iterator.0 u i.invariant.inside lowest.member);
      long = rw c.offer.ensures (simp length-set i.invariant.long);
      offered =
          λ date same.
          let at : c.since.result ≡ date (dates a.cols.now u) = same _ _ (says_at g.F.Fn c.since.ensures refl) in
          rw (left, c.offer.ensures)
          (offering_more u _ _ lowest.member low (rw (all, by, at) refl) c.end.ensures (i.invariant.offered date same));
    }

pub returns : goal.returns
returns g c = λ date same. offering_all (rw c.in-None.ensures.steps.0 at c.loop-u.invariant.offered date same)
