-- The readers are offered, and then the writers.
-- Assumes nothing.
use Rattle.std.proofs.Common.{arith, rules}
use Rattle.counting.specs.Counting.{InMode}
use Rattle.offers.specs.Offers.{Offered}
use Rattle.offers.specs.OfferLaws.{starts, ends, offered_mode}
use Rattle.offers.proofs.offer_mode.Goals as goal

pub returns : goal.returns
returns c =
    let a = c.args in
    let w = c.in_mode-w in
    let r = c.in_mode-r in
    let mid = c.offer_users.new.ring in
    let first : Offered a.cols.now w.result r.result (starts a.cols.now) a.m a.ring.now mid
    = c.offer_users.ensures (λ o. o.start) (λ d x h. search rules)
    in
    let second : Offered a.cols.now w.result w.result (ends a.cols.now) a.m mid c.offer_users-2.new.ring
    = c.offer_users-2.ensures (λ o. o.end) (λ d x h. search rules)
    in
    let reads : InMode a.cols.now a.readers a.m r.result = r.ensures in
    offered_mode c.requires.0 c.requires.1 (omega arith) (omega arith) w.ensures reads first second
