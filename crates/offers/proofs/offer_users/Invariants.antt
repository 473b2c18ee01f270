-- The users that were visited are offered.
-- Assumes nothing.
use Rattle.std.proofs.Common.{◌≡◌, ℕ, length}
use Rattle.std.specs.Fn.{FnReturnsAt}
use Rattle.rules.specs.Sets.{Within}
use Rattle.columns.specs.declared.Dated.{Dated}
use Rattle.columns.specs.Columns.{dates}
use Rattle.offers.specs.OfferLaws.{Offering}
use Rattle.offers.proofs.offer_users.Given as goal

abbrev pub invariant-loop-u : goal.invariant-loop-u
invariant-loop-u g l = record {
  inside : Within l.u-iterator.0 l.users;
  long : length l.ring ≡ length l.initial.ring;
  offered : (date : Dated → ℕ) → ((d : Dated) (r : ℕ) → FnReturnsAt g.F.Fn l.since d r → r ≡ date d) → Offering l.cols l.writers l.users (λ j. date (dates l.cols j)) l.m l.u-iterator.0 l.initial.ring l.ring;
}
