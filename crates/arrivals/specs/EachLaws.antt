-- A bound raised by one number more, and by one member of a set more.
-- Assumes nothing.
use Rattle.std.specs.Prelude.{ℕ, ◌+◌, ◌^◌, ◌≡◌, refl, ◌↔◌, ◌⊎◌}
use Rattle.std.proofs.Common.{sym, subst, inl, inr, arith}
use Rattle.rules.specs.Sets.{In, Within}
use Rattle.theory.specs.Tests.{without}
use Rattle.theory.proofs.Order.{below_more}
use Rattle.sets.specs.Members.{Past, past_none, past_all, rest_within, past_more}
use Rattle.arrivals.specs.Arrivals.{Each, Every}
use Rattle.raises.specs.Raises.{Raised}
use Rattle.raises.specs.RaiseLaws.{raised_not, raised_as}

-- one number more
pub each_none : {P : ℕ → ℕ → Type 0} (b : ℕ) → Raised b (Each P 0) b
each_none b = raised_not b (λ q h j l. absurd (omega arith))

pub each_more : {P : ℕ → ℕ → Type 0} {a b r k : ℕ} → Raised a (Each P k) b → Raised b (P k) r → Raised a (Each P (k + 1)) r
each_more {P} {a} {b} {r} {k} x y =
    record {
      exact = λ q. (
        λ h. let (l, u) = (y.exact q).0 h in let (m, w) = (x.exact q).0 l in (m, below_more (λ j. P j q) k w u),
        λ (l, w). (y.exact q).1 ((x.exact q).1 (l, λ j g. w j (omega arith)), w k (omega arith)),
      );
    }

-- ---- a walk over the members of s: b is a raised by those that were visited

pub record Raising (P : ℕ → ℕ → Type 0) (a s left b : ℕ) : Type 0 where
  pub inside : Within left s
  pub raised : Raised a (λ q. (j : ℕ) → Past s left j → P j q) b

pub every_none : {P : ℕ → ℕ → Type 0} (s b : ℕ) → Raising P b s s b
every_none s b = record { inside = λ j h. h; raised = raised_not b (λ q h j p. absurd (past_none s j p)) }

pub every_more : {P : ℕ → ℕ → Type 0} {a s left b r : ℕ} (m : ℕ) → In m left → Raising P a s left b → Raised b (P m) r
    → Raising P a s (without left (2 ^ m)) r
every_more {P} {a} {s} {left} {b} {r} m here x y =
    record {
      inside = rest_within s left m x.inside here;
      raised = record {
        exact = λ q. (
          λ h. let (l, u) = (y.exact q).0 h in let (k, w) = (x.raised.exact q).0 l in (k, λ j p. go q u w j ((past j).0 p)),
          λ (l, w). (y.exact q).1 ((x.raised.exact q).1 (l, λ j p. w j ((past j).1 (inl p))), w m ((past m).1 (inr refl))),
        );
      };
    }
  where
    past : (j : ℕ) → Past s (without left (2 ^ m)) j ↔ (Past s left j ⊎ (j ≡ m))
    past = past_more s left m x.inside here

    go : (q : ℕ) → P m q → ((j : ℕ) → Past s left j → P j q) → (j : ℕ) → Past s left j ⊎ (j ≡ m) → P j q
    go q u w j (inl p) = w j p
    go q u w j (inr e) = subst (λ (i : ℕ). P i q) (sym e) u

pub every_all : {P : ℕ → ℕ → Type 0} {a s r : ℕ} → Raising P a s 0 r → Raised a (Every P s) r
every_all {P} {a} {s} {r} x = raised_as (λ q. (λ w j h. w j (past_all s j h), λ w j p. w j p.0)) x.raised
