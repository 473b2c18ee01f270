-- The sets of operations that use each cell: a walk over the cells of one operation, and a loop over the operations.
-- Assumes nothing.
use Rattle.std.specs.Prelude.{ℕ, ◌+◌, ◌^◌, ◌<◌, ◌≡◌, refl, ◌↔◌, ◌⊎◌, List, length, get_or, set, replicate}
use Rattle.std.proofs.Math.Path.{subst⁻¹}
use Rattle.std.proofs.Common.{inl, inr, arith, length-set, get_or-set_same, get_or-set_other}
use Rattle.std.proofs.Math.Decide.{ℕ_discrete}
use Rattle.std.specs.Int.Bits.{bit_or}
use Rattle.std.proofs.lemmas.List.{get_or-replicate}
use Rattle.rules.specs.Sets.{In, Within}
use Rattle.theory.specs.Tests.{without}
use Rattle.theory.proofs.Order.{Cmp, cmp}
use Rattle.theory.proofs.Sets.{in_none}
use Rattle.sets.specs.Members.{Past, past_none, past_all, rest_within, past_more, in_with}
use Rattle.cells.specs.Cells.{Added, Turned}

-- ---- the cells of one operation

-- k is added to the sets of the cells that were visited
pub record Adding (users : List ℕ) (k cells left : ℕ) (out : List ℕ) : Type 0 where
  pub inside : Within left cells
  pub long : length out ≡ length users
  pub each : (c j : ℕ) → c < 32 → In j (get_or out c 0) ↔ (In j (get_or users c 0) ⊎ (Past cells left c × (j ≡ k)))

pub adding_none : (users : List ℕ) (k cells : ℕ) → Adding users k cells cells users
adding_none users k cells =
    record { inside = λ c h. h; long = refl; each = λ c j l. (λ h. inl h, go c j) }
  where
    go : (c j : ℕ) → In j (get_or users c 0) ⊎ (Past cells cells c × (j ≡ k)) → In j (get_or users c 0)
    go c j (inl h) = h
    go c j (inr h) = absurd (past_none cells c h.0)

module _ {users out : List ℕ} {k cells left : ℕ} (m : ℕ) (here : In m left) (low : m < length out) (small : m < 32) (a : Adding users k cells left out) where
  abbrev after : List ℕ
  after = set out m (bit_or (get_or out m 0) (2 ^ k))

  abbrev Before : ℕ → ℕ → Type 0
  Before c j = In j (get_or users c 0) ⊎ (Past cells left c × (j ≡ k))

  abbrev Now : ℕ → ℕ → Type 0
  Now c j = In j (get_or users c 0) ⊎ (Past cells (without left (2 ^ m)) c × (j ≡ k))

  past : (c : ℕ) → Past cells (without left (2 ^ m)) c ↔ (Past cells left c ⊎ (c ≡ m))
  past = past_more cells left m a.inside here

  keep : (c j : ℕ) → Before c j → Now c j
  keep c j (inl h) = inl h
  keep c j (inr h) = inr ((past c).1 (inl h.0), h.1)

  -- the set of m has k more, and no other set has
  here_fwd : (j : ℕ) → In j (get_or out m 0) ⊎ (j ≡ k) → Now m j
  here_fwd j (inl h) = keep m j ((a.each m j small).0 h)
  here_fwd j (inr e) = inr ((past m).1 (inr refl), e)

  here_bwd : (j : ℕ) → Now m j → In j (get_or out m 0) ⊎ (j ≡ k)
  here_bwd j (inl h) = inl ((a.each m j small).1 (inl h))
  here_bwd j (inr h) = inr h.1

  other_bwd : (c j : ℕ) → c < 32 → (c ≡ m → ⊥) → Now c j → In j (get_or out c 0)
  other_bwd c j l n (inl h) = (a.each c j l).1 (inl h)
  other_bwd c j l n (inr h) = go ((past c).0 h.0)
    where
      go : Past cells left c ⊎ (c ≡ m) → In j (get_or out c 0)
      go (inl p) = (a.each c j l).1 (inr (p, h.1))
      go (inr e) = absurd (n e)

  now_each : (c j : ℕ) → c < 32 → Dec (c ≡ m) → In j (get_or after c 0) ↔ Now c j
  now_each c j l (yes e) =
      subst⁻¹ (λ (d : ℕ). In j (get_or after d 0) ↔ Now d j) e
      (rw (get_or-set_same out m (bit_or (get_or out m 0) (2 ^ k)) 0 low) (
        λ h. here_fwd j ((in_with (get_or out m 0) k j).0 h),
        λ h. (in_with (get_or out m 0) k j).1 (here_bwd j h),
      ))
  now_each c j l (no n) =
      rw (get_or-set_other out m c (bit_or (get_or out m 0) (2 ^ k)) 0 n) (λ h. keep c j ((a.each c j l).0 h), other_bwd c j l n)

  pub adding_more : Adding users k cells (without left (2 ^ m)) after
  adding_more =
      record {
        inside = rest_within cells left m a.inside here;
        long = simp length-set a.long;
        each = λ c j l. now_each c j l (ℕ_discrete c m);
      }

pub adding_all : {users out : List ℕ} {k cells : ℕ} → Adding users k cells 0 out → Added users k cells out
adding_all {users} {out} {k} {cells} a = record { long = a.long; each = λ c j l. (λ h. fwd c j ((a.each c j l).0 h), λ h. (a.each c j l).1 (bwd c j h)) }
  where
    fwd : (c j : ℕ) → In j (get_or users c 0) ⊎ (Past cells 0 c × (j ≡ k)) → In j (get_or users c 0) ⊎ (In c cells × (j ≡ k))
    fwd c j (inl h) = inl h
    fwd c j (inr h) = inr (h.0.0, h.1)

    bwd : (c j : ℕ) → In j (get_or users c 0) ⊎ (In c cells × (j ≡ k)) → In j (get_or users c 0) ⊎ (Past cells 0 c × (j ≡ k))
    bwd c j (inl h) = inl h
    bwd c j (inr h) = inr (past_all cells c h.0, h.1)

-- ---- the operations

-- the first k operations are in the sets of their cells
pub record Turning (sets : ℕ → ℕ) (k : ℕ) (users : List ℕ) : Type 0 where
  pub long : length users ≡ 32
  pub each : (c j : ℕ) → c < 32 → In j (get_or users c 0) ↔ ((j < k) × In c (sets j))

pub turning_none : (sets : ℕ → ℕ) → Turning sets 0 (replicate 32 0)
turning_none sets = record { long = refl; each = λ c j l. (λ h. absurd (in_none j (rw (get_or-replicate {A = ℕ} 32 c 0 0 l) at h)), λ h. absurd (omega (arith, h.0))) }

pub turning_more : {sets : ℕ → ℕ} {users out : List ℕ} {k : ℕ} → Turning sets k users → Added users k (sets k) out → Turning sets (k + 1) out
turning_more {sets} {users} {out} {k} t a =
    record { long = omega (arith, t.long, a.long); each = λ c j l. (λ h. fwd c j l ((a.each c j l).0 h), λ h. (a.each c j l).1 (bwd c j l h (cmp j k))) }
  where
    fwd : (c j : ℕ) → c < 32 → In j (get_or users c 0) ⊎ (In c (sets k) × (j ≡ k)) → (j < k + 1) × In c (sets j)
    fwd c j l (inl h) = let (m, x) = (t.each c j l).0 h in (omega arith, x)
    fwd c j l (inr (x, e)) = (omega arith, subst⁻¹ (λ (i : ℕ). In c (sets i)) e x)

    bwd : (c j : ℕ) → c < 32 → (j < k + 1) × In c (sets j) → Cmp j k → In j (get_or users c 0) ⊎ (In c (sets k) × (j ≡ k))
    bwd c j l h (Cmp.less m) = inl ((t.each c j l).1 (m, h.1))
    bwd c j l h (Cmp.same e) = inr (rw e at h.1, e)
    bwd c j l h (Cmp.more m) = absurd (omega (arith, h.0))

pub turning_all : {sets : ℕ → ℕ} {users : List ℕ} → Turning sets 32 users → Turned sets users
turning_all t = record { each = t.each }
