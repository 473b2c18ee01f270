-- The members of a set, one after the other: the lowest, by the trailing zeros, and what is left without it; and how many there are, by the ones.
-- Assumes nothing.
use Rattle.std.specs.Prelude.{ℕ, zero, suc, ◌+◌, ◌/◌, ◌%◌, ◌^◌, ◌<◌, ◌≤◌, max, ◌≡◌, refl, ◌↔◌, ◌⊎◌, List, get_or}
use Rattle.std.proofs.Common.{sym, subst, inl, inr, pow-suc, arith}
use Rattle.std.proofs.Math.Decide.{ℕ_discrete}
use Rattle.std.proofs.Math.Arith.{lt-one}
use Rattle.std.specs.Int.Bits.{bit_or, or_step}
use Rattle.std.specs.Int.Count.{count_trailing_zeros, ones, ones_step}
use Rattle.rules.specs.Sets.{In, Within}
use Rattle.theory.specs.Tests.{without, step}
use Rattle.theory.proofs.Sets.{in_none, in_zero, in_suc, in_or, in_without, within_le, same_members, in_single}
use Rattle.theory.proofs.Modes.{in_step}
use Rattle.sets.specs.Laws.{or_assoc}

-- ---- the lowest member

-- m is a member of s, and no member is lower
pub record IsLowest (s m : ℕ) : Type 0 where
  pub member : In m s
  pub first : (j : ℕ) → In j s → m ≤ j

-- the trailing zeros of a number of w bits that is not 0
pub lowest_is : (w s : ℕ) → 0 < s → s < 2 ^ w → IsLowest s (count_trailing_zeros w s)
unfolding count_trailing_zeros
lowest_is zero s p h = absurd (omega (arith, lt-one h))
lowest_is (suc w) s p h = go (ℕ_discrete (s % 2) 1) (λ q. lowest_is w (s / 2) q (omega (arith, pow-suc 2 w)))
  where
    go : Dec (s % 2 ≡ 1) → (0 < s / 2 → IsLowest (s / 2) (count_trailing_zeros w (s / 2))) → IsLowest s (count_trailing_zeros (suc w) s)
    go (yes e) half = rw e (record { member = (in_zero s).1 e; first = λ j x. omega arith })
    go (no n) half =
        let e : s % 2 ≡ 0 = omega arith in
        let l = half (omega arith) in
        rw e (record { member = (in_suc s _).1 l.member; first = first_after l })
      where
        first_after : IsLowest (s / 2) (count_trailing_zeros w (s / 2)) → (j : ℕ) → In j s → suc (count_trailing_zeros w (s / 2)) ≤ j
        first_after l zero x = absurd (n ((in_zero s).0 x))
        first_after l (suc j) x = omega (arith, l.first j ((in_suc s j).0 x))

-- ---- what is left without a member

module _ (s m : ℕ) (here : In m s) where
  -- the others stay
  pub in_rest : (j : ℕ) → In j s ↔ ((j ≡ m) ⊎ In j (without s (2 ^ m)))
  in_rest j = (λ x. fwd x (ℕ_discrete j m), bwd)
    where
      fwd : In j s → Dec (j ≡ m) → (j ≡ m) ⊎ In j (without s (2 ^ m))
      fwd x (yes e) = inl e
      fwd x (no n) = inr ((in_without j s (2 ^ m)).1 (x, λ z. n ((in_single j m).0 z)))

      bwd : (j ≡ m) ⊎ In j (without s (2 ^ m)) → In j s
      bwd (inl e) = subst (λ (k : ℕ). In k s) (sym e) here
      bwd (inr x) = ((in_without j s (2 ^ m)).0 x).0

  -- and the number falls, so that a walk over the members ends
  pub rest_less : without s (2 ^ m) < s
  rest_less = omega (arith, within_le (without s (2 ^ m)) s (λ j x. ((in_without j s (2 ^ m)).0 x).0), other)
    where
      other : without s (2 ^ m) ≡ s → ⊥
      other e = ((in_without m s (2 ^ m)).0 (subst (λ (x : ℕ). In m x) (sym e) here)).1 ((in_single m m).1 refl)

  -- one turn: what follows a member, and one turn of what is left without it
  step_member : (F : List ℕ) → step F s ≡ bit_or (get_or F m 0) (step F (without s (2 ^ m)))
  step_member F = same_members _ _ (λ b. (λ h. fwd b ((in_step F s b).0 h), λ h. bwd b ((in_or b _ _).0 h)))
    where
      fwd : (b : ℕ) → ((a : ℕ) × In a s × In b (get_or F a 0)) → In b (bit_or (get_or F m 0) (step F (without s (2 ^ m))))
      fwd b (a, x, y) = go ((in_rest a).0 x)
        where
          go : (a ≡ m) ⊎ In a (without s (2 ^ m)) → In b (bit_or (get_or F m 0) (step F (without s (2 ^ m))))
          go (inl e) = (in_or b (get_or F m 0) _).1 (inl (subst (λ (k : ℕ). In b (get_or F k 0)) e y))
          go (inr z) = (in_or b (get_or F m 0) _).1 (inr ((in_step F (without s (2 ^ m)) b).1 (a, z, y)))

      bwd : (b : ℕ) → In b (get_or F m 0) ⊎ In b (step F (without s (2 ^ m))) → In b (step F s)
      bwd b (inl y) = (in_step F s b).1 (m, here, y)
      bwd b (inr y) = let (a, x, z) = (in_step F _ b).0 y in (in_step F s b).1 (a, (in_rest a).1 (inr x), z)

  -- so a walk over the members, which adds what follows each, comes to the whole turn
  pub walk_on : (F : List ℕ) (all word rest : ℕ) → word ≡ get_or F m 0 → rest ≡ without s (2 ^ m)
      → bit_or (bit_or all word) (step F rest) ≡ bit_or all (step F s)
  walk_on F all word rest e f = rw (e, f, ← or_assoc, ← step_member F)

-- ---- a walk over the members of s, of which `left` are not yet visited

abbrev pub Past : ℕ → ℕ → ℕ → Type 0
Past s left j = In j s × (In j left → ⊥)

pub past_none : (s j : ℕ) → Past s s j → ⊥
past_none s j p = p.1 p.0

pub past_all : (s j : ℕ) → In j s → Past s 0 j
past_all s j h = (h, in_none j)

module _ (s left m : ℕ) (inside : Within left s) (here : In m left) where
  pub rest_within : Within (without left (2 ^ m)) s
  rest_within j x = inside j ((in_without j left (2 ^ m)).0 x).0

  -- with its next member visited
  pub past_more : (j : ℕ) → Past s (without left (2 ^ m)) j ↔ (Past s left j ⊎ (j ≡ m))
  past_more j = (λ p. fwd p (ℕ_discrete j m), bwd)
    where
      fwd : Past s (without left (2 ^ m)) j → Dec (j ≡ m) → Past s left j ⊎ (j ≡ m)
      fwd p (yes e) = inr e
      fwd p (no n) = inl (p.0, λ x. p.1 ((in_without j left (2 ^ m)).1 (x, λ z. n ((in_single j m).0 z))))

      bwd : Past s left j ⊎ (j ≡ m) → Past s (without left (2 ^ m)) j
      bwd (inl p) = (p.0, λ x. p.1 ((in_without j left (2 ^ m)).0 x).0)
      bwd (inr e) = (
        subst (λ (k : ℕ). In k s) (sym e) (inside m here),
        λ x. ((in_without j left (2 ^ m)).0 x).1 ((in_single j m).1 e),
      )

-- s with m
pub in_with : (s m j : ℕ) → In j (bit_or s (2 ^ m)) ↔ (In j s ⊎ (j ≡ m))
in_with s m j = (λ h. fwd ((in_or j s (2 ^ m)).0 h), λ h. (in_or j s (2 ^ m)).1 (bwd h))
  where
    fwd : In j s ⊎ In j (2 ^ m) → In j s ⊎ (j ≡ m)
    fwd (inl x) = inl x
    fwd (inr x) = inr ((in_single j m).0 x)

    bwd : In j s ⊎ (j ≡ m) → In j s ⊎ In j (2 ^ m)
    bwd (inl x) = inl x
    bwd (inr e) = inr ((in_single j m).1 e)

-- nothing follows where no member is left
pub step_none : (F : List ℕ) → step F 0 ≡ 0
step_none F = same_members _ _ (λ b. (λ h. let (a, x, y) = (in_step F 0 b).0 h in absurd (in_none a x), λ h. absurd (in_none b h)))

-- ---- how many members there are

-- a set of w bits to which something is added has no fewer, and as many only where nothing is new
pub ones_or : (w a b : ℕ) → a < 2 ^ w → b < 2 ^ w → (ones a ≤ ones (bit_or a b)) × (ones (bit_or a b) ≡ ones a → bit_or a b ≡ a)
ones_or zero a b h k = let e : a ≡ 0 = lt-one h in let f : b ≡ 0 = lt-one k in rw (e, f) (omega arith, λ _. refl)
ones_or (suc w) a b h k =
    with_low (ones_or w (a / 2) (b / 2) (omega (arith, pow-suc 2 w)) (omega (arith, pow-suc 2 w)))
  where
    half : bit_or a b / 2 ≡ bit_or (a / 2) (b / 2)
    half = omega (arith, or_step a b)

    low : bit_or a b % 2 ≡ max (a % 2) (b % 2)
    low = omega (arith, or_step a b)

    before : ones a ≡ a % 2 + ones (a / 2)
    before = ones_step a

    after : ones (bit_or a b) ≡ max (a % 2) (b % 2) + ones (bit_or (a / 2) (b / 2))
    after = rw (half, low) at (ones_step (bit_or a b))

    with_low : (ones (a / 2) ≤ ones (bit_or (a / 2) (b / 2))) × (ones (bit_or (a / 2) (b / 2)) ≡ ones (a / 2) → bit_or (a / 2) (b / 2) ≡ a / 2)
        → (ones a ≤ ones (bit_or a b)) × (ones (bit_or a b) ≡ ones a → bit_or a b ≡ a)
    with_low r = (omega (arith, r.0, before, after), λ e. omega (arith, r.1 (omega (arith, r.0, before, after)), half, low, before, after))
