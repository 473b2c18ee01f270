-- The members of sets that are numbers: what the bit operations do to them.
-- Assumes nothing.
use Prim.Native.Nat.{ℕ, zero, suc, ◌+◌, ◌*◌, ◌/◌, ◌%◌, ◌^◌, ◌<◌, ◌≤◌, min, max}
use mathlib.Core.Path.{◌≡◌, refl, sym, ap, subst, ◌∙◌}
use mathlib.Core.Logic.{◌↔◌, ◌⊎◌, inl, inr}
use native.Mathlib.Nat.{div-one, div-div-eq-div-mul, pow-suc, mul_comm, div-eq_of_lt, zero-div, zero-min, min-zero, suc-min-suc}
use native.Mathlib.Decide.{ℕ_discrete}
use native.Mathlib.Omega.{arith}
use borrow.Author.Tests.{eqb-true}
use lib.Dec.{eqb}
use lib.Pow.{pow_mono}
use lib.Bits.{bit_and, bit_or, bit_xor, differ, and_step, or_step, xor_step, and_shr, or_shr, xor_shr, and_le_l, and_le_r, xor_add_and}
use Rattle.rules.specs.Sets.{has, In, Share, Within, shares}
use Rattle.theory.specs.Tests.{without}
use Rattle.theory.proofs.Says.{Says, says_by, says_eqb, says_not}

-- bit m of s
abbrev pub bit : ℕ → ℕ → ℕ
bit s m = s / 2 ^ m % 2

pub in_bit : (m s : ℕ) → In m s ↔ bit s m ≡ 1
unfolding has
in_bit m s = says_eqb (bit s m) 1

bit_zero : (s : ℕ) → bit s 0 ≡ s % 2
bit_zero s = ap (λ (x : ℕ). x % 2) (div-one s)

bit_suc : (s m : ℕ) → bit s (suc m) ≡ bit (s / 2) m
bit_suc s m = ap (λ (x : ℕ). x % 2) (ap (λ (x : ℕ). s / x) (pow-suc 2 m ∙ mul_comm (2 ^ m) 2) ∙ sym (div-div-eq-div-mul s 2 (2 ^ m)))

differ_sum : (x y : ℕ) → differ x y + min x y * 2 ≡ x + y
differ_sum zero y = omega (arith, zero-min y)
differ_sum (suc x) zero = omega (arith, min-zero (suc x))
differ_sum (suc x) (suc y) = omega (arith, suc-min-suc x y, differ_sum x y)

low_and : (x y : ℕ) → bit_and x y % 2 ≡ min (x % 2) (y % 2)
low_and x y = omega (arith, and_step x y)

low_or : (x y : ℕ) → bit_or x y % 2 ≡ max (x % 2) (y % 2)
low_or x y = omega (arith, or_step x y)

low_xor : (x y : ℕ) → bit_xor x y % 2 + min (x % 2) (y % 2) * 2 ≡ x % 2 + y % 2
low_xor x y = omega (arith, xor_step x y, differ_sum (x % 2) (y % 2))

bit_and_lem : (a b m : ℕ) → bit (bit_and a b) m ≡ min (bit a m) (bit b m)
bit_and_lem a b m = ap (λ (x : ℕ). x % 2) (and_shr a b m) ∙ low_and (a / 2 ^ m) (b / 2 ^ m)

pub bit_or_lem : (a b m : ℕ) → bit (bit_or a b) m ≡ max (bit a m) (bit b m)
bit_or_lem a b m = ap (λ (x : ℕ). x % 2) (or_shr a b m) ∙ low_or (a / 2 ^ m) (b / 2 ^ m)

bit_xor_lem : (a b m : ℕ) → bit (bit_xor a b) m + min (bit a m) (bit b m) * 2 ≡ bit a m + bit b m
bit_xor_lem a b m =
    ap (λ (x : ℕ). x % 2 + min (bit a m) (bit b m) * 2) (xor_shr a b m) ∙ low_xor (a / 2 ^ m) (b / 2 ^ m)

-- ---- membership

pub in_none : (m : ℕ) → In m 0 → ⊥
in_none m h = omega (arith, (in_bit m 0).0 h, ap (λ (x : ℕ). x % 2) (zero-div (2 ^ m)))

pub in_zero : (s : ℕ) → In 0 s ↔ s % 2 ≡ 1
in_zero s = (λ h. sym (bit_zero s) ∙ (in_bit 0 s).0 h, λ e. (in_bit 0 s).1 (bit_zero s ∙ e))

pub in_suc : (s m : ℕ) → In (suc m) s ↔ In m (s / 2)
in_suc s m = (
  λ h. (in_bit m (s / 2)).1 (sym (bit_suc s m) ∙ (in_bit (suc m) s).0 h),
  λ h. (in_bit (suc m) s).1 (bit_suc s m ∙ (in_bit m (s / 2)).0 h),
)

pub in_and : (m a b : ℕ) → In m (bit_and a b) ↔ (In m a × In m b)
in_and m a b = (
  λ h. ((in_bit m a).1 (omega (arith, (in_bit m (bit_and a b)).0 h, bit_and_lem a b m)), (in_bit m b).1 (omega (arith, (in_bit m (bit_and a b)).0 h, bit_and_lem a b m))),
  λ h. (in_bit m (bit_and a b)).1 (omega (arith, (in_bit m a).0 h.0, (in_bit m b).0 h.1, bit_and_lem a b m)),
)

pub in_or : (m a b : ℕ) → In m (bit_or a b) ↔ (In m a ⊎ In m b)
in_or m a b = (λ h. fwd ((in_bit m (bit_or a b)).0 h) (ℕ_discrete (bit a m) 1), bwd)
  where
    fwd : bit (bit_or a b) m ≡ 1 → Dec (bit a m ≡ 1) → In m a ⊎ In m b
    fwd h (yes e) = inl ((in_bit m a).1 e)
    fwd h (no e) = inr ((in_bit m b).1 (omega (arith, bit_or_lem a b m)))

    bwd : In m a ⊎ In m b → In m (bit_or a b)
    bwd (inl h) = (in_bit m (bit_or a b)).1 (omega (arith, (in_bit m a).0 h, bit_or_lem a b m))
    bwd (inr h) = (in_bit m (bit_or a b)).1 (omega (arith, (in_bit m b).0 h, bit_or_lem a b m))

pub in_without : (m a b : ℕ) → In m (without a b) ↔ (In m a × (In m b → ⊥))
unfolding without
in_without m a b = (
  λ h. (
    (in_bit m a).1 (omega (arith, (in_bit m (without a b)).0 h, bit_and_lem a b m, bit_xor_lem a (bit_and a b) m)),
    λ e. omega (arith, (in_bit m (without a b)).0 h, (in_bit m b).0 e, bit_and_lem a b m, bit_xor_lem a (bit_and a b) m),
  ),
  λ h. (in_bit m (without a b)).1 (go h.0 h.1 (ℕ_discrete (bit b m) 1)),
)
  where
    go : In m a → (In m b → ⊥) → Dec (bit b m ≡ 1) → bit (without a b) m ≡ 1
    go h n (yes e) = absurd (n ((in_bit m b).1 e))
    go h n (no e) = omega (arith, (in_bit m a).0 h, bit_and_lem a b m, bit_xor_lem a (bit_and a b) m)

-- a number that is not 0 has a member
some_from : (f s : ℕ) → s ≤ f → 0 < s → (m : ℕ) × In m s
some_from zero s h p = absurd (omega arith)
some_from (suc f) s h p = go (ℕ_discrete (s % 2) 1) (λ q. some_from f (s / 2) (omega arith) q)
  where
    go : Dec (s % 2 ≡ 1) → (0 < s / 2 → (m : ℕ) × In m (s / 2)) → (m : ℕ) × In m s
    go (yes e) rec = (0, (in_zero s).1 e)
    go (no e) rec = let (m, x) = rec (omega arith) in (suc m, (in_suc s m).1 x)

pub some_in : (s : ℕ) → 0 < s → (m : ℕ) × In m s
some_in s = some_from s s (omega arith)

pub in_pos : (m s : ℕ) → In m s → 0 < s
in_pos m zero h = absurd (in_none m h)
in_pos m (suc s) h = omega arith

-- a set below 2 ^ n has no member from n on
pub in_small : (m n s : ℕ) → s < 2 ^ n → In m s → m < n
in_small m n s h x = go (native.Mathlib.Decide.dec_lt m n)
  where
    go : Dec (m < n) → m < n
    go (yes e) = e
    go (no e) =
        let le : 2 ^ n ≤ 2 ^ m = pow_mono (omega arith) in
        absurd (omega (arith, (in_bit m s).0 x, ap (λ (y : ℕ). y % 2) (div-eq_of_lt {n = s} {m = 2 ^ m} (omega arith))))

pub says_shares : (s t : ℕ) → Says (shares s t) (Share s t)
unfolding shares
says_shares s t =
    says_by (says_not (eqb (bit_and s t) 0) (says_eqb (bit_and s t) 0))
    (λ n. let (m, x) = some_in (bit_and s t) (omega arith) in (m, ((in_and m s t).0 x).0, ((in_and m s t).0 x).1))
    (λ x e. omega (arith, in_pos x.0 (bit_and s t) ((in_and x.0 s t).1 (x.1, x.2))))

-- nothing is in s and not in t: each member of s is one of t
pub says_within : (s t : ℕ) → Says (eqb (without s t) 0) (Within s t)
says_within s t = says_by (says_eqb (without s t) 0) fwd bwd
  where
    fwd : without s t ≡ 0 → Within s t
    fwd e m h = go (ℕ_discrete (bit t m) 1)
      where
        go : Dec (bit t m ≡ 1) → In m t
        go (yes x) = (in_bit m t).1 x
        go (no x) =
            absurd (in_none m (subst (λ (y : ℕ). In m y) e ((in_without m s t).1 (h, λ z. x ((in_bit m t).0 z)))))

    bwd : Within s t → without s t ≡ 0
    bwd w = go (ℕ_discrete (without s t) 0)
      where
        go : Dec (without s t ≡ 0) → without s t ≡ 0
        go (yes e) = e
        go (no e) =
            let (m, x) = some_in (without s t) (omega arith) in
            absurd (((in_without m s t).0 x).1 (w m ((in_without m s t).0 x).0))

-- ---- a set is known by its members

pub within_le : (s t : ℕ) → Within s t → s ≤ t
unfolding without
within_le s t w =
    omega
    (arith, eqb-true (without s t) 0 ((says_within s t).1 w), xor_add_and s (bit_and s t), and_le_l s (bit_and s t), and_le_r s (bit_and s t), and_le_r s t)

pub same_members : (s t : ℕ) → ((m : ℕ) → In m s ↔ In m t) → s ≡ t
same_members s t h = omega (arith, within_le s t (λ m. (h m).0), within_le t s (λ m. (h m).1))

-- the set with one member
pub in_single : (m k : ℕ) → In m (2 ^ k) ↔ m ≡ k
in_single zero zero = (λ h. refl, λ e. (in_zero 1).1 refl)
in_single zero (suc k) = (λ h. absurd (omega (arith, (in_zero (2 ^ suc k)).0 h, pow-suc 2 k)), λ e. absurd (omega arith))
in_single (suc m) zero = (λ h. absurd (in_none m ((in_suc 1 m).0 h)), λ e. absurd (omega arith))
in_single (suc m) (suc k) =
    let half : 2 ^ suc k / 2 ≡ 2 ^ k = omega (arith, pow-suc 2 k) in
    let (fwd, bwd) = in_single m k in (
      λ h. ap suc (fwd (rw half at ((in_suc (2 ^ suc k) m).0 h))),
      λ e. let d : m ≡ k = omega arith in (in_suc (2 ^ suc k) m).1 (rw half (bwd d)),
    )
