-- Laws of sets that crates above this one cite, besides those of theory/proofs/Sets, Modes and Exists.
-- Assumes nothing.
use Rattle.std.specs.Prelude.{ℕ, zero, suc, ◌*◌, ◌/◌, ◌%◌, ◌^◌, ◌<◌, ◌≡◌, refl, Bool, true, false, cond, List, [], ◌∷◌, ◌++◌, replicate}
use Rattle.std.proofs.Common.{sym, ◌∙◌, one-mul, arith, lit<, shl_exact}
use Rattle.std.specs.Int.Bits.{bit_or}
use Rattle.rules.specs.Sets.{has}
use Rattle.theory.specs.Tests.{step}
use Rattle.theory.proofs.Sets.{bit, bit_or_lem, in_bit, same_members}

-- 1 shifted by m bits, in a type of w bits
pub one_shl : (w m : ℕ) → m < w → (1 * 2 ^ m) % 2 ^ w ≡ 2 ^ m
one_shl w m h = shl_exact 1 m w (lit< tt) (omega arith) ∙ one-mul (2 ^ m)

pub or_assoc : (a b c : ℕ) → bit_or a (bit_or b c) ≡ bit_or (bit_or a b) c
or_assoc a b c =
    same_members _ _
    (λ m. (λ h. (in_bit m _).1 (sym (same m) ∙ (in_bit m _).0 h), λ h. (in_bit m _).1 (same m ∙ (in_bit m _).0 h)))
  where
    same : (m : ℕ) → bit (bit_or a (bit_or b c)) m ≡ bit (bit_or (bit_or a b) c) m
    same m = omega (arith, bit_or_lem a (bit_or b c) m, bit_or_lem b c m, bit_or_lem (bit_or a b) c m, bit_or_lem a b m)

-- ---- one turn

none : (t : Bool) → ◌≡◌ {A = ℕ} (cond t 0 0) 0
none true = refl
none false = refl

-- modes that nothing follows, behind the others, change nothing: a table of 32 sets does for a list that is shorter
step_zeros : (n s : ℕ) → step (replicate n 0) s ≡ 0
unfolding step
step_zeros zero s = refl
step_zeros (suc n) s = rw (none (has s 0), step_zeros n (s / 2))

pub step_pad : (F : List ℕ) (n s : ℕ) → step (F ++ replicate n 0) s ≡ step F s
unfolding step
step_pad [] n s = step_zeros n s
step_pad (f ∷ fs) n s = rw (step_pad fs n (s / 2))
