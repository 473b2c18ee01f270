-- A margin's sign and its digits, how long its line and that of a gap are, and what is said of an answer.
-- Assumes nothing.
use Rattle.std.specs.Prelude.{ℕ, ◌+◌, ◌^◌, ◌<◌, ◌≤◌, ◌≡◌, refl, Bool, true, false, List, ◌∷◌, ◌++◌, T, ℤ, pos, negsuc, nat_abs, ◌-ℤ◌, length, Result, Ok, Err, MatchResult}
use Rattle.std.proofs.Common.{ap, ◌∙◌, true≢false, arith, ltb-true, length-append, to_z-of_z, SFits, to_z, of_z}
use Rattle.std.specs.Int.Signed.{lt_z, non_neg, nat_abs-le}
use Rattle.std.proofs.Math.Facts.{sfits_widen}
use Rattle.std.specs.Int.{w32, w64}
use Rattle.rules.specs.Text.{decimal, newline, margin_word, signed, margin_line, gap_word, gap_line, told, text_of}
use Rattle.theory.proofs.Text.{decimal_length}
use Rattle.fields.specs.declared.Refusal.{Refusal}
use Rattle.fields.specs.Verdicts.{refusal_of, answered}
use Rattle.lines.specs.Lines.{Puts}
use Rattle.lines.specs.LineLaws.{puts_then}
use Rattle.text.specs.declared.Text.{Text}
use Rattle.text.specs.Texts.{text_in}
use Rattle.text.specs.TextLaws.{told_accepted, told_refusal}

-- ---- the sign, by the test that the code makes

pub not_below : (m : ℤ) → lt_z m (pos 0) ≡ false → T (non_neg m)
not_below (pos n) e = tt
not_below (negsuc n) e = absurd (true≢false e)

-- what is below 0 is turned about
pub opposite : (m : ℤ) → lt_z m (pos 0) ≡ true → pos 0 -ℤ m ≡ pos (nat_abs m)
opposite (pos n) e = absurd (omega (arith, ltb-true n 0 e))
opposite (negsuc n) e = ap pos (omega arith)

pub signed_below : (m : ℤ) → lt_z m (pos 0) ≡ true → signed m ≡ 45 ∷ decimal (nat_abs m)
unfolding signed
signed_below (pos n) e = absurd (omega (arith, ltb-true n 0 e))
signed_below (negsuc n) e = refl

pub signed_above : (m : ℤ) → lt_z m (pos 0) ≡ false → signed m ≡ decimal (nat_abs m)
unfolding signed
signed_above (pos n) e = refl
signed_above (negsuc n) e = absurd (true≢false e)

-- ---- a margin of 32 bits
module _ (m : ℤ) (f : SFits w32 m) where
  -- it stays what it is when it is widened
  pub widened : to_z w64 (of_z w64 (to_z w32 (of_z w32 m))) ≡ m
  widened = ap (λ (z : ℤ). to_z w64 (of_z w64 z)) (to_z-of_z {w = w32} f) ∙ to_z-of_z {w = w64} (sfits_widen tt f)

  pub unsigned_small : nat_abs m < 2 ^ 63
  unsigned_small = omega (arith, nat_abs-le m f.sfits)

  -- 10 digits are enough, and the sign
  pub unsigned_short : length (decimal (nat_abs m)) ≤ 10
  unsigned_short = decimal_length 9 (nat_abs m) (omega (arith, nat_abs-le m f.sfits))

  pub signed_short : length (signed m) ≤ 11
  signed_short = go (lt_z m (pos 0)) refl
    where
      go : (b : Bool) → lt_z m (pos 0) ≡ b → length (signed m) ≤ 11
      go true e = omega (arith, ap length (signed_below m e), unsigned_short)
      go false e = omega (arith, ap length (signed_above m e), unsigned_short)

-- ---- the line

margin_line_lem : (m : ℤ) → margin_line m ≡ margin_word ++ signed m ++ newline
unfolding margin_line
margin_line_lem m = refl

pub margin_length : (m : ℤ) → length (margin_line m) ≡ 8 + length (signed m)
margin_length m = omega (arith, simp length-append at (ap length (margin_line_lem m)))

pub margin_put : (m : ℤ) (out : List ℕ) {mid end : List ℕ} {k n : ℕ} → Puts out mid 0 k (margin_word ++ signed m) → Puts mid end k n newline
    → Puts out end 0 n (margin_line m)
margin_put m out a b = rw (margin_line_lem m) (puts_then out 0 (margin_word ++ signed m) newline a b)

-- ---- the line of a gap

gap_row : (g : ℕ) → gap_line g ≡ gap_word ++ decimal g ++ newline
unfolding gap_line
gap_row g = refl

-- 10 digits are enough
pub gap_short : (g : ℕ) → g < 2 ^ 32 → length (decimal g) ≤ 10
gap_short g h = decimal_length 9 g (omega arith)

pub gap_length : (g : ℕ) → length (gap_line g) ≡ 5 + length (decimal g)
gap_length g = omega (arith, simp length-append at (ap length (gap_row g)))

pub gap_put : (g : ℕ) (out : List ℕ) {mid end : List ℕ} {k n : ℕ} → Puts out mid 0 k (gap_word ++ decimal g) → Puts mid end k n newline
    → Puts out end 0 n (gap_line g)
gap_put g out a b = rw (gap_row g) (puts_then out 0 (gap_word ++ decimal g) newline a b)

-- ---- what is said of an answer, from what is said in each of its two cases
pub told_cases : {A : Type 0} (line : A → List ℕ) (x : Result A Refusal) {t : Text}
    → MatchResult x (λ v. t ≡ text_in (line v)) (λ r. t ≡ text_in (text_of (refusal_of r))) → t ≡ text_in (told line (answered x))
told_cases line (Ok v) e = e ∙ ap text_in (told_accepted line v refl)
told_cases line (Err r) e = e ∙ ap text_in (told_refusal line r refl)
