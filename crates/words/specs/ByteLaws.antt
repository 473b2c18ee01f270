-- Words of bytes compared, and digits looked at, one byte after the other.
-- Assumes nothing.
use Rattle.std.specs.Prelude.{ℕ, suc, ◌+◌, ◌<◌, ◌≤◌, ◌≡◌, refl, Bool, true, false, cond, ◌&&◌, List, [], ◌∷◌, leb, eqb, length, get_or, drop, take}
use Rattle.std.proofs.Common.{sym, ap, ◌∙◌, arith, add-one, eq-eqb, ne_eqb, take_all}
use Rattle.std.proofs.Math.Seq.{drop-cons, drop-length}
use Rattle.rules.specs.Words.{Word, Question, is_digit, digits_only, is_number, same_bytes, boards_bytes, values_bytes, margin_bytes, unfold_bytes, gap_bytes, boards_name, values_name, margin_name, unfold_name, gap_name, word_of, asks}
use Rattle.theory.proofs.Says.{says_leb, says_and}
use Rattle.words.specs.Words.{unnamed_of}

-- nothing stands behind the last byte
end_none : (w : List ℕ) (i : ℕ) → i ≡ length w → drop i w ≡ []
end_none w i e = ap (λ (k : ℕ). drop k w) e ∙ drop-length w

-- ---- two words of bytes

pub same_long : (w name : List ℕ) → (length w ≡ length name → ⊥) → false ≡ same_bytes w name
unfolding same_bytes
same_long [] [] h = absurd (h refl)
same_long [] (y ∷ ys) h = refl
same_long (x ∷ xs) [] h = refl
same_long (x ∷ xs) (y ∷ ys) h = more (eqb x y) (same_long xs ys (λ e. h (ap suc e)))
  where
    more : (b : Bool) {c : Bool} → false ≡ c → false ≡ (b && c)
    more true e = e
    more false e = refl

module _ (w name : List ℕ) where
  pub same_end : (i : ℕ) → i ≡ length w → i ≡ length name → same_bytes (drop i w) (drop i name) ≡ true
  unfolding same_bytes
  same_end i e f = rw (end_none w i e, end_none name i f)

  module _ (i : ℕ) (h : i < length w) (k : i < length name) where
    same_at : same_bytes (drop i w) (drop i name) ≡ (eqb (get_or w i 0) (get_or name i 0) && same_bytes (drop (i + 1) w) (drop (i + 1) name))
    unfolding same_bytes
    same_at = rw (add-one, drop-cons w i 0 h, drop-cons name i 0 k)

    pub same_stops : (get_or w i 0 ≡ get_or name i 0 → ⊥) → same_bytes (drop i w) (drop i name) ≡ false
    same_stops e = same_at ∙ simp (ne_eqb _ _ e)

    pub same_turn : get_or w i 0 ≡ get_or name i 0 → same_bytes (drop i w) (drop i name) ≡ same_bytes (drop (i + 1) w) (drop (i + 1) name)
    same_turn e = same_at ∙ simp (eq-eqb _ _ e)

-- ---- a number

pub digit_bounds : (d : ℕ) → is_digit d ≡ true → (48 ≤ d) × (d ≤ 57)
digit_bounds d e = (says_and (leb 48 d) (leb d 57) (says_leb 48 d) (says_leb d 57)).0 e

pub number_none : (w : List ℕ) → length w ≡ 0 → false ≡ is_number w
unfolding is_number
number_none [] h = refl
number_none (d ∷ ds) h = absurd (omega arith)

pub number_some : (w : List ℕ) → (length w ≡ 0 → ⊥) → is_number w ≡ digits_only w
unfolding is_number
number_some [] h = absurd (h refl)
number_some (d ∷ ds) h = refl

module _ (w : List ℕ) (i : ℕ) where
  pub digits_end : i ≡ length w → digits_only (drop i w) ≡ true
  unfolding digits_only
  digits_end e = rw (end_none w i e)

  module _ (h : i < length w) where
    digits_at : digits_only (drop i w) ≡ (is_digit (get_or w i 0) && digits_only (drop (i + 1) w))
    unfolding digits_only
    digits_at = rw (add-one, drop-cons w i 0 h)

    pub digits_stop : is_digit (get_or w i 0) ≡ false → digits_only (drop i w) ≡ false
    digits_stop e = digits_at ∙ simp e

    pub digits_turn : is_digit (get_or w i 0) ≡ true → digits_only (drop i w) ≡ digits_only (drop (i + 1) w)
    digits_turn e = digits_at ∙ simp e

-- ---- a word by the tests of its bytes

pub word_row : (w : List ℕ) → word_of w
    ≡ cond (same_bytes w boards_bytes) boards_name
    (cond (same_bytes w values_bytes) values_name
    (cond (same_bytes w margin_bytes) margin_name
    (cond (same_bytes w unfold_bytes) unfold_name
    (cond (same_bytes w gap_bytes) gap_name (unnamed_of w)))))
unfolding word_of
word_row w = refl

-- ---- words that begin with five, of which there are so many: where there are not more, the first of the five are all
pub asks_first : (five : List Word) (count k : ℕ) {q : Question} → count ≡ k → k ≤ 5 → q ≡ asks (take k five) → (ws : List Word) → length ws ≡ count → take 5 ws ≡ take count five → q ≡ asks ws
asks_first five count k e h a ws l f =
    let all : ws ≡ take k five = sym (take_all 5 ws (omega arith)) ∙ f ∙ ap (λ (m : ℕ). take m five) e in
    a ∙ ap asks (sym all)
