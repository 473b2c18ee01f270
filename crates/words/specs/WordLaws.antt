-- One byte of a word after the other: the tests and the number go on behind it.
-- Assumes nothing.
use Rattle.std.specs.Prelude.{ℕ, ◌+◌, ◌-◌, ◌*◌, ◌<◌, ◌≡◌, refl, Bool, true, false, cond, not, ◌&&◌, ◌==◌, List, [], ◌∷◌, eqb, length, get_or, drop}
use Rattle.std.proofs.Common.{sym, ap, ◌∙◌, arith, add-one, ne_eqb}
use Rattle.std.proofs.Math.Bool.{and-eq-true_iff}
use Rattle.std.proofs.lemmas.Bool.{false≢true}
use Rattle.std.proofs.Math.Seq.{drop-cons, drop-length}
use Rattle.std.specs.Char.{is_ascii_digit}
use Rattle.std.specs.List.{list_all}
use Rattle.std.specs.Str.{bytes_eq}
use Rattle.rules.specs.Words as rules
use Rattle.rules.specs.Words.{is_digit, digits_only, is_number, value_from, same_bytes, boards_bytes, values_bytes, margin_bytes, unfold_bytes, gap_bytes, boards_name, values_name, margin_name, unfold_name, gap_name, word_of}
use Rattle.words.specs.Words.{capped, capped_word, read_as, unnamed_of}

-- nothing stands behind the last byte
end_none : (w : List ℕ) (i : ℕ) → i ≡ length w → drop i w ≡ []
end_none w i e = ap (λ (k : ℕ). drop k w) e ∙ drop-length w

-- ---- two words of bytes

-- the rules' equality of bytes is the code's
same_equal : (w name : List ℕ) → same_bytes w name ≡ bytes_eq w name
unfolding same_bytes
same_equal [] [] = refl
same_equal [] (y ∷ ys) = refl
same_equal (x ∷ xs) [] = refl
same_equal (x ∷ xs) (y ∷ ys) = ap (λ (b : Bool). eqb x y && b) (same_equal xs ys)

-- ---- a number

digits_all : (w : List ℕ) → digits_only w ≡ list_all is_ascii_digit w
unfolding digits_only
digits_all [] = refl
digits_all (d ∷ ds) = ap (λ (b : Bool). is_digit d && b) (digits_all ds)

-- a number is not empty, and each byte is a digit
pub number_all : (w : List ℕ) → is_number w ≡ (not (length w == 0) && list_all is_ascii_digit w)
unfolding is_number
number_all [] = refl
number_all (d ∷ ds) = simp (ne_eqb (length (d ∷ ds)) 0 (λ e. omega arith)) (digits_all (d ∷ ds))

pub number_digits : (w : List ℕ) → is_number w ≡ true → digits_only w ≡ true
unfolding is_number
number_digits [] e = absurd (false≢true e)
number_digits (d ∷ ds) e = e

-- numbers for which the same one stands go on so
capped_from : (ds : List ℕ) (v u : ℕ) → capped v ≡ capped u → capped (value_from v ds) ≡ capped (value_from u ds)
unfolding value_from
capped_from [] v u e = e
capped_from (d ∷ ds) v u e = capped_from ds (v * 10 + (d - 48)) (u * 10 + (d - 48)) (omega arith)

module _ (w : List ℕ) (i : ℕ) where
  pub value_end : (v : ℕ) → i ≡ length w → value_from v (drop i w) ≡ v
  unfolding value_from
  value_end v e = rw (end_none w i e)

  module _ (h : i < length w) where
    digits_at : digits_only (drop i w) ≡ (is_digit (get_or w i 0) && digits_only (drop (i + 1) w))
    unfolding digits_only
    digits_at = rw (add-one, drop-cons w i 0 h)

    pub digits_both : digits_only (drop i w) ≡ true → (is_digit (get_or w i 0) ≡ true) × (digits_only (drop (i + 1) w) ≡ true)
    digits_both e = (and-eq-true_iff _ _).0 (sym digits_at ∙ e)

    value_at : (v : ℕ) → value_from v (drop i w) ≡ value_from (v * 10 + (get_or w i 0 - 48)) (drop (i + 1) w)
    unfolding value_from
    value_at v = rw (add-one, drop-cons w i 0 h)

    pub value_turn : (v r : ℕ) → r ≡ capped (v * 10 + (get_or w i 0 - 48)) → capped (value_from v (drop i w)) ≡ capped (value_from r (drop (i + 1) w))
    value_turn v r e = ap capped (value_at v) ∙ capped_from (drop (i + 1) w) (v * 10 + (get_or w i 0 - 48)) r (omega arith)

-- ---- a word by the tests of its bytes

named : (b : Bool) (x y : rules.Word) → capped_word (cond b x y) ≡ cond b (capped_word x) (capped_word y)
named true x y = refl
named false x y = refl

-- a name's bytes are the name; other words are not named
pub read_row : (w : List ℕ) → read_as w
    ≡ cond (bytes_eq w boards_bytes) boards_name
    (cond (bytes_eq w values_bytes) values_name
    (cond (bytes_eq w margin_bytes) margin_name
    (cond (bytes_eq w unfold_bytes) unfold_name
    (cond (bytes_eq w gap_bytes) gap_name (capped_word (unnamed_of w))))))
unfolding word_of capped_word
read_row w = simp (same_equal, named)
