-- Words that are none of those that a match names: what they ask; and so many words one by one.
-- Assumes nothing.
use Rattle.std.proofs.Common.{ℕ, ◌<◌, ◌≤◌, ◌≡◌, refl, List, [], ◌∷◌, map, length, get_or, arith}
use Rattle.rules.specs.Words.{number, boards_asked, values_asked, nothing_asked, with_number, asks}
use Rattle.rules.specs.Words as rules
use Rattle.words.specs.declared.Word.{Word}
use Rattle.words.specs.declared.Word.TheVariants.{Boards, Values, Margin, Unfold, Gap, Number, Other}
use Rattle.words.specs.Words.{word_is}
use Rattle.words.specs.AskLaws.{one_not, four_not}

-- ---- what is asked then

-- where a number should stand
pub no_number_lem : (w : Word) → ((n : ℕ) → w ≡ Number n → ⊥) → (f : ℕ → List rules.Word → rules.Question) (ws : List rules.Word) → with_number f (word_is w ∷ ws) ≡ nothing_asked
unfolding with_number
no_number_lem Boards k f ws = refl
no_number_lem Values k f ws = refl
no_number_lem Margin k f ws = refl
no_number_lem Unfold k f ws = refl
no_number_lem Gap k f ws = refl
no_number_lem (Number n) k f ws = absurd (k n refl)
no_number_lem Other k f ws = refl

pub one_other : (w : Word) → (w ≡ Unfold → ⊥) → (w ≡ Gap → ⊥) → asks (word_is w ∷ []) ≡ nothing_asked
unfolding asks
one_other Boards k l = refl
one_other Values k l = refl
one_other Margin k l = refl
one_other Unfold k l = absurd (k refl)
one_other Gap k l = absurd (l refl)
one_other (Number n) k l = refl
one_other Other k l = refl

pub two_other : (w : Word) → (w ≡ Boards → ⊥) → (w ≡ Values → ⊥) → (v : rules.Word) → asks (word_is w ∷ v ∷ []) ≡ nothing_asked
unfolding asks
two_other Boards k l v = absurd (k refl)
two_other Values k l v = absurd (l refl)
two_other Margin k l v = four_not (v ∷ []) (λ e. omega arith)
two_other Unfold k l v = refl
two_other Gap k l v = refl
two_other (Number n) k l v = refl
two_other Other k l v = refl

pub two_no_number : (w v : Word) → ((n : ℕ) → v ≡ Number n → ⊥) → asks (word_is w ∷ word_is v ∷ []) ≡ nothing_asked
unfolding asks
two_no_number Boards v k = no_number_lem v k _ []
two_no_number Values v k = no_number_lem v k _ []
two_no_number Margin v k = no_number_lem v k _ []
two_no_number Unfold v k = refl
two_no_number Gap v k = refl
two_no_number (Number n) v k = refl
two_no_number Other v k = refl

pub five_other : (w : Word) → (w ≡ Margin → ⊥) → (a b c d : rules.Word) → asks (word_is w ∷ a ∷ b ∷ c ∷ d ∷ []) ≡ nothing_asked
unfolding asks
five_other Boards k a b c d = one_not boards_asked (a ∷ b ∷ c ∷ d ∷ []) (λ e. omega arith)
five_other Values k a b c d = one_not values_asked (a ∷ b ∷ c ∷ d ∷ []) (λ e. omega arith)
five_other Margin k a b c d = absurd (k refl)
five_other Unfold k a b c d = refl
five_other Gap k a b c d = refl
five_other (Number n) k a b c d = refl
five_other Other k a b c d = refl

-- ---- so many words, one by one

pub no_words : (ws : List Word) → length ws < 1 → map word_is ws ≡ []
no_words [] h = refl
no_words (a ∷ ws) h = absurd (omega arith)

pub two_words : (ws : List Word) (o : Word) → (2 ≤ length ws) × (length ws < 3) → map word_is ws ≡ word_is (get_or ws 0 o) ∷ word_is (get_or ws 1 o) ∷ []
two_words [] o h = absurd (omega arith)
two_words (a ∷ []) o h = absurd (omega arith)
two_words (a ∷ b ∷ []) o h = refl
two_words (a ∷ b ∷ c ∷ ws) o h = absurd (omega arith)

pub five_words : (ws : List Word) (o : Word) → (5 ≤ length ws) × (length ws < 6)
    → map word_is ws ≡ word_is (get_or ws 0 o) ∷ word_is (get_or ws 1 o) ∷ word_is (get_or ws 2 o) ∷ word_is (get_or ws 3 o) ∷ word_is (get_or ws 4 o) ∷ []
five_words [] o h = absurd (omega arith)
five_words (a ∷ []) o h = absurd (omega arith)
five_words (a ∷ b ∷ []) o h = absurd (omega arith)
five_words (a ∷ b ∷ c ∷ []) o h = absurd (omega arith)
five_words (a ∷ b ∷ c ∷ d ∷ []) o h = absurd (omega arith)
five_words (a ∷ b ∷ c ∷ d ∷ e ∷ []) o h = refl
five_words (a ∷ b ∷ c ∷ d ∷ e ∷ f ∷ ws) o h = absurd (omega arith)
