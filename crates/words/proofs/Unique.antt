-- No two words and no two questions of the code say the same, and words of every number can begin with every five: the contracts of `word_of`
-- and `question_of` determine their answers.
-- Assumes nothing.
use Prim.Native.Nat.{ℕ, zero, suc}
use mathlib.Core.Path.{◌≡◌, refl, sym, ap, ◌∙◌}
use mathlib.Core.List.{List, [], ◌∷◌}
use lib.ListN.{length, take, replicate, length-replicate}
use lib.Seq.{take-nil}
use Rattle.rules.specs.Words as rules
use Rattle.rules.specs.Words.{boards_name, values_name, margin_name, unfold_name, gap_name, number, other, fold_asked, boards_asked, values_asked, margin_asked, unfold_asked, gap_asked, nothing_asked}
use Rattle.words.specs.declared.Question.{Question}
use Rattle.words.specs.declared.Question.TheVariants.{Fold, Boards, Values, Margin, Unfold, Gap, Nothing}
use Rattle.words.specs.declared.Word.{Word}
use Rattle.words.specs.declared.Word.TheVariants as word
use Rattle.words.specs.Words.{read_as, word_is, asked_by, Asks, AsksFirst}

-- a question of the rules, held by the code
abbrev held : rules.Question → Question
held fold_asked = Fold
held (boards_asked q) = Boards q
held (values_asked q) = Values q
held (margin_asked i j n q) = Margin i j n q
held unfold_asked = Unfold
held gap_asked = Gap
held nothing_asked = Nothing

held_asked : (x : Question) → held (asked_by x) ≡ x
held_asked Fold = refl
held_asked (Boards q) = refl
held_asked (Values q) = refl
held_asked (Margin i j n q) = refl
held_asked Unfold = refl
held_asked Gap = refl
held_asked Nothing = refl

pub asked_one : (x y : Question) → asked_by x ≡ asked_by y → x ≡ y
asked_one x y e = sym (held_asked x) ∙ ap held e ∙ held_asked y

-- a word of the rules, held by the code
abbrev held_word : rules.Word → Word
held_word boards_name = word.Boards
held_word values_name = word.Values
held_word margin_name = word.Margin
held_word unfold_name = word.Unfold
held_word gap_name = word.Gap
held_word (number n) = word.Number n
held_word other = word.Other

held_word_lem : (x : Word) → held_word (word_is x) ≡ x
held_word_lem word.Boards = refl
held_word_lem word.Values = refl
held_word_lem word.Margin = refl
held_word_lem word.Unfold = refl
held_word_lem word.Gap = refl
held_word_lem (word.Number n) = refl
held_word_lem word.Other = refl

-- a word is read in one way
pub word_one : (w : List ℕ) (x y : Word) → word_is x ≡ read_as w → word_is y ≡ read_as w → x ≡ y
word_one w x y p q = sym (held_word_lem x) ∙ ap held_word (p ∙ sym q) ∙ held_word_lem y

-- the words that are handed over are such a list themselves
pub first_one : (first : List rules.Word) (x y : Question) → AsksFirst first x → AsksFirst first y → x ≡ y
first_one first x y p q = asked_one x y (p first refl refl ∙ sym (q first refl refl))

-- so many words that begin with some; where there are more, those behind them are no names and no numbers
pub begins : (first : List rules.Word) (count : ℕ) → (ws : List rules.Word) × (length ws ≡ count) × (take (length first) ws ≡ take count first)
begins [] count = (replicate count other, length-replicate count other, sym (take-nil count))
begins (w ∷ first) zero = ([], refl, refl)
begins (w ∷ first) (suc count) =
    let (ws, l, f) = begins first count in (w ∷ ws, ap suc l, ap (λ (vs : List rules.Word). w ∷ vs) f)

pub question_one : (count : ℕ) (a b c d e : rules.Word) (x y : Question) → Asks count (a ∷ b ∷ c ∷ d ∷ e ∷ []) x
    → Asks count (a ∷ b ∷ c ∷ d ∷ e ∷ []) y → x ≡ y
question_one count a b c d e x y p q =
    let (ws, l, f) = begins (a ∷ b ∷ c ∷ d ∷ e ∷ []) count in asked_one x y (p ws l f ∙ sym (q ws l f))
