-- The words behind the program's name as the code holds them: a number of the rules has any size, a number of the code 64 bits.
-- Assumes nothing.
use Rattle.std.specs.Prelude.{ℕ, min, ◌≡◌, cond, List, length, take}
use Rattle.rules.specs.Words.{is_number, value_of, word_of, boards_name, values_name, margin_name, unfold_name, gap_name, number, other, fold_asked, boards_asked, values_asked, margin_asked, unfold_asked, gap_asked, nothing_asked, asks}
use Rattle.rules.specs.Words as rules
use Rattle.words.specs.declared.Word.{Word}
use Rattle.words.specs.declared.Word.TheVariants as word
use Rattle.words.specs.declared.Question.{Question}
use Rattle.words.specs.declared.Question.TheVariants as question

-- ---- the largest number of 64 bits stands for all beyond it: it is outside every range too

abbrev pub largest : ℕ
largest = 18446744073709551615

abbrev pub capped : ℕ → ℕ
capped n = min n largest

unfoldable pub capped_word : rules.Word → rules.Word
capped_word boards_name = boards_name
capped_word values_name = values_name
capped_word margin_name = margin_name
capped_word unfold_name = unfold_name
capped_word gap_name = gap_name
capped_word (number n) = number (capped n)
capped_word other = other

unfoldable pub capped_question : rules.Question → rules.Question
capped_question fold_asked = fold_asked
capped_question (boards_asked q) = boards_asked (capped q)
capped_question (values_asked q) = values_asked (capped q)
capped_question (margin_asked i j n q) = margin_asked (capped i) (capped j) (capped n) (capped q)
capped_question unfold_asked = unfold_asked
capped_question gap_asked = gap_asked
capped_question nothing_asked = nothing_asked

-- a word as the code reads it
abbrev pub read_as : List ℕ → rules.Word
read_as w = capped_word (word_of w)

-- a word that is no question's name
abbrev pub unnamed_of : List ℕ → rules.Word
unnamed_of w = cond (is_number w) (number (value_of w)) other

-- ---- the code's words and questions as those of the rules

abbrev pub word_is : Word → rules.Word
word_is word.Boards = boards_name
word_is word.Values = values_name
word_is word.Margin = margin_name
word_is word.Unfold = unfold_name
word_is word.Gap = gap_name
word_is (word.Number n) = number n
word_is word.Other = other

abbrev pub asked_by : Question → rules.Question
asked_by question.Fold = fold_asked
asked_by (question.Boards q) = boards_asked q
asked_by (question.Values q) = values_asked q
asked_by (question.Margin i j n q) = margin_asked i j n q
asked_by question.Unfold = unfold_asked
asked_by question.Gap = gap_asked
asked_by question.Nothing = nothing_asked

-- ---- what is asked, by the number of words and the first five of them, as they are read

-- whatever list of so many words begins with the five, or, where it has fewer, is the first of them
abbrev pub Asks : ℕ → List rules.Word → Question → Type 0
Asks count five r = (ws : List rules.Word) → length ws ≡ count → take 5 ws ≡ take count five → asked_by r ≡ asks ws

-- the same by the words themselves, of which no more are looked at than that there is one behind the fifth: whatever list begins with the same five
-- and has as many, or, like these, more than five
abbrev pub AsksFirst : List rules.Word → Question → Type 0
AsksFirst first r = (ws : List rules.Word) → min (length ws) 6 ≡ min (length first) 6 → take 5 ws ≡ take 5 first → asked_by r ≡ asks ws
