-- The text for each question, and that what is printed for a question of the code is printed for the words that ask it, also where a number
-- was beyond 64 bits.
-- Assumes nothing.
use Rattle.std.specs.Prelude.{ℕ, ◌<◌, ◌≡◌, Bool, true, false, List, [], map, ℤ, length, take, min}
use Rattle.std.proofs.Math.Path.{refl, subst⁻¹}
use Rattle.std.proofs.Common.{ap, subst, ◌∙◌, inl, inr, arith, take_all, length-take}
use Rattle.std.proofs.Math.Decide.{dec_lt}
use Rattle.rules.specs.Words.{fold_asked, boards_asked, values_asked, margin_asked, unfold_asked, gap_asked, nothing_asked, question_of, is_asked, askable}
use Rattle.rules.specs.Words as rules
use Rattle.rules.specs.Verdicts.{Verdict}
use Rattle.rules.specs.Judge.{judge_reply}
use Rattle.rules.specs.Text.{told, yes_no_line, margin_line, gap_line, starts_text}
use Rattle.rules.specs.Answers.{Fit, BoardsFit, Arrive, ValuesArrive, IsMargin, IsGapOf, IsSaid, printed, IsPrinted}
use Rattle.theory.proofs.Beyond.{Alike, yes_no_alike, margin_asked_alike}
use Rattle.text.specs.declared.Text.{Text}
use Rattle.text.specs.Texts.{text_in}
use Rattle.text.specs.TextLaws.{text_front}
use Rattle.folds.specs.Folds.{TextFor}
use Rattle.words.specs.declared.Question.{Question}
use Rattle.words.specs.declared.Question.TheVariants as question
use Rattle.words.specs.Words.{largest, capped, capped_question, read_as, asked_by, Asks, AsksFirst}
use Rattle.words.specs.AskLaws.{asks_words, first_asks}
use Rattle.saying.specs.Said.{SaidFor}

-- a capped number is the number, or both are beyond every range
alike : (n : ℕ) → Alike (capped n) n
alike n = go (dec_lt largest n)
  where
    go : Dec (largest < n) → Alike (capped n) n
    go (yes h) = inr (omega arith, omega arith)
    go (no h) = inl (omega arith)

-- what is said of capped numbers is said of the numbers
said_capped : (q : rules.Question) (s text : List ℕ) → IsSaid (capped_question q) s text → IsSaid q s text
unfolding IsSaid capped_question
said_capped fold_asked s text x = x
said_capped (boards_asked q) s text (v, x, e) = (v, yes_no_alike s Fit (capped q) q v (alike q) x, e)
said_capped (values_asked q) s text (v, x, e) = (v, yes_no_alike s Arrive (capped q) q v (alike q) x, e)
said_capped (margin_asked i j n q) s text (v, x, e) =
    (v, margin_asked_alike s (capped i) i (capped j) j (capped n) n (capped q) q v (alike i) (alike j) (alike n) (alike q) x, e)
said_capped unfold_asked s text x = x
said_capped gap_asked s text x = x
said_capped nothing_asked s text x = x

-- ---- the text for each question
module _ {q : Question} (s : List ℕ) {t : Text} where
  pub said_fold : q ≡ question.Fold → TextFor s t → SaidFor q s t
  unfolding IsSaid
  said_fold e x = subst⁻¹ (λ (r : Question). SaidFor r s t) e x

  pub said_boards : {p : ℕ} (v : Verdict Bool) → q ≡ question.Boards p → BoardsFit s p v → t ≡ text_in (told yes_no_line v) → SaidFor q s t
  unfolding IsSaid
  said_boards v e x f = subst⁻¹ (λ (r : Question). SaidFor r s t) e (told yes_no_line v, (v, x, refl), f)

  pub said_values : {p : ℕ} (v : Verdict Bool) → q ≡ question.Values p → ValuesArrive s p v → t ≡ text_in (told yes_no_line v) → SaidFor q s t
  unfolding IsSaid
  said_values v e x f = subst⁻¹ (λ (r : Question). SaidFor r s t) e (told yes_no_line v, (v, x, refl), f)

  pub said_margin : {i j n p : ℕ} (v : Verdict ℤ) → q ≡ question.Margin i j n p → IsMargin s i j n p v → t ≡ text_in (told margin_line v) → SaidFor q s t
  unfolding IsSaid
  said_margin v e x f = subst⁻¹ (λ (r : Question). SaidFor r s t) e (told margin_line v, (v, x, refl), f)

  pub said_unfold : q ≡ question.Unfold → t ≡ text_in (told starts_text (judge_reply s)) → SaidFor q s t
  unfolding IsSaid
  said_unfold e f = subst⁻¹ (λ (r : Question). SaidFor r s t) e (told starts_text (judge_reply s), refl, f)

  pub said_gap : (v : Verdict ℕ) → q ≡ question.Gap → IsGapOf s v → t ≡ text_in (told gap_line v) → SaidFor q s t
  unfolding IsSaid
  said_gap v e x f = subst⁻¹ (λ (r : Question). SaidFor r s t) e (told gap_line v, (v, x, refl), f)

  pub said_nothing : q ≡ question.Nothing → t ≡ text_in askable → SaidFor q s t
  unfolding IsSaid
  said_nothing e f = subst⁻¹ (λ (r : Question). SaidFor r s t) e (askable, refl, f)

-- the bytes that are counted are the text
pub said_is : (q : rules.Question) (s : List ℕ) (t : Text) → (text : List ℕ) × IsSaid q s text × (t ≡ text_in text) → IsSaid q s (take t.len t.bytes)
said_is q s t (b, is, e) = subst⁻¹ (λ (c : List ℕ). IsSaid q s c) (text_front b t e) is

-- whether anything is asked does not depend on the numbers
capped_printed : (q : rules.Question) (text : List ℕ) → printed (capped_question q) text ≡ printed q text
unfolding capped_question printed
capped_printed fold_asked text = refl
capped_printed (boards_asked q) text = refl
capped_printed (values_asked q) text = refl
capped_printed (margin_asked i j n q) text = refl
capped_printed unfold_asked text = refl
capped_printed gap_asked text = refl
capped_printed nothing_asked text = refl

-- from the words to both streams: what is printed for the question that the code read is what is printed for the words, whatever words stand
-- behind the fifth
pub words_printed : (ws : List (List ℕ)) (five : List rules.Word) (q : Question) (s text : List ℕ) → take (length ws) five ≡ map read_as (take 5 ws)
    → Asks (length ws) five q → IsSaid (asked_by q) s text → IsPrinted ws s (printed (asked_by q) text)
words_printed ws five q s text read asks said =
    let same = asks_words ws five q read asks in (
      text,
      said_capped (question_of ws) s text (subst (λ (x : rules.Question). IsSaid x s text) same said),
      ap (λ (x : rules.Question). printed x text) same ∙ capped_printed (question_of ws) text,
    )

-- the same for what `question_of` promises of the words that it is handed: as many as there are, or more than five, of which the first five are read
pub first_printed : (ws : List (List ℕ)) (first : List rules.Word) (q : Question) (s text : List ℕ) → min (length ws) 6 ≡ min (length first) 6
    → take 5 first ≡ map read_as (take 5 ws) → AsksFirst first q → IsSaid (asked_by q) s text → IsPrinted ws s (printed (asked_by q) text)
first_printed ws first q s text count read asked said =
    let all : take (length ws) (take 5 first) ≡ take 5 first = take_all (length ws) (take 5 first) (simp length-take (omega (arith, count))) in
    words_printed ws (take 5 first) q s text (all ∙ read) (first_asks first q asked (length ws) count) said

-- ---- the stream of a text
module _ (q : rules.Question) (text : List ℕ) where
  pub asked_printed : is_asked q ≡ true → printed q text ≡ record { out = text; err = [] }
  unfolding printed
  asked_printed e = rw e

  pub unasked_printed : is_asked q ≡ false → printed q text ≡ record { out = []; err = text }
  unfolding printed
  unasked_printed e = rw e
