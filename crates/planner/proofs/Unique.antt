-- Two answers of the code that a promise allows are equal, and so is what they leave in the buffer.
-- Assumes nothing.
use Prim.Native.Nat.{ℕ}
use mathlib.Core.Path.{◌≡◌, sym, ap, ◌∙◌}
use mathlib.Core.List.{List}
use Rattle.std.specs.Prelude.{Bool, ℤ, Result}
use Rattle.fields.specs.declared.Refusal.{Refusal}
use Rattle.rules.specs.Judge.{Numbers}
use Rattle.rules.specs.Answers.{IsPlan, IsFold, IsUnfold, IsWrite, IsMargin, IsPeriodOf, IsGapOf, BoardsFit, ValuesArrive}
use Rattle.theory.proofs.Answering.{plan_unique, text_unique, fold_unique, unfold_unique, write_unique, margin_unique, period_of_unique, gap_of_unique, boards_unique, values_unique}
use Rattle.theory.proofs.Saying.{said_unique}
use Rattle.fields.specs.Verdicts.{answered, leaving}
use Rattle.fields.proofs.Told.{answer_one, leaving_one}
use Rattle.text.specs.declared.Text.{Text}
use Rattle.text.specs.Texts.{text_in}
use Rattle.folds.specs.Folds.{TextFor}
use Rattle.words.specs.declared.Question.{Question}
use Rattle.words.specs.Words.{asked_by}
use Rattle.saying.specs.Said.{SaidFor}

-- ---- functions that write

module _ (x y : Result ℕ Refusal) (end fin : List ℕ) where
  pub plan_one : (s out : List ℕ) → IsPlan s out (leaving (answered x) end) → IsPlan s out (leaving (answered y) fin) → (x ≡ y) × (end ≡ fin)
  plan_one s out p q = leaving_one x y end fin (plan_unique s out _ _ p q)

  pub fold_one : (s out : List ℕ) → IsFold s out (leaving (answered x) end) → IsFold s out (leaving (answered y) fin) → (x ≡ y) × (end ≡ fin)
  fold_one s out p q = leaving_one x y end fin (fold_unique s out _ _ p q)

  pub unfold_one : (s out : List ℕ) → IsUnfold s out (leaving (answered x) end) → IsUnfold s out (leaving (answered y) fin) → (x ≡ y) × (end ≡ fin)
  unfold_one s out p q = leaving_one x y end fin (unfold_unique s out _ _ p q)

  pub write_one : (N : Numbers) (out : List ℕ) → IsWrite N out (leaving (answered x) end) → IsWrite N out (leaving (answered y) fin) → (x ≡ y) × (end ≡ fin)
  write_one N out p q = leaving_one x y end fin (write_unique N out _ _ p q)

-- ---- the text by value

pub text_one : (s : List ℕ) (x y : Text) → TextFor s x → TextFor s y → x ≡ y
text_one s x y (b, p, e) (c, q, f) = e ∙ ap text_in (text_unique s b c p q) ∙ sym f

-- ---- questions

pub margin_one : (x y : Result ℤ Refusal) (s : List ℕ) (i j n q : ℕ) → IsMargin s i j n q (answered x) → IsMargin s i j n q (answered y) → x ≡ y
margin_one x y s i j n q p r = answer_one x y (margin_unique s i j n q _ _ p r)

pub boards_one : (x y : Result Bool Refusal) (s : List ℕ) (q : ℕ) → BoardsFit s q (answered x) → BoardsFit s q (answered y) → x ≡ y
boards_one x y s q p r = answer_one x y (boards_unique s q _ _ p r)

pub values_one : (x y : Result Bool Refusal) (s : List ℕ) (q : ℕ) → ValuesArrive s q (answered x) → ValuesArrive s q (answered y) → x ≡ y
values_one x y s q p r = answer_one x y (values_unique s q _ _ p r)

pub period_one : (x y : Result ℕ Refusal) (s : List ℕ) → IsPeriodOf s (answered x) → IsPeriodOf s (answered y) → x ≡ y
period_one x y s p q = answer_one x y (period_of_unique s _ _ p q)

pub gap_one : (x y : Result ℕ Refusal) (s : List ℕ) → IsGapOf s (answered x) → IsGapOf s (answered y) → x ≡ y
gap_one x y s p q = answer_one x y (gap_of_unique s _ _ p q)

-- ---- the text for a question

pub say_one : (q : Question) (s : List ℕ) (x y : Text) → SaidFor q s x → SaidFor q s y → x ≡ y
say_one q s x y (b, p, e) (c, r, f) = e ∙ ap text_in (said_unique (asked_by q) s b c p r) ∙ sym f
