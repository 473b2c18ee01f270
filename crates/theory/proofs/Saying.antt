-- What the program prints: for all words and every input there is just one text on each stream, and no byte of the input past 889 matters.
-- Assumes nothing.
use Prim.Native.Nat.{ℕ}
use mathlib.Core.Path.{◌≡◌, refl, sym, ap, ◌∙◌}
use mathlib.Core.List.{List}
use lib.ListN.{take}
use Rattle.rules.specs.Bytes.{farthest}
use Rattle.rules.specs.Text.{told, yes_no_line, margin_line, gap_line, starts_text}
use Rattle.rules.specs.Words.{Question, fold_asked, boards_asked, values_asked, margin_asked, unfold_asked, gap_asked, nothing_asked, question_of, askable}
use Rattle.rules.specs.Answers.{IsSaid, Printed, printed, IsPrinted}
use Rattle.theory.proofs.Lengths.{reply_no_farther}
use Rattle.theory.proofs.Answering.{text_unique, text_exists, text_near, boards_unique, boards_exists, boards_near, values_unique, values_exists, values_near, margin_near, gap_of_unique, gap_of_exists, gap_of_near}

pub said_unique : (q : Question) (s b c : List ℕ) → IsSaid q s b → IsSaid q s c → b ≡ c
unfolding IsSaid
said_unique fold_asked s b c x y = text_unique s b c x y
said_unique (boards_asked q) s b c (v, x, e) (w, y, f) = e ∙ ap (told yes_no_line) (boards_unique s q v w x y) ∙ sym f
said_unique (values_asked q) s b c (v, x, e) (w, y, f) = e ∙ ap (told yes_no_line) (values_unique s q v w x y) ∙ sym f
said_unique (margin_asked i j n q) s b c (v, x, e) (w, y, f) = e ∙ ap (told margin_line) (x ∙ sym y) ∙ sym f
said_unique unfold_asked s b c x y = x ∙ sym y
said_unique gap_asked s b c (v, x, e) (w, y, f) = e ∙ ap (told gap_line) (gap_of_unique s v w x y) ∙ sym f
said_unique nothing_asked s b c x y = x ∙ sym y

pub said_exists : (q : Question) (s : List ℕ) → (b : List ℕ) × IsSaid q s b
unfolding IsSaid
said_exists fold_asked s = text_exists s
said_exists (boards_asked q) s = let (v, x) = boards_exists s q in (told yes_no_line v, (v, x, refl))
said_exists (values_asked q) s = let (v, x) = values_exists s q in (told yes_no_line v, (v, x, refl))
said_exists (margin_asked i j n q) s = (_, (_, refl, refl))
said_exists unfold_asked s = (_, refl)
said_exists gap_asked s = let (v, x) = gap_of_exists s in (told gap_line v, (v, x, refl))
said_exists nothing_asked s = (askable, refl)

-- "no answer depends on bytes past 889", whatever is asked
said_near : (q : Question) (s t b : List ℕ) → take farthest s ≡ take farthest t → IsSaid q s b → IsSaid q t b
unfolding IsSaid
said_near fold_asked s t b near x = text_near s t near b x
said_near (boards_asked q) s t b near (v, x, e) = (v, boards_near s t near q v x, e)
said_near (values_asked q) s t b near (v, x, e) = (v, values_near s t near q v x, e)
said_near (margin_asked i j n q) s t b near (v, x, e) = (v, margin_near s t near i j n q v x, e)
said_near unfold_asked s t b near x = x ∙ ap (told starts_text) (reply_no_farther s t near)
said_near gap_asked s t b near (v, x, e) = (v, gap_of_near s t near v x, e)
said_near nothing_asked s t b near x = x

-- ---- both streams
pub printed_unique : (ws : List (List ℕ)) (s : List ℕ) (p r : Printed) → IsPrinted ws s p → IsPrinted ws s r → p ≡ r
printed_unique ws s p r (b, x, e) (c, y, f) = e ∙ ap (printed (question_of ws)) (said_unique (question_of ws) s b c x y) ∙ sym f

pub printed_exists : (ws : List (List ℕ)) (s : List ℕ) → (p : Printed) × IsPrinted ws s p
printed_exists ws s = let (b, x) = said_exists (question_of ws) s in (printed (question_of ws) b, (b, x, refl))

pub printed_near : (ws : List (List ℕ)) (s t : List ℕ) (p : Printed) → take farthest s ≡ take farthest t → IsPrinted ws s p → IsPrinted ws t p
printed_near ws s t p near (b, x, e) = (b, said_near (question_of ws) s t b near x, e)
