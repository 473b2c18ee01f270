-- How the text goes on from the verdict on the bytes.
-- Assumes nothing.
use Rattle.std.specs.Prelude.{ℕ, ◌≡◌, refl, List, take}
use Rattle.std.proofs.Common.{ap, ◌∙◌}
use Rattle.std.proofs.Math.Path.{subst⁻¹}
use Rattle.rules.specs.Table.{Table}
use Rattle.rules.specs.Rows.{Reply, reply_of}
use Rattle.rules.specs.Verdicts.{Verdict, accepted, refused}
use Rattle.rules.specs.Judge.{judge}
use Rattle.rules.specs.Text.{text_of}
use Rattle.rules.specs.Answers.{Answers, Planned, IsText}
use Rattle.fields.specs.Verdicts.{refusal_of}
use Rattle.fields.specs.declared.Refusal.{Refusal}
use Rattle.fields.specs.RefusalLaws.{refusal_is}
use Rattle.text.specs.declared.Text.{Text}
use Rattle.text.specs.Texts.{text_in}
use Rattle.text.specs.TextLaws.{text_front}
use Rattle.folds.specs.Folds.{TableText, TextFor}

-- the line of a refusal of the table is the text
pub text_refused : (s : List ℕ) (r : Refusal) (t : Text) → judge s ≡ refusal_of r → t ≡ text_in (text_of (refusal_of r)) → TextFor s t
unfolding Answers
text_refused s r t e f =
    let (n, a, b, x, y) = refusal_is {A = Reply} {B = Table} r in (
      text_of (refusal_of r),
      (refused n a b, subst⁻¹ (λ (u : Verdict Table). Answers Planned u (refused n a b)) (e ∙ y) refl, ap text_of x),
      f,
    )

-- the text of an accepted table's reply is the text
pub text_accepted : (s : List ℕ) (T : Table) (t : Text) → judge s ≡ accepted T → TableText T t → TextFor s t
unfolding Answers text_of
text_accepted s T t e (q, period, f) = (
  text_of (accepted (reply_of T q)),
  (
    accepted (reply_of T q),
    subst⁻¹ (λ (u : Verdict Table). Answers Planned u (accepted (reply_of T q))) e (reply_of T q, (q, period, refl), refl),
    refl,
  ),
  f,
)

-- the bytes that are counted are the text
pub text_is : (s : List ℕ) (t : Text) → TextFor s t → IsText s (take t.len t.bytes)
text_is s t (b, is, e) = subst⁻¹ (λ (c : List ℕ). IsText s c) (text_front b t e) is
