-- Laws of the code's refusals: they are the same whatever was to be accepted, and nothing that comes behind them counts.
-- Assumes nothing.
use Rattle.std.specs.Prelude.{ℕ, ◌≡◌, refl, Result, Ok, Err}
use Rattle.std.specs.Result.{IsErrAnd}
use Rattle.std.proofs.Common.{sym, ap, ◌∙◌}
use Rattle.rules.specs.Verdicts.{Verdict, accepted, refused, ◌then◌, onwards}
use Rattle.theory.proofs.Verdicts.{never_refused, then_refuses, onwards_refuses}
use Rattle.fields.specs.declared.Refusal.{Refusal}
use Rattle.fields.specs.declared.Refusal.TheVariants.{Short, Order, Size, Range, Many, Clash, Race, Room, Ask, Early}
use Rattle.fields.specs.Verdicts.{refusal_of, answered}

-- a refusal is one whatever was to be accepted
pub refusal_is : {A B : Type 0} (r : Refusal)
    → (n : ℕ) × (a : ℕ) × (b : ℕ) × (refusal_of {A = A} r ≡ refused n a b) × (refusal_of {A = B} r ≡ refused n a b)
refusal_is (Short at) = (_, _, _, refl, refl)
refusal_is (Order at) = (_, _, _, refl, refl)
refusal_is (Size at) = (_, _, _, refl, refl)
refusal_is (Range at place) = (_, _, _, refl, refl)
refusal_is (Many at) = (_, _, _, refl, refl)
refusal_is (Clash i j) = (_, _, _, refl, refl)
refusal_is (Race i j) = (_, _, _, refl, refl)
refusal_is (Room n) = (_, _, _, refl, refl)
refusal_is (Ask place) = (_, _, _, refl, refl)
refusal_is (Early d i) = (_, _, _, refl, refl)

module _ {A B : Type 0} {v : Verdict A} (r : Refusal) where
  -- it stays one whatever comes behind it
  pub then_refusal : (w : Verdict B) → v ≡ refusal_of r → (v then w) ≡ refusal_of r
  then_refusal w e = let (n, a, b, x, y) = refusal_is {A = A} {B = B} r in then_refuses w (e ∙ x) ∙ sym y

  pub onwards_refusal : (f : A → Verdict B) → v ≡ refusal_of r → onwards v f ≡ refusal_of r
  onwards_refusal f e = let (n, a, b, x, y) = refusal_is {A = A} {B = B} r in onwards_refuses f (e ∙ x) ∙ sym y

-- its figures at one type are its figures at every other
pub refusal_at : {A B : Type 0} (r : Refusal) {n a b : ℕ} → refusal_of {A = A} r ≡ refused n a b → refusal_of {A = B} r ≡ refused n a b
refusal_at {A} {B} r e = let (m, c, d, x, y) = refusal_is {A = A} {B = B} r in cc

-- a refusal that is heard of a verdict is the verdict's
pub heard_refusal : {A : Type 0} (v : Verdict A) (r : Refusal) → refusal_of r ≡ onwards v (λ _. accepted (tt {0})) → v ≡ refusal_of r
unfolding onwards
heard_refusal {A} (accepted x) r e = let (n, a, b, y, z) = refusal_is {A = A} {B = Unit {0}} r in never_refused (sym z ∙ e)
heard_refusal {A} (refused m c d) r e = sym (refusal_at r e)

-- a value of the code that is handed on, and a refusal
module _ {A : Type 0} {v : Result A Refusal} {w : Verdict A} (e : answered v ≡ w) where
  pub passed_as : {x : A} → v ≡ Ok x → accepted x ≡ w
  passed_as h = sym (ap answered h) ∙ e

  pub refused_as : {r : Refusal} → v ≡ Err r → refusal_of r ≡ w
  refused_as h = sym (ap answered h) ∙ e

-- where a `?` hands an error on, the error is the same
pub err_again : {T : Type 0} (r : Result T Refusal) (e : Refusal) → IsErrAnd r (λ y. y ≡ e) → r ≡ Err e
err_again (Ok x) e h = absurd h
err_again (Err y) e h = ap Err h
