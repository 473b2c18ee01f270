-- The code's answers are determined by the documents' numbers: no two refusals or answers of the code say the same.
-- Assumes nothing.
use Prim.Native.Nat.{ℕ, zero, suc}
use mathlib.Core.Path.{◌≡◌, refl, sym, ap, ◌∙◌}
use mathlib.Core.List.{List}
use Rattle.rules.specs.Verdicts.{Verdict, accepted, refused}
use Rattle.rules.specs.Answers.{Written}
use Rattle.theory.proofs.Verdicts.{never_refused}
use Rattle.fields.specs.declared.Refusal.{Refusal}
use Rattle.fields.specs.declared.Refusal.TheVariants.{Short, Order, Size, Range, Many, Clash, Race, Room, Ask, Early}
use Rattle.std.specs.Prelude.{Result, Ok, Err}
use Rattle.fields.specs.Verdicts.{refusal_of, answered, leaving}

-- the refusal that has a number, a and b; none has the number 0, nor one above 10
untold : ℕ → ℕ → ℕ → Refusal
untold zero a b = Short a
untold (suc zero) a b = Short a
untold (suc (suc zero)) a b = Order a
untold (suc (suc (suc zero))) a b = Size a
untold (suc (suc (suc (suc zero)))) a b = Range a b
untold (suc (suc (suc (suc (suc zero))))) a b = Many a
untold (suc (suc (suc (suc (suc (suc zero)))))) a b = Clash a b
untold (suc (suc (suc (suc (suc (suc (suc zero))))))) a b = Race a b
untold (suc (suc (suc (suc (suc (suc (suc (suc zero)))))))) a b = Room a
untold (suc (suc (suc (suc (suc (suc (suc (suc (suc zero))))))))) a b = Ask a
untold (suc (suc (suc (suc (suc (suc (suc (suc (suc (suc zero)))))))))) a b = Early a b
untold (suc (suc (suc (suc (suc (suc (suc (suc (suc (suc (suc n))))))))))) a b = Short a

refusal_back : {A : Type 0} (r : Refusal)
    → (n : ℕ) × (a : ℕ) × (b : ℕ) × (refusal_of {A = A} r ≡ refused n a b) × (untold n a b ≡ r)
unfolding untold
refusal_back (Short a) = (_, _, _, refl, refl)
refusal_back (Order a) = (_, _, _, refl, refl)
refusal_back (Size a) = (_, _, _, refl, refl)
refusal_back (Range a b) = (_, _, _, refl, refl)
refusal_back (Many a) = (_, _, _, refl, refl)
refusal_back (Clash i j) = (_, _, _, refl, refl)
refusal_back (Race i j) = (_, _, _, refl, refl)
refusal_back (Room a) = (_, _, _, refl, refl)
refusal_back (Ask a) = (_, _, _, refl, refl)
refusal_back (Early d i) = (_, _, _, refl, refl)

-- what is accepted is no refusal
pub no_refusal : {A X : Type 0} {x : A} (r : Refusal) → accepted x ≡ refusal_of r → X
no_refusal {A} r e = let (n, a, b, x, y) = refusal_back {A = A} r in never_refused (sym (e ∙ x))

pub refusal_one : {A : Type 0} (r s : Refusal) → refusal_of {A = A} r ≡ refusal_of s → r ≡ s
refusal_one {A} r s e =
    let (n, a, b, x, y) = refusal_back {A = A} r in
    let (m, c, d, z, w) = refusal_back {A = A} s in
    let same = sym x ∙ e ∙ z in
    let number : n ≡ m = cc in
    let first : a ≡ c = cc in
    let second : b ≡ d = cc in
    sym y ∙ ap (λ (k : ℕ). untold k a b) number ∙ ap (λ (k : ℕ). untold m k b) first ∙ ap (untold m c) second ∙ w

-- what was accepted, and x where nothing was
accepted_or : {A : Type 0} → A → Verdict A → A
accepted_or x (accepted y) = y
accepted_or x (refused n a b) = x

pub answer_one : {A : Type 0} (x y : Result A Refusal) → answered x ≡ answered y → x ≡ y
unfolding accepted_or
answer_one (Ok n) (Ok m) e = ap (λ v. Ok (accepted_or n v)) e
answer_one (Ok n) (Err r) e = no_refusal r e
answer_one (Err r) (Ok n) e = no_refusal r (sym e)
answer_one (Err r) (Err s) e = ap Err (refusal_one r s e)

-- an answer and the buffer that is left with it
pub leaving_one : (x y : Result ℕ Refusal) (end fin : List ℕ) → leaving (answered x) end ≡ leaving (answered y) fin → (x ≡ y) × (end ≡ fin)
leaving_one x y end fin e = (answer_one x y (ap (λ (w : Written). w.answer) e), ap (λ (w : Written). w.buffer) e)
