-- What is told of a verdict of the code is what is told of the rules' verdict.
-- Assumes nothing.
use Rattle.std.specs.Prelude.{◌≡◌, refl, ℕ, Bool, ℤ, Result, Ok, Err}
use Rattle.std.specs.Result.{result_and}
use Rattle.std.proofs.Common.{sym, ap, ◌∙◌}
use Rattle.rules.specs.Verdicts.{accepted, refused, onwards}
use Rattle.rules.specs.Verdicts as rules
use Rattle.rules.specs.Table.{Table}
use Rattle.theory.proofs.Verdicts.{onwards_accepts}
use Rattle.fields.specs.declared.Refusal.{Refusal}
use Rattle.figures.specs.declared.Figures.{Figures}
use Rattle.fields.specs.Verdicts.{refusal_of, answered}
use Rattle.figures.specs.Figures.{figures_of}
use Rattle.fields.specs.RefusalLaws.{refusal_is, onwards_refusal}
use Rattle.table.specs.declared.Table as code
use Rattle.table.specs.JudgedLaws.{judged_accepted, judged_refused}
use Rattle.table.specs.Tables.{JudgedAs}
use Rattle.telling.specs.Telling.{told_of, unwritten, ended, yes_of, ended_with}

-- a refusal after which nothing is written is told alike, whatever was to be accepted
refusal_unwritten : (A B : Type 0) (r : Refusal) → unwritten (refusal_of {A = A} r) ≡ unwritten (refusal_of {A = B} r)
unfolding unwritten
refusal_unwritten A B r = onwards_refusal r (λ x. accepted 0) refl ∙ sym (onwards_refusal r (λ x. accepted 0) refl)

pub refusal_kept : (r : Refusal) → told_of (refusal_of r) ≡ told_of (unwritten (refusal_of {A = Unit {0}} r))
unfolding unwritten
refusal_kept r = ap told_of (sym (onwards_refusal r (λ x. accepted 0) refl))

-- the code's verdict on a table, the table left aside
pub judged_told : (v : rules.Verdict Table) (r : Result code.Table Refusal) → JudgedAs v r
    → told_of (unwritten (answered (result_and r (Ok (tt {0}))))) ≡ told_of (unwritten v)
unfolding unwritten
judged_told v (Ok t) j = ap told_of (sym (onwards_accepts (λ x. accepted 0) (judged_accepted v t j).said))
judged_told v (Err q) j = ap told_of (refusal_unwritten (Unit {0}) Table q ∙ ap unwritten (sym (judged_refused v q j)))

-- with a lent place
pub ended_told : {A : Type 0} {f g : Figures} {lent : A} → f ≡ g → ended f lent ≡ ended g lent
ended_told {lent = lent} e = ap (λ (f : Figures). ended f lent) e

-- the figures of a refusal are what is told of it
pub refusal_told : (r : Refusal) {f : Figures} → refusal_of {A = ℕ} r ≡ refused f.number f.a f.b → f ≡ told_of (refusal_of r)
refusal_told r e = sym (ap told_of e)

-- a refusal of a question is told as one of a table
pub refusal_yes : (r : Refusal) → told_of (refusal_of r) ≡ told_of (yes_of (refusal_of r))
unfolding yes_of onwards
refusal_yes r = let (n, a, b, x, y) = refusal_is {A = ℕ} {B = Bool} r in rw (x, y)

-- a margin is told as 0 0 0 and left in its place
pub margin_told : {f : Figures} {y : ℤ} (z before : ℤ) → f ≡ figures_of 0 0 0 → y ≡ z → ended f y ≡ ended_with (accepted z) before
unfolding ended_with
margin_told z before e f = λ i. ended (e i) (f i)

-- a refusal is told, and the place for the margin stays
pub margin_kept : (r : Refusal) {f : Figures} (before : ℤ) → f ≡ told_of (refusal_of r) → ended f before ≡ ended_with (refusal_of r) before
unfolding ended_with
margin_kept r before e = let (n, a, b, x, y) = refusal_is {A = ℕ} {B = ℤ} r in ended_told (e ∙ ap told_of x) ∙ rw y
