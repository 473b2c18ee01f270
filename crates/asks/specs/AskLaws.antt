-- What the code's test of a range says, and how a question goes on from the verdict on the table.
-- Assumes nothing.
use Rattle.std.specs.Prelude.{ℕ, ◌≤◌, ◌≡◌, Bool, true, false, not, ◌↔◌}
use Rattle.std.proofs.Common.{sym, ap, ◌∙◌}
use Rattle.std.proofs.lemmas.Bool.{not-true, not-false}
use Rattle.rules.specs.Table.{Table, Accepted}
use Rattle.rules.specs.Verdicts.{Verdict, onwards}
use Rattle.rules.specs.Answers.{Answers}
use Rattle.theory.proofs.Says.{clash_bool}
use Rattle.theory.proofs.Verdicts.{onwards_accepts}
use Rattle.fields.specs.Verdicts.{refusal_of}
use Rattle.fields.specs.RefusalLaws.{refusal_is}
use Rattle.fields.specs.declared.Refusal.{Refusal}
use Rattle.table.specs.Tables.{table_of}
use Rattle.table.specs.JudgedLaws.{Took, took_table}
use Rattle.table.specs.declared.Table as code

-- what the code's test of the range says
module _ {x top : ℕ} {r : Bool} (e : (r ≡ true) ↔ ((1 ≤ x) × (x ≤ top))) where
  pub range_in : not r ≡ false → (1 ≤ x) × (x ≤ top)
  range_in h = e.0 (not-false _ h)

  pub range_out : not r ≡ true → (1 ≤ x) × (x ≤ top) → ⊥
  range_out h in-it = clash_bool (e.1 in-it) (not-true _ h)

-- ---- from the verdict on the table to the answer

-- a refusal of the table is the answer
pub refused_answers : {A B : Type 0} (P : A → B → Type 0) {v : Verdict A} (r : Refusal) → v ≡ refusal_of r → Answers P v (refusal_of r)
unfolding Answers
refused_answers {A} {B} P r e = let (n, a, b, x, y) = refusal_is {A = A} {B = B} r in rw (e, x, y)

-- an accepted table is asked
pub accepted_on : {A : Type 0} {v : Verdict Table} {t : code.Table} (f : Table → Verdict A) (took : Took v t) → Accepted took.table → f (table_of t) ≡ onwards v f
accepted_on f took ok = ap f (took_table took ok) ∙ sym (onwards_accepts f took.said)
