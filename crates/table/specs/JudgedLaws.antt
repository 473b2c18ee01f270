-- Laws of a verdict with its table, whatever was judged: refusals and accepted tables.
-- Assumes nothing.
use Rattle.std.specs.Prelude.{◌≡◌, refl, length, Result, Ok, Err}
use Rattle.std.proofs.Common.{sym, ap, ◌∙◌}
use Rattle.std.proofs.Math.Path.{subst⁻¹}
use Rattle.rules.specs.Table.{Table, Accepted}
use Rattle.rules.specs.Verdicts.{Verdict, accepted, refused, onwards}
use Rattle.theory.proofs.Verdicts.{never_refused, onwards_accepts}
use Rattle.fields.specs.Verdicts.{refusal_of, answered}
use Rattle.fields.specs.RefusalLaws.{refusal_is, refusal_at, onwards_refusal}
use Rattle.fields.specs.declared.Refusal.{Refusal}
use Rattle.table.specs.Tables.{JudgedAs, Tidy, table_of, table_in, going_on, Good}
use Rattle.table.specs.TableLaws.{table_back, good_in}
use Rattle.table.specs.declared.Table as code

-- a refusal
pub denied : (q : Refusal) → JudgedAs (refusal_of q) (Err q)
denied q = sym (onwards_refusal q (λ T. accepted (table_in T)) refl)

-- an accepted table, as the code holds it
pub granted : (T : Table) {v : Verdict Table} {t : code.Table} → v ≡ accepted T → t ≡ table_in T → JudgedAs v (Ok t)
granted T e f = ap (λ (u : code.Table). accepted u) f ∙ sym (onwards_accepts (λ T. accepted (table_in T)) e)

-- ---- what a verdict of the code says

-- an accepted table, and the code's
pub record Took (v : Verdict Table) (t : code.Table) : Type 0 where
  pub table : Table
  pub said : v ≡ accepted table
  pub held : t ≡ table_in table

pub took_back : {v : Verdict Table} {t : code.Table} (k : Took v t) → length k.table.follow ≡ k.table.modes → table_of t ≡ k.table
took_back k e = ap (λ (u : code.Table). table_of u) k.held ∙ table_back k.table e

-- what was accepted, and t where nothing was
accepted_or : code.Table → Verdict code.Table → code.Table
accepted_or t (accepted u) = u
accepted_or t (refused n a b) = t

pub judged_accepted : (v : Verdict Table) (t : code.Table) → JudgedAs v (Ok t) → Took v t
unfolding onwards accepted_or
judged_accepted (accepted T) t j = record { table = T; said = refl; held = ap (accepted_or t) j }
judged_accepted (refused n a b) t j = never_refused (sym j)

pub judged_refused : (v : Verdict Table) (q : Refusal) → JudgedAs v (Err q) → v ≡ refusal_of q
unfolding onwards
judged_refused (accepted T) q j = let (n, a, b, x, y) = refusal_is {A = code.Table} {B = Table} q in never_refused (sym x ∙ j)
judged_refused (refused m c d) q j = sym (refusal_at q j)

-- where an accepted table has as many words as modes, the code's answer tells the verdict, and the table is zero where nothing counts
module _ {v : Verdict Table} (words : (T : Table) → v ≡ accepted T → length T.follow ≡ T.modes) where
  pub judged_tidy : {r : Result code.Table Refusal} → JudgedAs v r → Tidy r
  judged_tidy j t e =
      let took = judged_accepted v t (sym (ap answered e) ∙ j) in
      took.held ∙ ap (λ (T : Table). table_in T) (sym (took_back took (words took.table took.said)))

  -- so it goes on as the verdict does
  pub going_by : (f : Table → Verdict Table) (r : Result code.Table Refusal) → JudgedAs v r → going_on r f ≡ onwards v f
  going_by f (Ok t) j =
      let took = judged_accepted v t j in
      onwards_accepts (λ u. f (table_of u)) refl ∙ ap f (took_back took (words took.table took.said)) ∙ sym (onwards_accepts f took.said)
  going_by f (Err q) j = onwards_refusal q (λ u. f (table_of u)) refl ∙ sym (onwards_refusal q f (judged_refused v q j))

-- ---- what is judged next
module _ (j : Result code.Table Refusal) (f : Table → Verdict Table) where
  pub going_refused : (q : Refusal) → j ≡ Err q → going_on j f ≡ refusal_of q
  going_refused q e = onwards_refusal q (λ t. f (table_of t)) (ap (λ r. answered r) e)

  pub going_accepted : (t : code.Table) → j ≡ Ok t → going_on j f ≡ f (table_of t)
  going_accepted t e = onwards_accepts (λ u. f (table_of u)) (ap (λ r. answered r) e)

-- an accepted table is one that the engine takes
module _ {v : Verdict Table} {t : code.Table} (took : Took v t) (ok : Accepted took.table) where
  pub took_good : Good t
  took_good = subst⁻¹ (λ (u : code.Table). Good u) took.held (good_in took.table ok)

  pub took_table : table_of t ≡ took.table
  took_table = took_back took ok.words
