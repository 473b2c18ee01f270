-- A question about q goes on from the verdict on the table: ASK, or the table with what is known of it then.
-- Assumes nothing.
use Rattle.std.specs.Prelude.{ℕ, ◌≤◌, ◌≡◌, Bool, List, Result, Ok, Err}
use Rattle.std.proofs.Common.{ap, sym, ◌∙◌}
use Rattle.std.proofs.Math.Path.{subst⁻¹}
use Rattle.rules.specs.Verdicts.{Verdict, accepted, ◌then◌}
use Rattle.rules.specs.Table.{Table}
use Rattle.rules.specs.Judge.{judge}
use Rattle.rules.specs.Answers.{period_asked, asked_table, YesFor, YesNo}
use Rattle.theory.proofs.Verdicts.{then_accepts, then_refuses, onwards_accepts}
use Rattle.theory.proofs.Asking.{asked_in, asked_out, question, accepted_answers}
use Rattle.theory.proofs.Judging.{judge_accepted}
use Rattle.fields.specs.Verdicts.{refusal_of, answered}
use Rattle.fields.specs.RefusalLaws.{onwards_refusal}
use Rattle.fields.specs.declared.Refusal.{Refusal}
use Rattle.fields.specs.declared.Refusal.TheVariants.{Ask}
use Rattle.table.specs.Tables.{JudgedAs, table_of, table_in, Good}
use Rattle.table.specs.JudgedLaws.{granted, judged_accepted, judged_refused, took_good, took_table}
use Rattle.table.specs.declared.Table as code
use Rattle.asks.specs.AskLaws.{refused_answers}
use Rattle.reading.specs.ReadLaws.{Reads}

-- a table that is refused is not asked
pub asked_unread : (s : List ℕ) (q : ℕ) (r : Refusal) → JudgedAs (judge s) (Err r) → asked_table s q ≡ refusal_of r
asked_unread s q r j = onwards_refusal r (λ T. period_asked T q 0 then accepted T) (judged_refused (judge s) r j)

-- ---- q is not from 1 to the length, and it is

-- of any table
module _ (T : Table) (q : ℕ) where
  pub asked_denied : (r : Result code.Table Refusal) → (1 ≤ q → q ≤ T.len → ⊥) → JudgedAs (refusal_of (Ask 0)) r → JudgedAs (period_asked T q 0 then accepted T) r
  asked_denied r out e = subst⁻¹ (λ (v : Verdict Table). JudgedAs v r) (then_refuses (accepted T) (asked_out q T.len 0 out)) e

  pub asked_granted : {t : code.Table} → 1 ≤ q → q ≤ T.len → t ≡ table_in T → JudgedAs (period_asked T q 0 then accepted T) (Ok t)
  asked_granted l h e = granted T (then_accepts (accepted T) (asked_in q T.len 0 l h)) e

-- of one that was read
module _ {s : List ℕ} {t : code.Table} (k : Reads s t) (q : ℕ) where
  asked_read : asked_table s q ≡ (period_asked (table_of t) q 0 then accepted (table_of t))
  asked_read = onwards_accepts (λ T. period_asked T q 0 then accepted T) k.said

  pub read_denied : (1 ≤ q → q ≤ t.len → ⊥) → asked_table s q ≡ refusal_of (Ask 0)
  read_denied out = asked_read ∙ then_refuses (accepted (table_of t)) (asked_out q t.len 0 out)

  pub read_granted : 1 ≤ q → q ≤ t.len → asked_table s q ≡ accepted (table_of t)
  read_granted l h = asked_read ∙ then_accepts (accepted (table_of t)) (asked_in q t.len 0 l h)

-- what is known of a table that may be asked about q
pub record Askable (s : List ℕ) (q : ℕ) (t : code.Table) : Type 0 where
  pub said : asked_table s q ≡ accepted (table_of t)
  pub good : Good t
  pub low : 1 ≤ q
  pub high : q ≤ t.len

pub asked_accepted : (s : List ℕ) (q : ℕ) (t : code.Table) → JudgedAs (asked_table s q) (Ok t) → Askable s q t
asked_accepted s q t j =
    let took = judged_accepted (asked_table s q) t j in
    let (read, low, high) = question s q took.table took.said in
    let ok = judge_accepted s took.table read in
    let same = took_table took ok in
    record {
      said = took.said ∙ ap accepted (sym same);
      good = took_good took ok;
      low = low;
      high = rw (← ap (λ (T : Table). T.len) same) at high;
    }

-- ---- the answer, whichever question P is asked
module _ (P : Table → ℕ → Type 0) (s : List ℕ) (q : ℕ) (r : Result code.Table Refusal) (j : JudgedAs (asked_table s q) r) where
  pub yes_no_refused : (x : Refusal) → r ≡ Err x → YesNo P s q (refusal_of x)
  yes_no_refused x e = refused_answers (YesFor P q) x (judged_refused (asked_table s q) x (sym (ap answered e) ∙ j))

  pub yes_no_accepted : {b : Bool} {t : code.Table} → r ≡ Ok t → YesFor P q (table_of t) b → YesNo P s q (accepted b)
  yes_no_accepted {t = t} e says = accepted_answers (YesFor P q) (asked_accepted s q t (sym (ap answered e) ∙ j)).said says
