-- What a table that was read says: the judge accepts it, and the engine takes it.
-- Assumes nothing.
use Rattle.std.specs.Prelude.{ℕ, ◌≡◌, List, Ok}
use Rattle.std.proofs.Common.{ap, sym, ◌∙◌}
use Rattle.rules.specs.Verdicts.{accepted}
use Rattle.rules.specs.Judge.{judge}
use Rattle.theory.proofs.Judging.{judge_accepted}
use Rattle.table.specs.declared.Table.{Table}
use Rattle.table.specs.Tables.{JudgedAs, table_of, Good}
use Rattle.table.specs.JudgedLaws.{judged_accepted, took_good, took_table}

pub record Reads (s : List ℕ) (t : Table) : Type 0 where
  pub said : judge s ≡ accepted (table_of t)
  pub good : Good t

pub reads : (s : List ℕ) (t : Table) → JudgedAs (judge s) (Ok t) → Reads s t
reads s t j =
    let took = judged_accepted (judge s) t j in
    let ok = judge_accepted s took.table took.said in
    record { said = took.said ∙ ap accepted (sym (took_table took ok)); good = took_good took ok }
