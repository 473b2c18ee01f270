-- A refusal of the table is told in its line; an accepted one is folded and told in its rows.
-- Assumes nothing.
use Rattle.table.specs.JudgedLaws.{judged_refused}
use Rattle.reading.specs.ReadLaws.{reads}
use Rattle.folds.specs.FoldLaws.{text_refused, text_accepted}
use Rattle.folds.proofs.text_of.Goals as goal

pub table_text-requires : goal.table_text-requires
table_text-requires c = (reads _ _ c.in-Ok.ensures).good

pub returns-in-Ok : goal.returns-in-Ok
returns-in-Ok c = text_accepted _ _ _ (reads _ _ c.in-Ok.ensures).said c.table_text.ensures

pub returns-in-Err : goal.returns-in-Err
returns-in-Err c = text_refused _ c.in-Err.r _ (judged_refused _ c.in-Err.r c.in-Err.ensures) c.refusal_text.ensures
