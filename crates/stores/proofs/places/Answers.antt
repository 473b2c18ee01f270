-- A refusal of the table is the answer; the places of an accepted one are stored.
-- Assumes nothing.
use Rattle.table.specs.JudgedLaws.{judged_refused}
use Rattle.fields.specs.RefusalLaws.{err_again}
use Rattle.reading.specs.ReadLaws.{reads}
use Rattle.stores.specs.Stores.{places_refused, places_accepted}
use Rattle.stores.proofs.places.Goals as goal

pub returns-in_err-t : goal.returns-in_err-t
returns-in_err-t c =
    let r = c.in_err-t.field-0.0 in
    rw (err_again c.from_residual.result r c.from_residual.ensures.1) (places_refused _ _ r (judged_refused _ r c.in_err-t.ensures))

pub store_table-requires : goal.store_table-requires
store_table-requires c = (reads _ _ c.in_ok-t.ensures).good

pub returns : goal.returns
returns c = places_accepted _ _ _ _ (reads _ _ c.in_ok-t.ensures).said c.store_table.ensures
