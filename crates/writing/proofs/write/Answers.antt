-- The numbers are judged first; what is accepted is written, and a refusal is the answer as it is.
-- Assumes nothing.
use Rattle.std.proofs.lemmas.Result.{err_from_is_err_and}
use Rattle.table.specs.JudgedLaws.{judged_accepted, judged_refused}
use Rattle.handed.specs.Handed.{numbers_of}
use Rattle.writing.specs.WrittenLaws.{took_writable, took_written, refused_written}
use Rattle.writing.proofs.write.Goals as goal

pub returns-in_err-t : goal.returns-in_err-t
returns-in_err-t c =
    let q = c.in_err-t.field-0.0 in
    let p = err_from_is_err_and c.from_residual.result c.from_residual.ensures.1 in
    rw (p.1, p.2) (refused_written (numbers_of c.args.n) q _ (judged_refused _ q c.in_err-t.ensures))

pub write_table-requires : goal.write_table-requires
write_table-requires c = took_writable (numbers_of c.args.n) (judged_accepted _ _ c.in_ok-t.ensures)

pub returns : goal.returns
returns c = took_written (numbers_of c.args.n) (judged_accepted _ _ c.in_ok-t.ensures) _ c.write_table.ensures
