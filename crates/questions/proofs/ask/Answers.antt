-- A refusal of the table stays; of an accepted one it is ASK at place 0 unless q is from 1 to the length.
-- Assumes nothing.
use Rattle.std.proofs.Common.{arith}
use Rattle.fields.specs.RefusalLaws.{err_again}
use Rattle.fields.specs.declared.Refusal.TheVariants.{Ask}
use Rattle.table.specs.Tables.{table_of}
use Rattle.table.specs.JudgedLaws.{denied, granted}
use Rattle.reading.specs.ReadLaws.{reads}
use Rattle.asks.specs.AskLaws.{range_in, range_out}
use Rattle.questions.specs.QuestionLaws.{asked_unread, read_denied, read_granted}
use Rattle.questions.proofs.ask.Goals as goal

pub returns-in_err-t : goal.returns-in_err-t
returns-in_err-t c =
    let r = c.in_err-t.field-0.0 in
    rw (err_again c.from_residual.result r c.from_residual.ensures.1, asked_unread c.args.s.now c.args.q r c.in_err-t.ensures) (denied r)

pub returns-then-not-in_range : goal.returns-then-not-in_range
returns-then-not-in_range c =
    let k = reads _ _ c.in_ok-t.ensures in
    rw (read_denied k c.args.q (λ l h. range_out c.in_range.ensures c.if-not-in_range.true-raw (omega (arith, l), omega (arith, h)))) (denied (Ask 0))

pub returns : goal.returns
returns c =
    let k = reads _ _ c.in_ok-t.ensures in
    let q = range_in c.in_range.ensures c.if-not-in_range.false-raw in
    granted (table_of c.in_ok-t.t) (read_granted k c.args.q (omega (arith, q.0)) (omega (arith, q.1))) k.good.tidy
