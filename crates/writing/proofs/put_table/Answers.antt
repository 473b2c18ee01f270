-- The operations stand behind the head and the decider behind them, and what is stored from the front stands before the rest of the buffer.
-- Assumes nothing.
use Rattle.std.proofs.Common.{◌≡◌, ℕ, ◌≤◌, List, length, take, sym, ap, ◌∙◌, arith, rules, length-append}
use Rattle.rules.specs.Bytes.{joined, head_bytes, table_bytes}
use Rattle.table.specs.Tables.{table_of}
use Rattle.puts.specs.Puts.{stored}
use Rattle.puts.specs.PutLaws.{stored_then, stored_front}
use Rattle.writing_head.specs.WritingHeadLaws.{head_size}
use Rattle.writing_ops.specs.WritingOps.{bytes_of_op}
use Rattle.writing_ops.specs.WritingOpLaws.{size_bytes}
use Rattle.writing.specs.WritingLaws.{table_size, table_parts}
use Rattle.writing.proofs.put_table.Goals as goal

pub returns : goal.returns
returns c =
    let t = c.args.t in
    let out = c.args.out.now in
    let words : length t.follow ≡ 32 = search rules in
    let size = table_size t words c.requires.0.modes in
    let room : length (table_bytes (table_of t)) ≤ length out = omega (arith, c.requires.3) in
    let head = head_size t words c.requires.0.modes in
    let long = length-append (head_bytes (table_of t)) (joined bytes_of_op (take t.count t.ops)) in
    let e2 = stored_then out 0 _ _ c.put_head.ensures (omega (arith, head)) c.put_ops-at.ensures.0 in
    stored_then out 0 _ _ e2 (omega (arith, c.put_ops-at.ensures.1, long, head, size_bytes t.ops t.count)) c.put_decider.ensures
    ∙ ap (λ (l : List ℕ). stored out 0 l) (sym (table_parts t))
    ∙ stored_front out (table_bytes (table_of t)) room
