-- The header, the period and the rows are stored one behind the other, from the front.
-- Assumes nothing.
use Rattle.std.proofs.Common.{ℕ, ◌+◌, ◌*◌, ◌≤◌, ◌++◌, length, drop, sym, ap, ◌∙◌, arith}
use Rattle.rules.specs.Table.{nops}
use Rattle.rules.specs.Rows.{reply_of}
use Rattle.rules.specs.Bytes.{reply_bytes}
use Rattle.table.specs.Tables.{table_of}
use Rattle.table.specs.TableLaws.{good_count}
use Rattle.replies.specs.ReplyLaws.{reply_front}
use Rattle.replies.proofs.put_reply.Goals as goal

pub returns : goal.returns
returns c =
    let T = table_of c.args.t in
    let out = c.args.out.now in
    let count = good_count c.args.t c.requires.0 in
    let room : 5 + 7 * nops T ≤ length out = omega (arith, c.requires.3) in
    reply_front T c.args.q.0 out room c.put_header.ensures c.put16.ensures c.put_rows.ensures
    ∙ ap (λ (n : ℕ). reply_bytes (reply_of T c.args.q.0) ++ drop (5 + 7 * n) out) (sym count)
