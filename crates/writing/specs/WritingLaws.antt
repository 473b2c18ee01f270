-- Laws of a table's bytes: the parts, one behind the other, are the whole.
-- Assumes nothing.
use Rattle.std.specs.Prelude.{ℕ, ◌+◌, ◌≤◌, ◌≡◌, List, ◌++◌, length, take}
use Rattle.std.proofs.Common.{sym, ap, ◌∙◌, append_assoc}
use Rattle.rules.specs.Bytes.{joined, op_bytes, head_bytes, decider_bytes, table_bytes}
use Rattle.rules.specs.Judge.{ops_end}
use Rattle.theory.proofs.Bytes.{table_length}
use Rattle.table.specs.Tables.{op_of, who_of, table_of}
use Rattle.table.specs.declared.Table.{Table}
use Rattle.writing_head.specs.WritingHeadLaws.{words_there}
use Rattle.writing_ops.specs.WritingOps.{bytes_of_op}
use Rattle.writing_ops.specs.WritingOpLaws.{joined_map}

-- how many bytes a table has with its decider
abbrev pub whole_size : Table → ℕ
whole_size t = ops_end (table_of t) + length (decider_bytes (who_of t.decider))

pub table_size : (t : Table) → length t.follow ≡ 32 → t.modes ≤ 32 → length (table_bytes (table_of t)) ≡ whole_size t
table_size t words few = table_length (table_of t) ∙ rw (words_there t words few)

-- as it is added up, from where its operations end
pub sized_as : (t : Table) → length t.follow ≡ 32 → t.modes ≤ 32 → {end size : ℕ} → end ≡ ops_end (table_of t) → size ≡ end + length (decider_bytes (who_of t.decider))
    → length (table_bytes (table_of t)) ≡ size
sized_as t words few e f = table_size t words few ∙ ap (λ (n : ℕ). n + length (decider_bytes (who_of t.decider))) (sym e) ∙ sym f

-- the head, the operations behind it, and behind them the decider
pub table_parts : (t : Table)
    → table_bytes (table_of t) ≡ (head_bytes (table_of t) ++ joined bytes_of_op (take t.count t.ops)) ++ decider_bytes (who_of t.decider)
unfolding table_bytes
table_parts t =
    ap (λ (l : List ℕ). head_bytes (table_of t) ++ (l ++ decider_bytes (who_of t.decider))) (joined_map op_bytes op_of (take t.count t.ops))
    ∙ sym (append_assoc (head_bytes (table_of t)) (joined bytes_of_op (take t.count t.ops)) (decider_bytes (who_of t.decider)))
