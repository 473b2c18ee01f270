-- Laws of what is written of numbers that are judged.
-- Assumes nothing.
use Rattle.std.specs.Prelude.{ℕ, ◌≤◌, ◌≡◌, List}
use Rattle.std.proofs.Common.{sym, ◌∙◌, arith}
use Rattle.rules.specs.Table as rules
use Rattle.rules.specs.Verdicts.{onwards}
use Rattle.rules.specs.Bytes.{table_bytes}
use Rattle.rules.specs.Judge.{Numbers, judge_numbers}
use Rattle.rules.specs.Answers.{Written, IsWrite, written, bytes_of, put}
use Rattle.theory.proofs.Judging.{decider_there, numbers_accepted}
use Rattle.fields.specs.Verdicts.{refusal_of, leaving}
use Rattle.fields.specs.declared.Refusal.{Refusal}
use Rattle.table.specs.Tables.{table_of, who_of}
use Rattle.table.specs.TableLaws.{who_back}
use Rattle.table.specs.declared.Table.{Table}
use Rattle.fields.specs.RefusalLaws.{refusal_is}
use Rattle.table.specs.JudgedLaws.{Took, took_back}
use Rattle.writing_head.specs.WritingHead.{Writable}
use Rattle.writing_decider.specs.WritingDecider.{Byte}

module _ (N : Numbers) {t : Table} (took : Took (judge_numbers N) t) where
  abbrev fine : rules.Accepted took.table
  fine = numbers_accepted N took.table took.said

  pub took_writable : Writable t × (t.count ≤ 32) × Byte (who_of t.decider)
  took_writable =
      rw took.held (
        record { boards = omega (arith, fine.boards_high); cells = omega (arith, fine.cells_high); modes = fine.modes_high },
        fine.ops_high,
        λ d e.
            omega (
              arith,
              fine.ops_high,
              decider_there took.table took.table.decider fine.decided d (sym (who_back took.table.decider) ∙ e),
            ),
      )

  pub took_written : (out : List ℕ) {w : Written} → w ≡ put (table_bytes (table_of t)) out → IsWrite N out w
  unfolding written bytes_of onwards
  took_written out e = rw (took.said, ← took_back took fine.words) e

pub refused_written : (N : Numbers) (q : Refusal) (out : List ℕ) → judge_numbers N ≡ refusal_of q
    → IsWrite N out (leaving (refusal_of q) out)
unfolding written bytes_of onwards
refused_written N q out e = let (n, a, b, x, y) = refusal_is {A = rules.Table} {B = ℕ} q in rw (e ∙ x, y)
