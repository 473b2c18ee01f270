-- The lines of a reply's starts, as they are written one after the other.
-- Assumes nothing.
use Rattle.std.specs.Prelude.{ℕ, ◌*◌, ◌≤◌, ◌≡◌, List, take}
use Rattle.rules.specs.Rows.{Reply, starts_of}
use Rattle.rules.specs.Verdicts.{accepted}
use Rattle.rules.specs.Judge.{judge_reply}
use Rattle.rules.specs.Text.{start_lines}
use Rattle.lines.specs.Lines.{Puts}

-- the lines of the first n starts of the reply that the bytes hold stand in front of the buffer, len bytes in all, and every other byte stays
pub record LinesPut (s : List ℕ) (n : ℕ) (out end : List ℕ) (len : ℕ) : Type 0 where
  pub short : len ≤ 23 * n
  pub lines : (R : Reply) → judge_reply s ≡ accepted R → Puts out end 0 len (start_lines 0 (take n (starts_of R)))
