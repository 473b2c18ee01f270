-- A table handed over as numbers: its judgement before CLASH, RACE and EARLY, in the steps in which the code takes it.
-- Assumes nothing.
use Rattle.std.specs.Prelude.{ℕ, ◌^◌, ◌<◌, ◌≡◌, List, length, get_or}
use Rattle.rules.specs.Table.{Table}
use Rattle.rules.specs.Verdicts.{Verdict, ◌then◌, onwards}
use Rattle.rules.specs.Judge.{Numbers, head_of_numbers, decider_of, numbers_test}
use Rattle.deciders.specs.Deciders.{handed_of}
use Rattle.handed_ops.specs.HandedOps.{handed_ops, SmallCounts}
use Rattle.handed.specs.declared.Numbers as code

-- the numbers, as they are handed over
abbrev pub numbers : ℕ → ℕ → ℕ → ℕ → ℕ → List ℕ → List ℕ → List ℕ → ℕ → ℕ → Numbers
numbers len boards cells modes first follow ops holds mark decider =
    record {
      len = len;
      boards = boards;
      cells = cells;
      modes = modes;
      first = first;
      follow = follow;
      ops = ops;
      holds = holds;
      mark = mark;
      decider = decider;
    }

abbrev pub numbers_of : code.Numbers → Numbers
numbers_of n = numbers n.len n.boards n.cells n.modes n.first n.follow.now n.ops.now n.holds.now n.mark n.decider

-- the judgement of the numbers up to the operations
unfoldable pub numbers_verdict : Numbers → Verdict Table
numbers_verdict N = numbers_test N then handed_ops (head_of_numbers N) N.ops N.holds

-- and of all numbers, without that of the whole
unfoldable pub whole_verdict : Numbers → Verdict Table
whole_verdict N = onwards (numbers_verdict N) (handed_of (decider_of N))

-- ---- numbers that fit the code's

abbrev pub SmallWords : List ℕ → Type 0
SmallWords ws = (a : ℕ) → a < length ws → get_or ws a 0 < 2 ^ 32

pub record Small (H : Table) : Type 0 where
  pub len : H.len < 2 ^ 32
  pub counts : SmallCounts H.boards H.cells H.modes
  pub first : H.first < 2 ^ 32
  pub words : length H.follow ≡ H.modes
  pub follow : SmallWords H.follow
