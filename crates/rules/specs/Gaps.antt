-- Document 02, No. 6, "Cycles started by the operator": which gaps serve, and the smallest of them.
-- Assumes nothing.
use Rattle.std.specs.Prelude.{ℕ, suc, ◌+◌, ◌<◌, ◌≤◌}
use Rattle.rules.specs.Table.{Table}
use Rattle.rules.specs.Runs.{RightAt}

-- "Some models start a cycle on a button, never sooner than a stated gap": s gives the date at which each cycle starts, and each next start
-- is g or more later. It does not matter when the first cycle starts (`first_at_0`, in the crate `theory`).
pub record Apart (g : ℕ) (s : ℕ → ℕ) : Type 0 where
  pub next : (k : ℕ) → s k + g ≤ s (suc k)

-- "every sequence of gaps, each at least that long, is right in every run, with rightness as in document 01 and the cycle starts moved
-- accordingly". This is said of every number g: "from 1 to p" stands in IsGap.
abbrev pub Serves : Table → ℕ → Type 0
Serves T g = (s : ℕ → ℕ) → Apart g s → RightAt T s

-- "the smallest gap from 1 to p such that every sequence of gaps .. is right"
pub record IsGap (T : Table) (g : ℕ) : Type 0 where
  pub low : 1 ≤ g
  pub high : g ≤ T.len
  pub serves : Serves T g
  pub least : (shorter : ℕ) → 1 ≤ shorter → shorter < g → Serves T shorter → ⊥
