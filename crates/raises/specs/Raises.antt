-- A bound that is raised, and what it is raised for.
-- Assumes nothing.
use Rattle.std.specs.Prelude.{ℕ, suc, ◌+◌, ◌*◌, ◌≤◌, ◌↔◌}

-- r is b raised to where Q holds: the numbers from r up are those from b up at which Q holds
pub record Raised (b : ℕ) (Q : ℕ → Type 0) (r : ℕ) : Type 0 where
  pub exact : (q : ℕ) → (r ≤ q) ↔ ((b ≤ q) × Q q)

-- at q, what ends at `end` has ended by what starts n + 1 cycles later
abbrev pub InTime : ℕ → ℕ → ℕ → ℕ → Type 0
InTime end start n q = end ≤ start + suc n * q
