-- Starts of cycles that are so far apart.
-- Assumes nothing.
use Prim.Native.Nat.{ℕ, zero, suc, ◌+◌, ◌*◌, ◌≤◌}
use mathlib.Core.Path.{◌≡◌, ap}
use native.Mathlib.Omega.{arith}
use Rattle.rules.specs.Runs.{spaced}
use Rattle.rules.specs.Gaps.{Apart}

-- equal gaps of p are gaps of q or more
pub spaced_apart : {q p : ℕ} → q ≤ p → Apart q (spaced p)
spaced_apart h = record { next = λ k. omega arith }

-- starts that are farther apart are so far apart
pub apart_less : {g h : ℕ} {s : ℕ → ℕ} → g ≤ h → Apart h s → Apart g s
apart_less l x = record { next = λ k. omega (arith, x.next k) }

-- n + 1 cycles later it is n + 1 gaps later
pub apart_turns : {g : ℕ} {s : ℕ → ℕ} → Apart g s → (n k l : ℕ) → l ≡ suc (k + n) → s k + suc n * g ≤ s l
apart_turns {g} {s} x zero k l e = let same : suc k ≡ l = omega arith in omega (arith, x.next k, ap s same)
apart_turns {g} {s} x (suc n) k l e = omega (arith, x.next k, apart_turns x n (suc k) l (omega arith))
