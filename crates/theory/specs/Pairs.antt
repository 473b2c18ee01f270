-- The pair of operations that a refusal names: "over all pairs, by lower number and then higher".
-- Assumes nothing.
use Rattle.std.specs.Prelude.{ℕ, ◌<◌, ◌≡◌, Bool, true, false}
use Rattle.rules.specs.Table.{Op, Table, nops, op}

-- i and j are hit, no pair with a lower first number is, and no pair of i with a lower second number is
pub record FirstPair (hit : Op → Op → Bool) (T : Table) (i j : ℕ) : Type 0 where
  pub less : i < j
  pub within : j < nops T
  pub holds : hit (op T i) (op T j) ≡ true
  pub rows : (k l : ℕ) → k < i → k < l → l < nops T → hit (op T k) (op T l) ≡ false
  pub row : (l : ℕ) → i < l → l < j → hit (op T i) (op T l) ≡ false
