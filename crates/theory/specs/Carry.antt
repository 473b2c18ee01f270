-- One table carried into another: operations by one map, modes by another. Demand 3 is a case of it, and document 02, No. 12 another.
-- Assumes nothing.
use Rattle.std.specs.Prelude.{ℕ, ◌<◌, ◌≤◌, ◌≡◌, ◌↔◌}
use Rattle.rules.specs.Sets.{In, Share}
use Rattle.rules.specs.Table.{Op, Table, nops, op, held_to, Turn}

-- o is carried to u: the same start, written cells and, by f, modes of n; o reads no cell that u does not read, and is no longer
pub record OpCarried (n : ℕ) (f : ℕ → ℕ) (o u : Op) : Type 0 where
  pub start : o.start ≡ u.start
  pub held : held_to o ≤ held_to u
  pub dur : o.dur ≤ u.dur
  pub reads : (c : ℕ) → In c o.reads → In c u.reads
  pub writes : (c : ℕ) → In c o.writes ↔ In c u.writes
  pub modes : (a : ℕ) → a < n → In a o.modes ↔ In (f a) u.modes

-- s takes the operations of S to those of T, t takes them back, f takes modes to modes
pub record Carry (S T : Table) (s t f : ℕ → ℕ) : Type 0 where
  pub len : S.len ≡ T.len
  pub there : (i : ℕ) → i < nops S → s i < nops T
  pub back : (u : ℕ) → u < nops T → t u < nops S
  pub onto : (u : ℕ) → u < nops T → s (t u) ≡ u
  pub apart : (i j : ℕ) → i < nops S → j < nops S → s i ≡ s j → i ≡ j
  pub each : (i : ℕ) → i < nops S → OpCarried S.modes f (op S i) (op T (s i))
  pub boards : (i j : ℕ) → i < nops S → j < nops S → Share (op S i).boards (op S j).boards
      → Share (op T (s i)).boards (op T (s j)).boards
  pub first : (a : ℕ) → In a S.first → In (f a) T.first
  pub turns : (a b : ℕ) → Turn S a b → Turn T (f a) (f b)
