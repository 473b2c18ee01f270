-- The tests of EARLY, by the count of modes.
-- Assumes nothing.
use Rattle.std.specs.Prelude.{ℕ, ◌+◌, ◌^◌, ◌<◌, ◌≡◌, Bool, not, ◌&&◌, eqb, ltb}
use Rattle.rules.specs.Table.{Op, decides, Table, nops, op, end_of}
use Rattle.rules.specs.Verdicts.{EARLY, Test, refuse_if, each}
use Rattle.rules.specs.Judge.{early}
use Rattle.table.specs.Tables.{who_of}
use Rattle.table.specs.declared.Table as code

-- an operation that runs in every one of n modes
abbrev pub always_in : ℕ → Op → Bool
always_in n o = eqb (o.modes + 1) (2 ^ n)

-- one that does not, and starts before the end of u
abbrev pub early_in : ℕ → Op → Op → Bool
early_in n u o = not (always_in n o) && ltb o.start (end_of u)

-- each operation tested against the decider d, the lowest first
unfoldable pub early_from : Table → ℕ → Test
early_from T d = each (λ i. refuse_if (early T (op T d) (op T i)) EARLY d i) 0 (nops T)

-- a decider that is named is one of the operations that count
abbrev pub Named : code.Table → Type 0
Named t = (d : ℕ) → who_of t.decider ≡ decides d → d < t.count
