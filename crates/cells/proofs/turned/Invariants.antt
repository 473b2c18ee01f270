-- The first k operations are in the sets of their cells.
-- Assumes nothing.
use Rattle.std.proofs.Common.{◌≡◌, ℕ, length}
use Rattle.std.specs.Fn.{FnReturnsAt}
use Rattle.columns.specs.declared.Dated.{Dated}
use Rattle.columns.specs.Columns.{dates}
use Rattle.cells.specs.UserLaws.{Turning}
use Rattle.cells.proofs.turned.Given as goal

abbrev pub invariant-loop-k : goal.invariant-loop-k
invariant-loop-k g l = (length l.users ≡ 32) × ((sets : Dated → ℕ) → ((d : Dated) (r : ℕ) → FnReturnsAt g.F.Fn l.of d r → r ≡ sets d) → Turning (λ k. sets (dates l.cols k)) l.k l.users)
