-- They share a board exactly where the two sets meet, and the rest is the last comparison.
-- Assumes nothing.
use Prim.Native.Nat.{◌+◌}
use mathlib.Core.Path.{◌≡◌}
use native.Mathlib.Omega.{arith}
use Rattle.rules.specs.Sets.{shares}
use Rattle.theory.proofs.Says.{says_ltb, says_and}
use Rattle.theory.proofs.Sets.{says_shares}
use Rattle.columns.specs.Columns.{op_by}
use Rattle.laters.proofs.may_meet.Goals as goal

pub overflow_add-result : goal.overflow_add-result
overflow_add-result c =
    let p = c.requires in
    omega (arith, c.start.ensures, p.2.leaves _ p.1, p.3)

pub returns : goal.returns
returns c =
    let a = c.args in
    let cols = a.cols.now in
    let shared : c.meets-shared.result ≡ shares (op_by cols a.i).boards (op_by cols a.j).boards
    = rw (c.boards.ensures, c.boards-2.ensures) at c.meets-shared.ensures in
    let said = says_ltb (c.start.result + a.q) c.held.result in
    let both = says_and _ _ (rw shared (says_shares (op_by cols a.i).boards (op_by cols a.j).boards)) said in (
      λ e. ((both.0 e).0, omega (arith, (both.0 e).1, c.start.ensures, c.held.ensures)),
      λ h. both.1 (h.0, omega (arith, h.1, c.start.ensures, c.held.ensures)),
    )
