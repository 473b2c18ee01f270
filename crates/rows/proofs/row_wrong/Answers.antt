-- The folded start is compared with the period, and the unfolded start with 999.
-- Assumes nothing.
use Prim.Native.Nat.{◌<◌, ◌≤◌}
use mathlib.Core.Path.{sym, ap}
use native.Mathlib.Omega.{arith}
use Rattle.std.proofs.lemmas.Bool.Decides.{nat_tests}
use Rattle.rules.specs.Rows.{Ticks, unfold_at}
use Rattle.theory.proofs.Ranges.{row_start, row_index, row_fine}
use Rattle.rows.specs.Rows.{ticks_of, row_of}
use Rattle.rows.proofs.row_wrong.Goals as goal

pub returns-then-le : goal.returns-then-le
returns-then-le c =
    let h : c.args.q.0 ≤ c.args.r.start.0 = grind (arith, nat_tests) in
    (sym (row_start _ _ h), omega arith)

pub returns-then-unfold-gt-LATEST : goal.returns-then-unfold-gt-LATEST
returns-then-unfold-gt-LATEST c =
    let below : c.args.r.start.0 < c.args.q.0 = grind (arith, nat_tests) in
    let far : 999 < (unfold_at (ticks_of c.args.q) (row_of c.args.r)).number =
    omega (arith, ap (λ (t : Ticks). t.number) c.unfold.ensures)
    in
    (sym (row_index _ _ below far), omega arith)

pub returns : goal.returns
returns c =
    let below : c.args.r.start.0 < c.args.q.0 = grind (arith, nat_tests) in
    let near : (unfold_at (ticks_of c.args.q) (row_of c.args.r)).number ≤ 999 =
    omega (arith, ap (λ (t : Ticks). t.number) c.unfold.ensures)
    in
    sym (row_fine _ _ below near)
