-- The periods at which the two meet are those between the two that are marked.
-- Assumes nothing.
use Prim.Native.Nat.{◌+◌, ◌≤◌}
use native.Mathlib.Omega.{arith}
use Rattle.rules.specs.Table.{held_to}
use Rattle.columns.specs.Columns.{op_by}
use Rattle.raises.specs.Raises.{Raised, InTime}
use Rattle.marks.specs.MarkLaws.{adds_as, between, hi_short}
use Rattle.marks.proofs.mark_pair.Goals as goal

pub overflow_add-start : goal.overflow_add-start
overflow_add-start c = omega (arith, c.start.ensures, c.requires.3.leaves _ c.requires.1)

pub in_time-lo-requires : goal.in_time-lo-requires
in_time-lo-requires c =
    let p = c.requires in (
      omega (arith, c.start.ensures, p.3.leaves _ p.1),
      omega (arith, c.held.ensures, p.3.leaves _ p.2),
      p.4,
      p.5,
    )

pub in_time-hi-requires : goal.in_time-hi-requires
in_time-hi-requires c =
    let p = c.requires in (
      omega (arith, c.held-2.ensures, p.3.leaves _ p.1),
      omega (arith, c.start-2.ensures, p.3.leaves _ p.2),
      p.4,
      p.5,
    )

pub mark-requires : goal.mark-requires
mark-requires c =
    let t = c in
    let p = t.requires in
    let held : t.held-2.result ≤ 1000 = omega (arith, t.held-2.ensures, p.3.leaves _ p.1) in
    (p.0, hi_short _ _ _ _ _ t.in_time-hi.ensures p.5 held)

pub returns : goal.returns
returns c =
    let t = c in
    let s = t in
    let a = s.args in
    let cols = a.cols.now in
    let low : Raised a.q (InTime ((op_by cols a.i).start + 1) (held_to (op_by cols a.j)) a.n) s.in_time-lo.result
    = rw (s.start.ensures, s.held.ensures) at s.in_time-lo.ensures in
    let high : Raised a.q (InTime (held_to (op_by cols a.i)) (op_by cols a.j).start a.n) t.in_time-hi.result
    = rw (t.held-2.ensures, t.start-2.ensures) at t.in_time-hi.ensures in
    adds_as (between _ _ _ _ a.n a.q _ _ low high) c.mark.ensures
