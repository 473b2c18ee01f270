-- A header that is cut tells no length; else the length is read.
-- Assumes nothing.
use Prim.Native.Nat.{ℕ, ◌+◌, ◌<◌}
use mathlib.Core.Path.{ap}
use native.Mathlib.Omega.{arith}
use lib.Dec.{eqb}
use lib.ListN.{length}
use Rattle.reading_ops.specs.ReadingOpLaws.{cut_plain}
use Rattle.reading_ops.proofs.held_at.Goals as goal

pub returns-then-s-at-lt3 : goal.returns-then-s-at-lt3
returns-then-s-at-lt3 c =
    let a = c.args in
    let h : length a.s.now < a.at + 3 = omega arith in
    cut_plain a.s.now a.at h

pub returns : goal.returns
returns c = ap (λ (x : ℕ). eqb x 20) c.be16.ensures.0
