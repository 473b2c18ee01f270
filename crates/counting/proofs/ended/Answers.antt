-- Those of the visited operations that end by the date, and those of what is left, are all that do.
-- Assumes nothing.
use mathlib.Core.Path.{◌≡◌}
use native.Mathlib.Omega.{arith}
use Rattle.theory.proofs.Sets.{in_small}
use Rattle.sets.specs.Members.{rest_less}
use Rattle.counting.specs.Counting.{ended_of}
use Rattle.counting.specs.CountingLaws.{ended_none, ended_few, ended_with_lem, ended_without}
use Rattle.counting.proofs.ended.Goals as goal

pub end-requires : goal.end-requires
end-requires c = (in_small _ 32 _ (omega arith) c.in-Some.ensures.steps.0.member, c.requires)

pub overflow_add-n : goal.overflow_add-n
overflow_add-n c =
    let a = c.args in
    omega (arith, ended_few a.cols.now a.ops a.by)

pub loop-u-preserved-then-end-by : goal.loop-u-preserved-then-end-by
loop-u-preserved-then-end-by c =
    let (lowest, left) = c.in-Some.ensures.steps in
    let u = c.in-Some.u in
    let a = c.args in
    let before = c.loop-u.u-iterator.0 in
    let small = in_small u 32 _ (omega arith) lowest.member in
    let counted = ended_with_lem a.cols.now before u lowest.member small a.by (omega (arith, c.if-end-by.true, c.end.ensures)) in
    rw left (omega (arith, rest_less before u lowest.member), omega (arith, counted))

pub loop-u-preserved : goal.loop-u-preserved
loop-u-preserved c =
    let (lowest, left) = c.in-Some.ensures.steps in
    let u = c.in-Some.u in
    let a = c.args in
    let before = c.loop-u.u-iterator.0 in
    let small = in_small u 32 _ (omega arith) lowest.member in
    let counted = ended_without a.cols.now before u lowest.member small a.by (omega (arith, c.if-end-by.false, c.end.ensures)) in
    rw left (omega (arith, rest_less before u lowest.member), omega (arith, counted))

pub returns : goal.returns
returns c =
    let i = c.loop-u in
    let a = c.args in
    let none : ended_of a.cols.now i.u-iterator.0 a.by ≡ 0 = rw c.in-None.ensures.steps.0 (ended_none a.cols.now a.by) in
    (omega (arith, i.invariant.1), omega (arith, i.invariant.1, ended_few a.cols.now a.ops a.by))
