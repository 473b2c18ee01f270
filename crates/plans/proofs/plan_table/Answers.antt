-- The room is told from the count of operations; the reply is written when it fits.
-- Assumes nothing.
use Prim.Native.Nat.{ℕ, ◌+◌, ◌*◌}
use mathlib.Core.Path.{ap}
use native.Mathlib.Omega.{arith}
use Rattle.table.specs.Tables.{table_of}
use Rattle.table.specs.TableLaws.{good_few, good_count}
use Rattle.plans.specs.Plans.{plans_short, plans_room}
use Rattle.plans.proofs.plan_table.Goals as goal

-- "A reply has 5 + 7·operations bytes."
abbrev size : ℕ → ℕ
size count = 5 + 7 * count

pub overflow_mul-needed : goal.overflow_mul-needed
overflow_mul-needed c = omega (arith, good_few _ c.requires)

pub overflow_add-needed : goal.overflow_add-needed
overflow_add-needed c = omega (arith, good_few _ c.requires)

pub returns-then-out-needed : goal.returns-then-out-needed
returns-then-out-needed c =
    let start = c in
    let t = start.args.t in
    plans_short (table_of t) start.args.out.now start.requires.accepted _ (ap size (good_count t start.requires)) c.if-out-needed.true

pub put_reply-requires : goal.put_reply-requires
put_reply-requires c =
    let found = c.smallest-q.ensures in
    let good = c.requires in
    let some = good.accepted.len_low in
    (good, omega (arith, found.low, some), omega (arith, found.high, some), c.if-out-needed.false)

pub returns : goal.returns
returns c =
    let smallest = c in
    let start = smallest in
    let t = start.args.t in
    plans_room (table_of t) start.args.out.now smallest.smallest-q.result _ _ smallest.smallest-q.ensures
    (ap size (good_count t start.requires)) smallest.if-out-needed.false c.put_reply.ensures
