-- Neither of the six nor beside them.
-- Assumes nothing.
use Rattle.std.proofs.Common.{◌*◌, ◌<◌, ◌≤◌, length, ◌∙◌, arith}
use Rattle.std.proofs.lemmas.Bool.{lt-leb}
use Rattle.handed_ops.specs.OpsLaws.{left_of_six, left_beside}
use Rattle.handed_ops.proofs.none_left.Goals as goal

pub returns-then-ops-k : goal.returns-then-ops-k
returns-then-ops-k c =
    let h : length c.args.ops.now ≤ 6 * c.args.k = omega arith in
    left_beside c.args.ops.now c.args.holds.now c.args.k h

pub returns-else-ops-k : goal.returns-else-ops-k
returns-else-ops-k c =
    let h : 6 * c.args.k < length c.args.ops.now = omega arith in
    lt-leb (length c.args.ops.now) (6 * c.args.k) h ∙ left_of_six _ _ _ h
