-- The fields of the operations so far are stored, one behind the other, and the place is behind them.
-- Assumes nothing.
use Prim.Native.Nat.{ℕ, ◌+◌, ◌<◌, ◌≤◌}
use mathlib.Core.Path.{◌≡◌, refl, ap, ◌∙◌}
use mathlib.Core.List.{List}
use native.Mathlib.Omega.{arith}
use lib.ListN.{length, get_or}
use borrow.Author.Rules.{rules}
use Rattle.rules.specs.Bytes.{joined}
use Rattle.rules.specs.Judge.{ops_place}
use Rattle.theory.specs.Holds.{op_width}
use Rattle.theory.proofs.Judging.{size_none}
use Rattle.puts.specs.Puts.{stored}
use Rattle.puts.specs.PutLaws.{stored_length, stored_next}
use Rattle.table.specs.Tables.{op_of, blank_op}
use Rattle.table.specs.declared.Op.{Op}
use Rattle.widths.specs.WidthLaws.{size_to, size_next, size_rises}
use Rattle.writing_ops.specs.WritingOps.{bytes_of_op}
use Rattle.writing_ops.specs.WritingOpLaws.{size_bytes}
use Rattle.writing_ops.proofs.put_ops.Goals as goal

-- one operation more: where it ends, and that it ends within the operations' bytes
module _ (ops : List Op) (i count : ℕ) (long : length ops ≡ 32) (below : i < count) (few : count ≤ 32) where
  next : size_to ops (i + 1) ≡ size_to ops i + op_width (op_of (get_or ops i blank_op))
  next = size_next ops i (omega (arith, long))

  room : size_to ops (i + 1) ≤ size_to ops count
  room = size_rises ops (i + 1) count (omega arith)

pub loop-i-init : goal.loop-i-init
unfolding stored joined
loop-i-init c = (refl, omega (arith, c.ops_place-at.ensures, size_none), refl)

pub put_op-requires : goal.put_op-requires
put_op-requires c =
    let t = c.args.t in
    let i = c.loop-i.i in
    let long : length t.ops ≡ 32 = search rules in
    omega (arith, next t.ops i t.count long (omega arith) c.requires.1, room t.ops i t.count long (omega arith) c.requires.1)

pub overflow_add-at : goal.overflow_add-at
overflow_add-at c =
    let t = c.args.t in
    let i = c.loop-i.i in
    let long : length t.ops ≡ 32 = search rules in
    omega (
      arith,
      c.op_width-at.ensures.0,
      next t.ops i t.count long (omega arith) c.requires.1,
      room t.ops i t.count long (omega arith) c.requires.1,
      c.well_formed.0.0,
    )

pub loop-i-preserved : goal.loop-i-preserved
loop-i-preserved c =
    let t = c.args.t in
    let l = c.loop-i in
    let long : length t.ops ≡ 32 = search rules in (
      ap length c.put_op.ensures ∙ stored_length l.out _ _ ∙ l.invariant.0,
      omega (arith, c.op_width-at.ensures.0, next t.ops l.i t.count long (omega arith) c.requires.1),
      stored_next bytes_of_op t.ops c.args.out.now (ops_place t.modes) blank_op l.i (omega (arith, long))
          l.invariant.2 (omega (arith, size_bytes t.ops l.i)) c.put_op.ensures,
    )
