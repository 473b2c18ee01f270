-- The operations so far are those that come before the rest, and the table holds them.
-- Assumes nothing.
use Rattle.std.proofs.Common.{◌≡◌, ap, ◌∙◌, arith}
use Rattle.rules.specs.Bytes.{op_size}
use Rattle.rules.specs.Judge.{size_at}
use Rattle.fields.specs.RefusalLaws.{err_again}
use Rattle.table.specs.JudgedLaws.{denied}
use Rattle.heads.specs.HeadLaws.{head_fits}
use Rattle.reading.specs.ReadingLaws.{first_place, so_none, so_few, head_few, done_is, at_inside, next_bad, next_more, so_end}
use Rattle.reading.proofs.read_ops.Goals as goal

pub read_head-t-requires : goal.read_head-t-requires
read_head-t-requires c = c.requires

pub invariant_of-counts : goal.invariant_of-counts
invariant_of-counts c =
    let few = head_few c.read_head-t.ensures (head_fits c.args.s.now c.requires) in
    record { few_boards = few.0; few_cells = few.1; few_modes = few.2 }

pub loop-counts-init : goal.loop-counts-init
loop-counts-init c =
    let e = c.read_head-t.ensures in
    (c.ops_place-first.ensures ∙ first_place _ _ e, rw c.ops_place-first.ensures (so_none _ _ e))

pub held_at-held-requires : goal.held_at-held-requires
held_at-held-requires c = omega (arith, at_inside c.loop-counts.invariant.1 c.read_head-t.ensures c.loop-counts.invariant.0 c.ops_done.ensures c.loop-counts-test.true)

pub overflow_sub-k : goal.overflow_sub-k
overflow_sub-k c = omega (arith, so_few c.loop-counts.invariant.1)

pub next_op-requires : goal.next_op-requires
next_op-requires c = (at_inside c.loop-counts.invariant.1 c.read_head-t.ensures c.loop-counts.invariant.0 c.ops_done.ensures c.loop-counts-test.true, c.held_at-held.ensures)

pub returns-in_err-t : goal.returns-in_err-t
returns-in_err-t c =
    let r = c.in_err-t.field-0.0 in
    rw (err_again c.from_residual.result r c.from_residual.ensures.1, next_bad c.loop-counts.invariant.1 c.read_head-t.ensures c.loop-counts.invariant.0 c.ops_done.ensures c.loop-counts-test.true r c.in_err-t.ensures) (denied r)

pub bounds-t-k : goal.bounds-t-k
bounds-t-k c = (next_more c.loop-counts.invariant.1 c.read_head-t.ensures c.loop-counts.invariant.0 c.ops_done.ensures c.loop-counts-test.true _ c.in_ok-t.ensures).some

pub loop-counts-preserved : goal.loop-counts-preserved
loop-counts-preserved c =
    let more = next_more c.loop-counts.invariant.1 c.read_head-t.ensures c.loop-counts.invariant.0 c.ops_done.ensures c.loop-counts-test.true _ c.in_ok-t.ensures in
    let stepped : c.size.result ≡ size_at c.args.s.now c.loop-counts.at = c.size.ensures.0 ∙ ap op_size c.held_at-held.ensures in
    (c.loop-counts.invariant.0, rw stepped more.so)

pub returns : goal.returns
returns c = so_end c.loop-counts.invariant.1 (done_is _ _ _ c.loop-counts.invariant.0 c.ops_done.ensures ∙ c.loop-counts-test.false)
