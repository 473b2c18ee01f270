-- The first k operations are in their places.
-- Assumes nothing.
use Prim.Native.Nat.{◌+◌}
use mathlib.Core.Path.{◌≡◌, ◌∙◌}
use native.Mathlib.Omega.{arith}
use Rattle.rules.specs.Table.{nops}
use Rattle.columns.specs.ColumnLaws.{Filled, filled_none, filled_more, filled_all, op_in_lem, ops_count}
use Rattle.columns.proofs.columns.Goals as goal

pub loop-k-init : goal.loop-k-init
loop-k-init c = λ T e. filled_none T

pub loop-k-preserved : goal.loop-k-preserved
loop-k-preserved c = λ T e.
    let x : Filled T (c.loop-k.k + 1) _ = filled_more _ (omega arith) (op_in_lem T c.args.ops c.args.count c.loop-k.k e (omega arith)) (c.loop-k.invariant T e) in
    rw c.of.ensures x

pub returns : goal.returns
returns c = λ T e.
    let few : c.loop-k.k ≡ nops T = omega arith ∙ ops_count T c.args.ops c.args.count e (omega arith) in
    filled_all (rw few at c.loop-k.invariant T e)
