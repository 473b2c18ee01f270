-- A hold that is there asks for the form with a hold.
-- Assumes nothing.
use mathlib.Core.Path.{refl, ap, ◌∙◌}
use native.Mathlib.Omega.{arith}
use Prim.Native.Nat.{ℕ}
use mathlib.Core.List.{List}
use Rattle.table.specs.Tables.{op_of}
use Rattle.puts.specs.Puts.{stored}
use Rattle.writing_ops.specs.WritingOpLaws.{form_bytes}
use Rattle.writing_ops.proofs.put_op.Goals as goal

pub put_form-requires : goal.put_form-requires
put_form-requires c = omega (arith, c.requires)

pub returns : goal.returns
returns c = c.put_form.ensures ∙ ap (λ (l : List ℕ). stored c.args.out.now c.args.at l) (form_bytes (op_of c.args.o) _ refl)
