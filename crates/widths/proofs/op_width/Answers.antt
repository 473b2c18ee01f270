-- Three bytes of the header more.
-- Assumes nothing.
use native.Mathlib.Omega.{arith}
use Rattle.widths.proofs.op_width.Goals as goal

pub overflow_add-result : goal.overflow_add-result
overflow_add-result c = omega (arith, c.size.ensures.1)

pub returns : goal.returns
returns c = (omega (arith, c.size.ensures.0), omega (arith, c.size.ensures.1))
