-- Both numbers are small, so the signed subtraction is exact.
-- Assumes nothing.
use Prim.Native.Nat.{◌^◌}
use native.Mathlib.Omega.{arith}
use mir.Facts.{to_z_pos, to_z-of_z}
use mir.Syntax.{w32}
use Rattle.theory.proofs.Margins.{mag_diff}
use Rattle.margins.proofs.diff.Goals as goal

pub overflow_cast-result : goal.overflow_cast-result
overflow_cast-result c = record { sfits = omega (arith, c.requires.0, c.requires.1) }

pub overflow_cast-result-2 : goal.overflow_cast-result-2
overflow_cast-result-2 c = record { sfits = omega (arith, c.requires.0, c.requires.1) }

pub overflow_sub-result : goal.overflow_sub-result
overflow_sub-result c = rw (to_z_pos w32 c.requires.0, to_z_pos w32 c.requires.1) (record { sfits = mag_diff _ _ (2 ^ 31) c.requires.0 c.requires.1 })

pub returns : goal.returns
returns c =
    rw (to_z_pos w32 c.requires.0, to_z_pos w32 c.requires.1) (to_z-of_z {w = w32} (record { sfits = mag_diff _ _ (2 ^ 31) c.requires.0 c.requires.1 }))
