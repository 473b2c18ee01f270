-- The product of two numbers of 16 bits and one more fits 32 bits.
-- Assumes nothing.
use Prim.Native.Nat.{◌≤◌}
use native.Mathlib.Nat.{mul-le-mul}
use native.Mathlib.Omega.{arith}
use Rattle.rows.proofs.unfold.Goals as goal

pub overflow_mul-result : goal.overflow_mul-result
overflow_mul-result c =
    let q : c.args.q.0 ≤ 65535 = omega (arith, c.requires.period) in
    let s : c.args.r.start.0 ≤ 65535 = omega (arith, c.requires.start) in
    let f : c.args.r.fst.0 ≤ 65535 = omega (arith, c.requires.fst) in
    omega (arith, mul-le-mul f q, mul-le-mul s q)

pub overflow_add-result : goal.overflow_add-result
overflow_add-result c =
    let q : c.args.q.0 ≤ 65535 = omega (arith, c.requires.period) in
    let s : c.args.r.start.0 ≤ 65535 = omega (arith, c.requires.start) in
    let f : c.args.r.fst.0 ≤ 65535 = omega (arith, c.requires.fst) in
    omega (arith, mul-le-mul f q, mul-le-mul s q)
