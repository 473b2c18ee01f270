-- The remainder is what the whole quotient leaves.
-- Assumes nothing.
use Prim.Native.Nat.{ℕ, ◌-◌, ◌*◌, ◌/◌, ◌%◌}
use mathlib.Core.Path.{◌≡◌, ap}
use native.Mathlib.Nat.{div-add-mod'}
use native.Mathlib.Omega.{arith}
use Rattle.rules.specs.Rows.{ticks, cycles}
use Rattle.rows.proofs.fold.Goals as goal

pub returns : goal.returns
returns c =
    let a = c.args.t.0 in
    let q = c.args.q.0 in
    let e : a % q ≡ a - a / q * q = omega (arith, div-add-mod' a q) in
    ap (λ (s : ℕ). record { start = ticks s; fst = cycles (a / q) }) e
