-- Each number is read at its place.
-- Assumes nothing.
use Prim.Native.Nat.{ℕ, ◌+◌, ◌≤◌}
use mathlib.Core.Path.{ap}
use native.Mathlib.Omega.{arith}
use lib.ListN.{length}
use Rattle.theory.proofs.Judging.{form_least}
use Rattle.reading_ops.specs.ReadingOpLaws.{sets_last, op_read}
use Rattle.reading_ops.proofs.read_op.Goals as goal

pub be16-requires : goal.be16-requires
be16-requires c =
    let far : c.args.at + 21 ≤ length c.args.s.now
    = omega (arith, c.requires, form_least c.args.held) in
    omega (arith, far)

pub be16-requires-2 : goal.be16-requires-2
be16-requires-2 c =
    let far : c.args.at + 21 ≤ length c.args.s.now
    = omega (arith, c.requires, form_least c.args.held) in
    omega (arith, far)

pub hold_at-requires : goal.hold_at-requires
hold_at-requires c =
    let far : c.args.at + 21 ≤ length c.args.s.now
    = omega (arith, c.requires, form_least c.args.held) in
    far

pub be16-requires-3 : goal.be16-requires-3
be16-requires-3 c =
    let inside : let a = c.args in a.at + c.used_place.result + 14 ≤ length a.s.now
    = let s = c in omega (arith, s.requires, c.used_place.ensures.0, sets_last s.args.held) in
    omega (arith, inside)

pub be32-requires : goal.be32-requires
be32-requires c =
    let inside : let a = c.args in a.at + c.used_place.result + 14 ≤ length a.s.now
    = let s = c in omega (arith, s.requires, c.used_place.ensures.0, sets_last s.args.held) in
    omega (arith, inside)

pub be32-requires-2 : goal.be32-requires-2
be32-requires-2 c =
    let inside : let a = c.args in a.at + c.used_place.result + 14 ≤ length a.s.now
    = let s = c in omega (arith, s.requires, c.used_place.ensures.0, sets_last s.args.held) in
    omega (arith, inside)

pub be32-requires-3 : goal.be32-requires-3
be32-requires-3 c =
    let inside : let a = c.args in a.at + c.used_place.result + 14 ≤ length a.s.now
    = let s = c in omega (arith, s.requires, c.used_place.ensures.0, sets_last s.args.held) in
    omega (arith, inside)

pub returns : goal.returns
returns c =
    let a = c.args in
    let hold = c.hold_at.ensures in (
      rw (c.be16.ensures.0, c.be16-2.ensures.0, hold.1, c.be16-3.ensures.0, c.be32.ensures, c.be32-2.ensures, c.be32-3.ensures)
          (op_read a.held a.s.now a.at _ (ap (λ (n : ℕ). a.at + n) c.used_place.ensures.0)),
      hold.0,
    )
