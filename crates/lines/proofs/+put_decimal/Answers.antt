-- A number of one digit is that digit; of a larger one the digits but the last are put first.
-- Assumes nothing.
use Prim.Native.Nat.{◌<◌, ◌≤◌}
use mathlib.Core.Path.{◌≡◌}
use native.Mathlib.Omega.{arith}
use lib.ListN.{length}
use Rattle.theory.proofs.Text.{decimal_some, decimal_grows}
use Rattle.lines.specs.LineLaws.{digit_only, digit_last}
use Rattle.lines.proofs.+put_decimal.Goals as goal

pub bounds-out-at : goal.bounds-out-at
bounds-out-at t c = omega (arith, decimal_some c.args.n)

pub returns-then-n-lt10 : goal.returns-then-n-lt10
returns-then-n-lt10 t c =
    let a = c.args in
    let small : a.n < 10 = omega arith in
    digit_only a.out.now a.at a.n small

pub put_decimal-end-requires : goal.put_decimal-end-requires
put_decimal-end-requires t c =
    let large : 10 ≤ c.args.n = c.if-n-lt10.false in
    (omega arith, omega (arith, decimal_grows c.args.n large))

pub bounds-out-end : goal.bounds-out-end
bounds-out-end t c =
    let put = c.put_decimal-end in
    let large : 10 ≤ c.args.n = c.if-n-lt10.false in
    let long : length put.new.out ≡ length c.args.out.now = put.auto.out in
    omega (arith, put.ensures.1, decimal_grows c.args.n large, c.requires)

pub overflow_add-result-2 : goal.overflow_add-result-2
overflow_add-result-2 t c =
    let put = c.put_decimal-end in
    let large : 10 ≤ c.args.n = c.if-n-lt10.false in
    omega (arith, put.ensures.1, decimal_grows c.args.n large, c.requires)

pub returns : goal.returns
returns t c =
    let a = c.args in
    digit_last a.out.now a.at a.n c.if-n-lt10.false c.put_decimal-end.ensures
