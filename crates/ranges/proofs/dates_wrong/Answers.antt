-- The tests in the order of the definition; the dates are compared without a sum that could wrap.
-- Assumes nothing.
use Rattle.std.proofs.Common.{◌≡◌, ℕ, ◌+◌, ◌<◌, ◌≤◌, Option, None, Some, sym, ap, ◌∙◌, is_some, arith}
use Rattle.std.proofs.Math.Path.{subst⁻¹}
use Rattle.fields.specs.Fields.{IsPlace}
use Rattle.ranges.specs.declared.Wide.{Wide}
use Rattle.ranges.specs.Ranges.{wide_of, dates_of}
use Rattle.ranges.specs.RangeLaws.{start_large, no_time, late, dates_plain, no_hold, held_past, dates_held}
use Rattle.ranges.proofs.dates_wrong.Goals as goal

-- the dates with the hold that there is, or none
hold_is : (len : ℕ) (w : Wide) (h : Option ℕ) → w.hold ≡ h → dates_of len (is_some w.hold) (wide_of w) ≡ dates_of len (is_some h) (wide_of (record w { hold = h }))
hold_is len w h e = ap (λ (x : Option ℕ). dates_of len (is_some x) (wide_of (record w { hold = x }))) e

pub returns-then-w-gt65535 : goal.returns-then-w-gt65535
returns-then-w-gt65535 c = (sym (start_large c.args.len (wide_of c.args.w) (is_some c.args.w.hold) c.if-w-gt65535.true), omega arith)

pub returns-then-w-lt-LEAST_DUR : goal.returns-then-w-lt-LEAST_DUR
returns-then-w-lt-LEAST_DUR c =
    let fits : c.args.w.start < 65536 = omega arith in
    let none : c.args.w.dur < 1 = omega arith in
    (sym (no_time c.args.len (wide_of c.args.w) fits (is_some c.args.w.hold) none), omega arith)

pub returns-then-p-w : goal.returns-then-p-w
returns-then-p-w c =
    let fits : c.args.w.start < 65536 = omega arith in
    let some : 1 ≤ c.args.w.dur = omega arith in
    let past : c.args.len < c.args.w.start + c.args.w.dur = omega arith in
    (sym (late c.args.len (wide_of c.args.w) fits (is_some c.args.w.hold) some past), omega arith)

pub returns-then-p-w-2 : goal.returns-then-p-w-2
returns-then-p-w-2 c =
    let fits : c.args.w.start < 65536 = omega arith in
    let some : 1 ≤ c.args.w.dur = omega arith in
    let past : c.args.len < c.args.w.start + c.args.w.dur = omega arith in
    (sym (late c.args.len (wide_of c.args.w) fits (is_some c.args.w.hold) some past), omega arith)

pub returns-in_err-hold : goal.returns-in_err-hold
returns-in_err-hold c =
    let fits : c.args.w.start < 65536 = omega arith in
    let some : 1 ≤ c.args.w.dur = omega arith in
    let ends : c.args.w.start + c.args.w.dur ≤ c.args.len = omega arith in
    let plain = hold_is c.args.len c.args.w None c.in_err-hold.was ∙ dates_plain c.args.len (wide_of (record c.args.w { hold = None })) fits some ends in
    subst⁻¹ (λ (r : Option ℕ). IsPlace r (dates_of c.args.len (is_some c.args.w.hold) (wide_of c.args.w))) c.from_residual.ensures (sym plain)

pub returns-then-hold-lt-LEAST_HOLD : goal.returns-then-hold-lt-LEAST_HOLD
returns-then-hold-lt-LEAST_HOLD c =
    let fits : c.args.w.start < 65536 = omega arith in
    let some : 1 ≤ c.args.w.dur = omega arith in
    let ends : c.args.w.start + c.args.w.dur ≤ c.args.len = omega arith in
    let none : c.in_ok-hold.hold < 1 = omega arith in
    let held = hold_is c.args.len c.args.w (Some c.in_ok-hold.hold) c.in_ok-hold.was in
    (sym (held ∙ no_hold c.args.len (wide_of (record c.args.w { hold = Some c.in_ok-hold.hold })) fits some ends none), omega arith)

pub returns-then-p-w-3 : goal.returns-then-p-w-3
returns-then-p-w-3 c =
    let fits : c.args.w.start < 65536 = omega arith in
    let some : 1 ≤ c.args.w.dur = omega arith in
    let ends : c.args.w.start + c.args.w.dur ≤ c.args.len = omega arith in
    let past : c.args.len < c.args.w.start + c.args.w.dur + c.in_ok-hold.hold = omega arith in
    let settles : 1 ≤ c.in_ok-hold.hold = omega arith in
    let held = hold_is c.args.len c.args.w (Some c.in_ok-hold.hold) c.in_ok-hold.was in (
      sym (held ∙ held_past c.args.len (wide_of (record c.args.w { hold = Some c.in_ok-hold.hold })) fits some ends settles past),
      omega arith,
    )

pub returns : goal.returns
returns c =
    let fits : c.args.w.start < 65536 = omega arith in
    let some : 1 ≤ c.args.w.dur = omega arith in
    let ends : c.args.w.start + c.args.w.dur ≤ c.args.len = omega arith in
    let within : c.args.w.start + c.args.w.dur + c.in_ok-hold.hold ≤ c.args.len = omega arith in
    let settles : 1 ≤ c.in_ok-hold.hold = omega arith in
    let held = hold_is c.args.len c.args.w (Some c.in_ok-hold.hold) c.in_ok-hold.was in
    sym (held ∙ dates_held c.args.len (wide_of (record c.args.w { hold = Some c.in_ok-hold.hold })) fits some ends settles within)
