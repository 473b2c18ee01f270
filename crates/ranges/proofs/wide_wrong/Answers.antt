-- The dates decide where one of them is wrong, and the sets where none is.
-- Assumes nothing.
use Rattle.std.proofs.Common.{◌≡◌, ℕ, ◌<◌, sym, ap, ◌∙◌, subst, is_some, arith}
use Rattle.fields.specs.Fields.{IsPlace}
use Rattle.ranges.specs.Ranges.{wide_of, sized, dates_of, used_at, sets_of}
use Rattle.ranges.specs.RangeLaws.{op_dates, op_sets}
use Rattle.ranges.proofs.wide_wrong.Goals as goal

pub returns-in-Some : goal.returns-in-Some
returns-in-Some c =
    let o = wide_of c.args.w in
    let held = is_some c.args.w.hold in
    let (e, some) : (c.in-Some.place ≡ dates_of c.args.counts.len held o) × (0 < c.in-Some.place) = c.in-Some.ensures in
    (e ∙ sym (op_dates (sized c.args.counts) o held (λ h. omega arith)), some)

pub returns-in-None : goal.returns-in-None
returns-in-None c =
    let T = sized c.args.counts in
    let o = wide_of c.args.w in
    let held = is_some c.args.w.hold in
    let place : c.used_place.result ≡ _ = c.used_place.ensures.0 ∙ ap (λ b. used_at b) c.is_some.ensures in
    let sets = ap (λ (at : ℕ). sets_of T at o) place ∙ sym (op_sets T o held (sym c.in-None.ensures)) in
    subst (λ (n : ℕ). IsPlace c.used_wrong.result n) sets c.used_wrong.ensures
