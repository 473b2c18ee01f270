-- Each number is in range, and so fits 32 bits.
-- Assumes nothing.
use Rattle.std.proofs.Common.{◌≡◌, ◌^◌, ◌<◌, arith, is_some}
use Rattle.rules.specs.Judge.{op_wrong}
use Rattle.ranges.specs.Ranges.{wide_of, sized}
use Rattle.ranges.specs.RangeLaws.{OpSmall, op_small, wide_plain}
use Rattle.ranges.specs.declared.in_range.Counts.{Counts}
use Rattle.ranges.specs.declared.Wide.{Wide}
use Rattle.ranges.proofs.narrow.Goals as goal

small : (counts : Counts) (w : Wide) → counts.len < 2 ^ 32 → op_wrong (sized counts) (is_some w.hold) (wide_of w) ≡ 0 → OpSmall (wide_of w)
small counts w h e =
    op_small (sized counts) (is_some w.hold) (wide_of w) h (counts.few_boards, counts.few_cells, counts.few_modes) (wide_plain w) e

pub overflow_cast-result : goal.overflow_cast-result
overflow_cast-result c =
    let h : c.args.counts.len < 2 ^ 32 = omega arith in
    let fits = small c.args.counts c.args.w h c.requires in
    omega (arith, fits.start)

pub overflow_cast-result-2 : goal.overflow_cast-result-2
overflow_cast-result-2 c =
    let h : c.args.counts.len < 2 ^ 32 = omega arith in
    let fits = small c.args.counts c.args.w h c.requires in
    omega (arith, fits.dur)

pub overflow_cast-result-3 : goal.overflow_cast-result-3
overflow_cast-result-3 c =
    let h : c.args.counts.len < 2 ^ 32 = omega arith in
    let fits = small c.args.counts c.args.w h c.requires in
    omega (arith, fits.hold)

pub overflow_cast-result-4 : goal.overflow_cast-result-4
overflow_cast-result-4 c =
    let h : c.args.counts.len < 2 ^ 32 = omega arith in
    let fits = small c.args.counts c.args.w h c.requires in
    omega (arith, fits.boards)

pub overflow_cast-result-5 : goal.overflow_cast-result-5
overflow_cast-result-5 c =
    let h : c.args.counts.len < 2 ^ 32 = omega arith in
    let fits = small c.args.counts c.args.w h c.requires in
    omega (arith, fits.reads)

pub overflow_cast-result-6 : goal.overflow_cast-result-6
overflow_cast-result-6 c =
    let h : c.args.counts.len < 2 ^ 32 = omega arith in
    let fits = small c.args.counts c.args.w h c.requires in
    omega (arith, fits.writes)

pub overflow_cast-result-7 : goal.overflow_cast-result-7
overflow_cast-result-7 c =
    let h : c.args.counts.len < 2 ^ 32 = omega arith in
    let fits = small c.args.counts c.args.w h c.requires in
    omega (arith, fits.modes)
