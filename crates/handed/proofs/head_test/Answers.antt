-- Each return is one outcome of the row of tests.
-- Assumes nothing.
use Rattle.std.proofs.Common.{ℕ, ◌∷◌, refl, sym, ap, ◌∙◌, arith}
use Rattle.std.proofs.lemmas.Result.{err_from_is_err_and}
use Rattle.rules.specs.Verdicts.{refused, ORDER}
use Rattle.theory.proofs.Ranges.{counts_within, sets_within}
use Rattle.handed.specs.Handed.{numbers_of}
use Rattle.handed.specs.HeadLaws.{test_len, test_counts, test_size, test_sets, test_none, test_some, counts_small}
use Rattle.fields.specs.FieldLaws.{place_fits}
use Rattle.handed.proofs.head_test.Goals as goal

pub returns-in_err-range_test : goal.returns-in_err-range_test
returns-in_err-range_test c =
    let p = err_from_is_err_and c.from_residual.result c.from_residual.ensures.1 in
    rw (p.1, p.2) (test_len (numbers_of c.args.n) _ (c.in_err-range_test.ensures.ruled _ c.len_wrong.ensures))

pub range_test-requires-2 : goal.range_test-requires-2
range_test-requires-2 c =
    place_fits _ 5 _ c.counts_wrong.ensures (omega (arith, counts_within c.args.n.boards c.args.n.cells c.args.n.modes refl))

pub returns-in_err-range_test-2 : goal.returns-in_err-range_test-2
returns-in_err-range_test-2 c =
    let e0 = c.in_ok-range_test.ensures.ruled _ c.len_wrong.ensures in
    let p = err_from_is_err_and c.from_residual-in_err-range_test-2.result c.from_residual-in_err-range_test-2.ensures.1 in
    rw (p.1, p.2) (test_counts (numbers_of c.args.n) e0 _ (c.in_err-range_test-2.ensures.ruled _ c.counts_wrong.ensures))

pub returns-then-n : goal.returns-then-n
returns-then-n c =
    let e0 = c.in_ok-range_test.ensures.ruled _ c.len_wrong.ensures in
    let e1 = c.in_ok-range_test-2.ensures.ruled _ c.counts_wrong.ensures in
    sym (test_size (numbers_of c.args.n) e0 e1 c.if-n.true)

pub overflow_cast-n : goal.overflow_cast-n
overflow_cast-n c =
    let small = counts_small _ _ _ (c.in_ok-range_test-2.ensures.ruled _ c.counts_wrong.ensures) in
    omega arith

pub sets_wrong-requires : goal.sets_wrong-requires
sets_wrong-requires c =
    let small = counts_small _ _ _ (c.in_ok-range_test-2.ensures.ruled _ c.counts_wrong.ensures) in
    (small.few_modes, omega arith)

pub range_test-requires-3 : goal.range_test-requires-3
range_test-requires-3 c =
    let small = counts_small _ _ _ (c.in_ok-range_test-2.ensures.ruled _ c.counts_wrong.ensures) in
    let within = sets_within c.args.n.modes (c.args.n.first ∷ c.args.n.follow.now) refl in
    place_fits _ 11 _ c.sets_wrong.ensures (omega (arith, within, small.few_modes, c.if-n.false))

pub returns-in_err-range_test-3 : goal.returns-in_err-range_test-3
returns-in_err-range_test-3 c =
    let e0 = c.in_ok-range_test.ensures.ruled _ c.len_wrong.ensures in
    let e1 = c.in_ok-range_test-2.ensures.ruled _ c.counts_wrong.ensures in
    let p = err_from_is_err_and c.from_residual-in_err-range_test-3.result c.from_residual-in_err-range_test-3.ensures.1 in
    rw (p.1, p.2) (test_sets (numbers_of c.args.n) e0 e1 c.if-n.false _ (c.in_err-range_test-3.ensures.ruled _ c.sets_wrong.ensures))

pub overflow_cast-n-then-none_left : goal.overflow_cast-n-then-none_left
overflow_cast-n-then-none_left c =
    let small = counts_small _ _ _ (c.in_ok-range_test-2.ensures.ruled _ c.counts_wrong.ensures) in
    omega arith

pub returns-then-none_left : goal.returns-then-none_left
returns-then-none_left c =
    let e0 = c.in_ok-range_test.ensures.ruled _ c.len_wrong.ensures in
    let e1 = c.in_ok-range_test-2.ensures.ruled _ c.counts_wrong.ensures in
    let e3 = c.in_ok-range_test-3.ensures.ruled _ c.sets_wrong.ensures in
    ap (λ (m : ℕ). refused ORDER m 0) c.ops_place.ensures
    ∙ sym (test_none (numbers_of c.args.n) e0 e1 c.if-n.false e3 (sym c.none_left.ensures ∙ c.if-none_left.true))

pub returns : goal.returns
returns c =
    let e0 = c.in_ok-range_test.ensures.ruled _ c.len_wrong.ensures in
    let e1 = c.in_ok-range_test-2.ensures.ruled _ c.counts_wrong.ensures in
    let e3 = c.in_ok-range_test-3.ensures.ruled _ c.sets_wrong.ensures in
    sym (test_some (numbers_of c.args.n) e0 e1 c.if-n.false e3 (sym c.none_left.ensures ∙ c.if-none_left.false))
