-- The first test that refuses is the answer, and the last asks that something comes behind the head.
-- Assumes nothing.
use Rattle.std.proofs.Common.{ℕ, sym, ap, ◌∙◌, arith}
use Rattle.rules.specs.Verdicts.{refused, ORDER}
use Rattle.rules.specs.Judge.{ops_place}
use Rattle.fields.specs.RefusalLaws.{then_refusal}
use Rattle.fields.specs.FieldLaws.{needed_no, needed_yes}
use Rattle.heads.specs.Heads.{modes_test}
use Rattle.heads.specs.HeadLaws.{handed_back, head_tests, after_len, after_counts, after_modes}
use Rattle.heads.proofs.head_test.Goals as goal

pub returns-in_err-len_test : goal.returns-in_err-len_test
returns-in_err-len_test c =
    handed_back _ _ c.from_residual.ensures.1 (sym (head_tests _ ∙ then_refusal _ _ (sym c.in_err-len_test.ensures)))

pub returns-in_err-counts_test : goal.returns-in_err-counts_test
returns-in_err-counts_test c =
    handed_back _ _ c.from_residual-in_err-counts_test.ensures.1
    (sym (after_len _ c.in_ok-len_test.ensures ∙ then_refusal _ _ (sym c.in_err-counts_test.ensures)))

pub returns-in_err-modes_test : goal.returns-in_err-modes_test
returns-in_err-modes_test c =
    handed_back _ _ c.from_residual-in_err-modes_test.ensures.1
    (sym (after_counts _ c.in_ok-len_test.ensures c.in_ok-counts_test.ensures
    ∙ then_refusal _ _ (sym (c.in_err-modes_test.ensures ∙ ap (λ (n : ℕ). modes_test n c.args.s.now) c.byte-modes.ensures.0))))

pub returns-then-s-place : goal.returns-then-s-place
returns-then-s-place c =
    let place = c.ops_place-place.ensures ∙ ap ops_place c.byte-modes.ensures.0 in
    let sets = c.in_ok-modes_test.ensures ∙ ap (λ (n : ℕ). modes_test n c.args.s.now) c.byte-modes.ensures.0 in
    ap (λ (n : ℕ). refused ORDER n 0) place
    ∙ sym (after_modes _ c.in_ok-len_test.ensures c.in_ok-counts_test.ensures sets ∙ needed_no _ _ (omega (arith, place)))

pub returns : goal.returns
returns c =
    let place = c.ops_place-place.ensures ∙ ap ops_place c.byte-modes.ensures.0 in
    let sets = c.in_ok-modes_test.ensures ∙ ap (λ (n : ℕ). modes_test n c.args.s.now) c.byte-modes.ensures.0 in
    sym (after_modes _ c.in_ok-len_test.ensures c.in_ok-counts_test.ensures sets ∙ needed_yes _ _ (omega (arith, place)))
