-- The range test refuses where a number is wrong.
-- Assumes nothing.
use Rattle.std.proofs.Common.{ℕ, ◌≡◌, ◌+◌, ◌<◌, Option, sym, ap, subst, arith, ◌∙◌}
use Rattle.rules.specs.Verdicts.{Test, refused, RANGE}
use Rattle.theory.proofs.Ranges.{ranged_yes, ranged_no}
use Rattle.fields.specs.Fields.{IsPlace}
use Rattle.fields.proofs.range_test.Goals as goal

pub returns-in-None-clause-ruled : goal.returns-in-None-clause-ruled
returns-in-None-clause-ruled c =
    λ n is. let none : 0 ≡ n = subst (λ (w : Option ℕ). IsPlace w n) c.in-None.is is in sym (ranged_yes n c.args.at (sym none))

pub returns-in-Some-clause-ruled : goal.returns-in-Some-clause-ruled
returns-in-Some-clause-ruled c =
    λ n is.
    let w = c.in-Some.wrong in
    let at = c.args.at in
    let (e, l) : (w ≡ n) × (0 < w) = subst (λ (w : Option ℕ). IsPlace w n) c.in-Some.is is in
    let there : ◌≡◌ {A = Test} (refused RANGE at (at + w)) (refused RANGE at (at + n)) = ap (λ (k : ℕ). refused RANGE at (at + k)) e in
    there ∙ sym (ranged_no n at (λ z. omega arith))
