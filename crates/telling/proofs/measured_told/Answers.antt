-- A margin is left with the caller; a refusal is told by its figures, and the place for the margin stays.
-- Assumes nothing.
use Rattle.std.proofs.Common.{sym, ap, ◌∙◌, ℤ, Result, rules}
use mir.Syntax.{w32}
use mir.Facts.{to_z-of_z}
use Rattle.fields.specs.declared.Refusal.{Refusal}
use Rattle.fields.specs.Verdicts.{answered}
use Rattle.telling.specs.Telling.{ended_with}
use Rattle.telling.specs.TellingLaws.{refusal_told, margin_told, margin_kept}
use Rattle.telling.proofs.measured_told.Goals as goal

pub returns-in-Ok : goal.returns-in-Ok
returns-in-Ok c =
    let before = c.args.margin.now in
    margin_told c.in-Ok.z before c.numbered.ensures (to_z-of_z {w = w32} (search rules)) ∙ ap (λ (x : Result ℤ Refusal). ended_with (answered x) before) (sym c.in-Ok.is)

pub returns-in-Err : goal.returns-in-Err
returns-in-Err c =
    let before = c.args.margin.now in
    margin_kept c.in-Err.r before (refusal_told c.in-Err.r c.from.ensures) ∙ ap (λ (x : Result ℤ Refusal). ended_with (answered x) before) (sym c.in-Err.is)
