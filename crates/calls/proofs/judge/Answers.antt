-- What `tell` leaves is what is told of the verdict of `read`, which is that of the rules.
-- Assumes nothing.
use Rattle.std.proofs.Common.{◌∙◌, ap}
use Rattle.telling.specs.Telling.{told_of, unwritten}
use Rattle.telling.specs.TellingLaws.{judged_told}
use Rattle.fields.specs.Verdicts.{answered}
use Rattle.calls.proofs.judge.Goals as goal

pub returns : goal.returns
returns c =
    c.tell.ensures ∙ c.verdict_told.ensures ∙ ap (λ v. told_of (unwritten (answered v))) c.and-verdict.ensures ∙ judged_told _ c.read.result c.read.ensures
