-- The line of the margin, or that of the refusal.
-- Assumes nothing.
use Rattle.rules.specs.Text.{margin_line}
use Rattle.says.specs.SayLaws.{told_cases}
use Rattle.says.proofs.measured_text.Goals as goal

pub returns : goal.returns
returns c = told_cases margin_line c.args.x c.map_or_else.ensures
