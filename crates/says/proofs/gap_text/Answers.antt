-- The line of the gap, or that of the refusal.
-- Assumes nothing.
use Rattle.rules.specs.Text.{gap_line}
use Rattle.says.specs.SayLaws.{told_cases}
use Rattle.says.proofs.gap_text.Goals as goal

pub returns : goal.returns
returns c = told_cases gap_line c.args.x c.map_or_else.ensures
