-- The word, or the line of the refusal.
-- Assumes nothing.
use Rattle.rules.specs.Text.{yes_no_line}
use Rattle.says.specs.SayLaws.{told_cases}
use Rattle.says.proofs.truth_text.Goals as goal

pub returns : goal.returns
returns c = told_cases yes_no_line c.args.x c.map_or_else.ensures
