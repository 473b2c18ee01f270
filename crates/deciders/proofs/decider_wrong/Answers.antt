-- A number below the count is an operation's, and no other is.
-- Assumes nothing.
use Rattle.std.proofs.Common.{sym, arith}
use Rattle.theory.proofs.Ranges.{decider_high, decider_low}
use Rattle.deciders.proofs.decider_wrong.Goals as goal

pub returns-then-d-count : goal.returns-then-d-count
returns-then-d-count c = sym (decider_low _ _ (omega arith))

pub returns : goal.returns
returns c = (sym (decider_high _ _ (omega arith)), omega arith)
