-- `unfold`, `gap`, or nothing.
-- Assumes nothing.
use mathlib.Core.Path.{sym}
use Rattle.rules.specs.Words.{asks}
use Rattle.words.proofs.Others.{one_other}
use Rattle.words.proofs.ask_one.Goals as goal

pub returns-in-Unfold : goal.returns-in-Unfold
unfolding asks
returns-in-Unfold c = rw c.in-Unfold.is

pub returns-in-Gap : goal.returns-in-Gap
unfolding asks
returns-in-Gap c = rw c.in-Gap.is

pub returns-in_default : goal.returns-in_default
returns-in_default c = sym (one_other c.args.a c.in_default.not-Unfold c.in_default.not-Gap)
