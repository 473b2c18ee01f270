-- A name and a number.
-- Assumes nothing.
use mathlib.Core.Path.{sym}
use Rattle.rules.specs.Words.{asks}
use Rattle.words.proofs.Others.{two_no_number, two_other}
use Rattle.words.proofs.ask_two.Goals as goal

pub returns-in-Boards-Number : goal.returns-in-Boards-Number
unfolding asks
returns-in-Boards-Number c = rw (c.in-Boards-Number.is-0, c.in-Boards-Number.is-1)

pub returns-in-Values-Number : goal.returns-in-Values-Number
unfolding asks
returns-in-Values-Number c = rw (c.in-Values-Number.is-0, c.in-Values-Number.is-1)

pub returns-in_default : goal.returns-in_default
returns-in_default c = sym (two_no_number c.args.a c.args.b c.in_default.not-Number-1)

pub returns-in_default-2 : goal.returns-in_default-2
returns-in_default-2 c = sym (two_no_number c.args.a c.args.b c.in_default.not-Number-1)

pub returns-in_default-3 : goal.returns-in_default-3
returns-in_default-3 c = sym (two_other c.args.a c.in_default.not-Boards-0 c.in_default.not-Values-0 _)
