-- The name `margin` and four numbers behind it.
-- Assumes nothing.
use mathlib.Core.Path.{sym}
use Rattle.rules.specs.Words.{asks}
use Rattle.words.proofs.Others.{five_other, no_number_lem}
use Rattle.words.proofs.ask_five.Goals as goal

pub returns-in-Margin-Number-Number-Number-Number : goal.returns-in-Margin-Number-Number-Number-Number
unfolding asks
returns-in-Margin-Number-Number-Number-Number c =
    let m = c.in-Margin-Number-Number-Number-Number in rw (m.is-0, m.is-1, m.is-2, m.is-3, m.is-4)

pub returns-in_default : goal.returns-in_default
unfolding asks
returns-in_default c =
    let m = c.in_default in rw (m.is-0, m.is-1, m.is-2, m.is-3) (sym (no_number_lem c.args.e m.not-Number-4 _ _))

pub returns-in_default-2 : goal.returns-in_default-2
unfolding asks
returns-in_default-2 c = let m = c.in_default in rw (m.is-0, m.is-1, m.is-2) (sym (no_number_lem c.args.d m.not-Number-3 _ _))

pub returns-in_default-3 : goal.returns-in_default-3
unfolding asks
returns-in_default-3 c = let m = c.in_default in rw (m.is-0, m.is-1) (sym (no_number_lem c.args.c m.not-Number-2 _ _))

pub returns-in_default-4 : goal.returns-in_default-4
unfolding asks
returns-in_default-4 c = rw c.in_default.is-0 (sym (no_number_lem c.args.b c.in_default.not-Number-1 _ _))

pub returns-in_default-5 : goal.returns-in_default-5
returns-in_default-5 c = sym (five_other c.args.a c.in_default.not-Margin-0 _ _ _ _)
