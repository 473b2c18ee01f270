-- The tests in the order of the definition.
-- Assumes nothing.
use Rattle.std.proofs.Common.{sym, arith}
use Rattle.theory.proofs.Ranges.{len_low, len_high}
use Rattle.theory.proofs.Judging.{says_len}
use Rattle.ranges.proofs.len_wrong.Goals as goal

pub returns-then-p-lt1 : goal.returns-then-p-lt1
returns-then-p-lt1 c = (sym (len_low _ c.if-p-lt1.true), omega arith)

pub returns-then-p-gt1000 : goal.returns-then-p-gt1000
returns-then-p-gt1000 c = (sym (len_high _ c.if-p-gt1000.true), omega arith)

pub returns : goal.returns
returns c = sym ((says_len _).1 (c.if-p-lt1.false, c.if-p-gt1000.false))
