-- It is not empty, and each byte is a digit.
-- Assumes nothing.
use Rattle.std.proofs.Common.{sym, rules, tests}
use Rattle.std.specs.Char.{is_ascii_digit}
use Rattle.std.proofs.lemmas.Iterator.{YieldsList-from_slice}
use Rattle.std.proofs.lemmas.Iterator.Search.{all_from_yields_List}
use Rattle.words.specs.WordLaws.{number_all}
use Rattle.words.proofs.is_number.Goals as goal

pub returns-then-not-is_empty : goal.returns-then-not-is_empty
returns-then-not-is_empty c =
    simp (number_all c.args.w.now, sym c.if-not-is_empty.ensures)
    (all_from_yields_List is_ascii_digit _ _ c.all.result c.all.ensures.ran (YieldsList-from_slice c.args.w.now cc) (λ x b q k. search (rules, tests)))

pub returns-else-not-is_empty : goal.returns-else-not-is_empty
returns-else-not-is_empty c = simp (number_all, c.if-not-is_empty.false, sym c.if-not-is_empty.ensures)
