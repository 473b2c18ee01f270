-- Digits are a number.
-- Assumes nothing.
use mathlib.Core.Path.{◌≡◌, sym, ap, ◌∙◌}
use mathlib.Core.Bool.{true}
use Rattle.rules.specs.Words.{number, is_number}
use Rattle.words.specs.Words.{capped_word}
use Rattle.words.specs.WordLaws.{number_digits}
use Rattle.words.proofs.unnamed.Goals as goal

pub value_of-requires : goal.value_of-requires
value_of-requires c = number_digits _ (sym c.is_number.ensures ∙ c.if-is_number.true)

pub returns-then-is_number : goal.returns-then-is_number
unfolding capped_word
returns-then-is_number c =
    let digits : is_number c.args.w.now ≡ true = sym c.is_number.ensures ∙ c.if-is_number.true in
    simp digits (ap number c.value_of.ensures)

pub returns : goal.returns
unfolding capped_word
returns c = simp (sym c.is_number.ensures ∙ c.if-is_number.false)
