-- By the number of words.
-- Assumes nothing.
use Rattle.std.proofs.Common.{refl, sym, arith}
use Rattle.std.proofs.lemmas.List.{length-map}
use Rattle.rules.specs.Words.{asks}
use Rattle.words.specs.Words.{word_is}
use Rattle.words.specs.AskLaws.{asks_all, count_not}
use Rattle.words.proofs.Others.{no_words, two_words, five_words}
use Rattle.words.proofs.question_of.Goals as goal

pub returns-in-empty : goal.returns-in-empty
unfolding asks
returns-in-empty c = asks_all (no_words c.args.words.now (omega arith)) refl (omega arith)

pub returns-in-len2 : goal.returns-in-len2
returns-in-len2 c = asks_all (two_words c.args.words.now _ (omega arith)) c.ask_two.ensures (omega arith)

pub returns-in-len5 : goal.returns-in-len5
returns-in-len5 c = asks_all (five_words c.args.words.now _ (omega arith)) c.ask_five.ensures (omega arith)

pub returns-in_default : goal.returns-in_default
returns-in_default c = λ ws l f. let n = length-map c.args.words.now word_is in
    sym (count_not ws (λ e. omega arith) (λ e. omega arith) (λ e. omega arith) (λ e. omega arith))

pub returns-in_default-2 : goal.returns-in_default-2
returns-in_default-2 c = λ ws l f. let n = length-map c.args.words.now word_is in
    sym (count_not ws (λ e. omega arith) (λ e. omega arith) (λ e. omega arith) (λ e. omega arith))
