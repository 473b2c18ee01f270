-- Which set is wrong first of all is which is first of those from word m on, until a wrong one or the end.
-- Assumes nothing.
use Rattle.std.proofs.Common.{◌≡◌, ℕ, ◌+◌, ◌*◌, ◌<◌, ◌≤◌, true, false, List, length, get_or, sym, ap, ◌∙◌, arith}
use Rattle.rules.specs.Bytes.{num32, words}
use Rattle.rules.specs.Judge.{set_ok}
use Rattle.theory.proofs.Ranges.{sets_from, sets_start, set_wrong, set_fine, sets_end}
use Rattle.theory.proofs.Judging.{length_words}
use Rattle.heads.specs.WordLaws.{word_there}
use Rattle.heads.proofs.sets_wrong.Goals as goal

module _ (s : List ℕ) (modes : ℕ) where
  abbrev sets : List ℕ
  sets = words s 14 (modes + 1)

  -- the set that is word m, as it was read
  module _ {m word : ℕ} (h : m < modes + 1) (read : word ≡ num32 s (14 + 4 * m)) where
    inside : m < length sets
    inside = omega (arith, length_words s 14 (modes + 1))

    judged : set_ok modes (get_or sets m 0) ≡ set_ok modes word
    judged = ap (set_ok modes) (word_there s 14 (modes + 1) m h ∙ sym read)

    wrong_word : set_ok modes word ≡ false → sets_from 3 modes sets m ≡ 3 + 4 * m
    wrong_word e = set_wrong 3 modes sets m inside (judged ∙ e)

    fine_word : set_ok modes word ≡ true → sets_from 3 modes sets m ≡ sets_from 3 modes sets (m + 1)
    fine_word e = set_fine 3 modes sets m inside (judged ∙ e)

  no_word : (m : ℕ) → modes + 1 ≤ m → sets_from 3 modes sets m ≡ 0
  no_word m h = sets_end 3 modes sets m (omega (arith, length_words s 14 (modes + 1)))

pub loop-m-init : goal.loop-m-init
loop-m-init c = sets_start c.args.modes (words c.args.s.now 14 (c.args.modes + 1))

pub returns-then-not-is_set_of : goal.returns-then-not-is_set_of
returns-then-not-is_set_of c =
    let wrong = wrong_word c.args.s.now c.args.modes (omega arith) c.be32-word.ensures (sym c.is_set_of.ensures ∙ c.if-not-is_set_of.true) in
    (sym (c.loop-m.invariant ∙ wrong), omega arith)

pub loop-m-preserved : goal.loop-m-preserved
loop-m-preserved c =
    c.loop-m.invariant ∙ fine_word c.args.s.now c.args.modes (omega arith) c.be32-word.ensures (sym c.is_set_of.ensures ∙ c.if-not-is_set_of.false)

pub returns-else-not-is_set_of : goal.returns-else-not-is_set_of
returns-else-not-is_set_of c =
    let fine = fine_word c.args.s.now c.args.modes (omega arith) c.be32-word.ensures (sym c.is_set_of.ensures ∙ c.if-not-is_set_of.false) in
    let last : c.args.modes + 1 ≤ c.loop-m.m + 1 = omega arith in
    sym (c.loop-m.invariant ∙ fine ∙ no_word c.args.s.now c.args.modes (c.loop-m.m + 1) last)
