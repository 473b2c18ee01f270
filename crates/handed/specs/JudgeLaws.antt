-- Laws of the whole judgement of numbers: the fields', the decider's, and then that of the whole.
-- Assumes nothing.
use Rattle.std.specs.Prelude.{◌≤◌, ◌≡◌, [], length, Result}
use Rattle.std.proofs.Math.Path.{sym, ap, subst}
use Rattle.std.proofs.Common.{◌∙◌}
use Rattle.rules.specs.Table.{Decider, Table, nops}
use Rattle.rules.specs.Verdicts.{Verdict, accepted, onwards}
use Rattle.rules.specs.Judge.{ranged, decider_wrong, Numbers, head_of_numbers, decider_of, with_ops, with_decider, ops_place, ops_end, ops_of_numbers, numbers_test, judge_decider, judge_numbers, judge_whole}
use Rattle.theory.proofs.Verdicts.{then_first, then_rest, then_onwards, onwards_first, onwards_onwards, onwards_then, onwards_same}
use Rattle.theory.proofs.Ranges.{range_passed}
use Rattle.theory.proofs.Judging.{says_decider, judge_numbers_row, judge_decider_row}
use Rattle.fields.specs.declared.Refusal.{Refusal}
use Rattle.table.specs.Tables.{JudgedAs, going_on, Tidy, table_of, table_in}
use Rattle.table.specs.TableLaws.{table_back}
use Rattle.table.specs.JudgedLaws.{judged_tidy, going_by}
use Rattle.table.specs.declared.Table as code
use Rattle.deciders.specs.Deciders.{handed_of}
use Rattle.handed_ops.specs.HandedOps.{handed_ops, SmallCounts, Bare}
use Rattle.whole.specs.Whole.{whole_on, Ready}
use Rattle.whole.specs.WholeLaws.{Fit, ready_by, whole_by}
use Rattle.handed.specs.Handed.{numbers_verdict, whole_verdict, Small}
use Rattle.handed.specs.HeadLaws.{test_small}

module _ (N : Numbers) where
  -- a table that is accepted up to the operations has as many words as modes, and no more modes than there may be
  numbers_words : (T : Table) → numbers_verdict N ≡ accepted T → (length T.follow ≡ T.modes) × (T.modes ≤ 32)
  unfolding numbers_verdict handed_ops
  numbers_words T e =
      let (os, come, same) = onwards_first _ _ (then_rest _ _ e) in
      let small = test_small N (then_first _ _ e).1 in
      let here : with_ops (head_of_numbers N) os ≡ T = cc in
      rw (← here) (small.words, small.counts.few_modes)

  -- what the code makes of that verdict goes on as it does
  pub numbers_tidy : {r : Result code.Table Refusal} → JudgedAs (numbers_verdict N) r → Tidy r
  numbers_tidy j = judged_tidy (λ T e. (numbers_words T e).0) j

  pub numbers_behind : (r : Result code.Table Refusal) → JudgedAs (numbers_verdict N) r → going_on r (handed_of (decider_of N)) ≡ whole_verdict N
  unfolding whole_verdict
  numbers_behind r j = going_by (λ T e. (numbers_words T e).0) (handed_of (decider_of N)) r j

  -- so with who decides
  pub numbers_judged : {who : Decider} (r h : Result code.Table Refusal) → who ≡ decider_of N → JudgedAs (numbers_verdict N) r → JudgedAs (going_on r (handed_of who)) h
      → JudgedAs (whole_verdict N) h
  numbers_judged {who} r h is j e =
      let behind = ap (λ (d : Decider). going_on r (handed_of d)) is ∙ numbers_behind r j in
      subst (λ (v : Verdict Table). JudgedAs v h) behind e

  -- a table that all numbers accept
  handed_fit : (T U : Table) → length T.follow ≡ T.modes → T.modes ≤ 32 → handed_of (decider_of N) T ≡ accepted U → Fit U
  unfolding handed_of
  handed_fit T U words few e =
      let who = decider_of N in
      let test = ranged (decider_wrong (nops T) who) (ops_end T) in
      let fine = range_passed (decider_wrong (nops T) who) (ops_end T) (then_first test _ e).1 in
      let last : accepted (with_decider T who) ≡ accepted U = then_rest test _ e in
      let same : with_decider T who ≡ U = cc in
      subst (λ (W : Table). Fit W) same (record { words = words; few = few; named = (says_decider (nops T) who).0 fine })

  whole_fit : (U : Table) → whole_verdict N ≡ accepted U → Fit U
  unfolding whole_verdict
  whole_fit U e =
      let (T, come, rest) = onwards_first (numbers_verdict N) (handed_of (decider_of N)) e in
      let (words, few) = numbers_words T come in
      handed_fit T U words few rest

  -- the judge asks for CLASH, RACE and EARLY of what is accepted without them
  decider_whole : (T : Table) → judge_decider (decider_of N) T ≡ onwards (handed_of (decider_of N) T) judge_whole
  unfolding handed_of
  decider_whole T =
      judge_decider_row (decider_of N) T ∙ sym (onwards_then (ranged (decider_wrong (nops T) (decider_of N)) (ops_end T)) (with_decider T (decider_of N)) judge_whole)

  numbers_pairs : judge_numbers N ≡ onwards (whole_verdict N) judge_whole
  unfolding whole_verdict numbers_verdict handed_ops
  numbers_pairs =
      judge_numbers_row N
      ∙ then_onwards (numbers_test N) (ops_of_numbers (head_of_numbers N) N.ops N.holds 32 (ops_place N.modes)) (with_ops (head_of_numbers N)) (judge_decider (decider_of N))
      ∙ onwards_same _ (judge_decider (decider_of N)) (λ T. onwards (handed_of (decider_of N) T) judge_whole) (λ T _. decider_whole T)
      ∙ sym (onwards_onwards _ (handed_of (decider_of N)) judge_whole)

  -- what the code makes of that verdict is the judge's
  pub whole_ready : {r : Result code.Table Refusal} → JudgedAs (whole_verdict N) r → Ready r
  whole_ready j = ready_by j whole_fit

  pub numbers_whole : (r : Result code.Table Refusal) → JudgedAs (whole_verdict N) r → judge_numbers N ≡ whole_on r
  numbers_whole r j = numbers_pairs ∙ sym (whole_by r j whole_fit)

-- ---- the table before the operations, as the code holds it
module _ (H : Table) {t : code.Table} (e : t ≡ table_in (with_ops H [])) (small : Small H) where
  pub head_back : table_of t ≡ with_ops H []
  head_back = ap (λ (u : code.Table). table_of u) e ∙ table_back (with_ops H []) small.words

  pub head_ready : Bare t × SmallCounts t.boards t.cells t.modes
  head_ready = (e ∙ ap (λ (T : Table). table_in (with_ops T [])) (sym head_back), rw e small.counts)
