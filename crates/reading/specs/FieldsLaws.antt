-- How the judge goes on from the verdict on the fields, and what that verdict accepts.
-- Assumes nothing.
use Rattle.std.specs.Prelude.{ℕ, ◌≤◌, ◌≡◌, List, length, Result}
use Rattle.std.proofs.Math.Path.{sym, subst}
use Rattle.std.proofs.Common.{◌∙◌}
use native.Mathlib.Omega.{arith}
use Rattle.rules.specs.Table.{Table, nops}
use Rattle.rules.specs.Verdicts.{accepted, onwards}
use Rattle.rules.specs.Judge.{head_of, with_ops, with_decider, ops_place, ops_end, head_test, ops_from, decider_at, decider_test, judge_behind, judge_whole, judge}
use Rattle.theory.proofs.Verdicts.{then_first, then_rest, then_onwards, onwards_first, onwards_onwards, onwards_then, onwards_same}
use Rattle.theory.proofs.Lengths.{modes_few}
use Rattle.theory.proofs.Judging.{head_ok, says_decider, judge_row, behind_row, ops_ended, decider_passed}
use Rattle.fields.specs.declared.Refusal.{Refusal}
use Rattle.table.specs.declared.Table as code
use Rattle.table.specs.Tables.{JudgedAs, going_on, Tidy}
use Rattle.table.specs.JudgedLaws.{judged_tidy, going_by}
use Rattle.deciders.specs.Deciders.{behind_of}
use Rattle.whole.specs.Whole.{whole_on, Ready}
use Rattle.whole.specs.WholeLaws.{Fit, ready_by, whole_by}
use Rattle.reading.specs.Reading.{ops_verdict, fields_verdict, whole_verdict}

module _ (s : List ℕ) where
  -- what is read up to the operations: the head, which passes, and operations that end inside the input
  record Read (T : Table) : Type 0 where
    words : length T.follow ≡ T.modes
    few : T.modes ≤ 32
    inside : ops_end T ≤ length s

  fields_read : (T : Table) → fields_verdict s ≡ accepted T → Read T
  unfolding fields_verdict ops_verdict
  fields_read T e =
      let H = head_of s in
      let (head, place) = head_ok s (then_first (head_test s) _ e).1 in
      let (os, come, whole) = onwards_first (ops_from H s 32 (ops_place H.modes)) _ (then_rest (head_test s) _ e) in
      let same : with_ops H os ≡ T = cc in
      let inside = (ops_ended s H _ os come).inside (omega arith) in
      subst (λ (U : Table). Read U) same (record { words = head.words; few = modes_few H head.counts; inside = omega arith })

  -- what the code makes of the fields' verdict goes on as the fields' verdict does
  pub fields_tidy : {r : Result code.Table Refusal} → JudgedAs (fields_verdict s) r → Tidy r
  fields_tidy j = judged_tidy (λ T e. (fields_read T e).words) j

  pub fields_behind : (r : Result code.Table Refusal) → JudgedAs (fields_verdict s) r → going_on r (behind_of s) ≡ whole_verdict s
  unfolding whole_verdict
  fields_behind r j = going_by (λ T e. (fields_read T e).words) (behind_of s) r j

  -- a table that all fields accept
  behind_fit : (T U : Table) → Read T → behind_of s T ≡ accepted U → Fit U
  unfolding behind_of
  behind_fit T U read e =
      let at = ops_end T in
      let fine = (decider_passed s at (nops T) (then_first (decider_test s at (nops T)) _ e).1 read.inside).0 in
      let last : accepted (with_decider T (decider_at s at)) ≡ accepted U = then_rest (decider_test s at (nops T)) _ e in
      let same : with_decider T (decider_at s at) ≡ U = cc in
      subst (λ (W : Table). Fit W) same
      (record { words = read.words; few = read.few; named = (says_decider (nops T) (decider_at s at)).0 fine })

  whole_fit : (U : Table) → whole_verdict s ≡ accepted U → Fit U
  unfolding whole_verdict
  whole_fit U e = let (T, come, rest) = onwards_first (fields_verdict s) (behind_of s) e in behind_fit T U (fields_read T come) rest

  -- the judge asks for CLASH, RACE and EARLY of what is accepted without them
  behind_whole : (T : Table) → judge_behind s T ≡ onwards (behind_of s T) judge_whole
  unfolding behind_of
  behind_whole T = behind_row s T ∙ sym (onwards_then (decider_test s (ops_end T) (nops T)) (with_decider T (decider_at s (ops_end T))) judge_whole)

  judge_fields : judge s ≡ onwards (whole_verdict s) judge_whole
  unfolding whole_verdict fields_verdict ops_verdict
  judge_fields =
      judge_row s
      ∙ then_onwards (head_test s) (ops_from (head_of s) s 32 (ops_place (head_of s).modes)) (λ os. with_ops (head_of s) os) (judge_behind s)
      ∙ onwards_same _ (judge_behind s) (λ T. onwards (behind_of s T) judge_whole) (λ T _. behind_whole T)
      ∙ sym (onwards_onwards _ (behind_of s) judge_whole)

  -- what the code makes of that verdict is the judge's
  pub whole_ready : {r : Result code.Table Refusal} → JudgedAs (whole_verdict s) r → Ready r
  whole_ready j = ready_by j whole_fit

  pub fields_whole : (r : Result code.Table Refusal) → JudgedAs (whole_verdict s) r → judge s ≡ whole_on r
  fields_whole r j = judge_fields ∙ sym (whole_by r j whole_fit)
