-- Demand 3, said of the public answers: a second table of better knowledge keeps every yes, whether of the boards or of the values, its reply
-- has no longer period, and its gap is no longer.
-- Assumes nothing.
use Prim.Native.Nat.{ℕ, ◌<◌, ◌≤◌}
use mathlib.Core.Path.{◌≡◌, refl, sym, ap, ◌∙◌}
use mathlib.Core.Bool.{true}
use mathlib.Core.List.{List}
use native.Mathlib.Decide.{dec_lt}
use native.Mathlib.Omega.{arith}
use lib.ListN.{length}
use Rattle.rules.specs.Table.{Table}
use Rattle.rules.specs.Runs.{spaced}
use Rattle.rules.specs.Gaps.{IsGap}
use Rattle.rules.specs.Better.{Better}
use Rattle.rules.specs.Rows.{reply_of}
use Rattle.rules.specs.Verdicts.{accepted}
use Rattle.rules.specs.Bytes.{num16, reply_bytes}
use Rattle.rules.specs.Judge.{judge}
use Rattle.rules.specs.Answers.{Written, put, IsPlan, IsGapOf, YesNo, Fit, BoardsFit, Arrive, ValuesArrive}
use Rattle.theory.specs.Tests.{period_of}
use Rattle.theory.proofs.Verdicts.{never_refused}
use Rattle.theory.proofs.Bytes.{two_bytes}
use Rattle.theory.proofs.Exists.{period_found}
use Rattle.theory.proofs.Judging.{judge_accepted}
use Rattle.theory.proofs.Answering.{put_room, put_short, plan_put}
use Rattle.theory.proofs.Asking.{answered_first, yes_first, yes_said}
use Rattle.theory.proofs.Carry.{better_boards, better_values, better_period}
use Rattle.theory.proofs.Gaps.{better_gap}

-- the period stands in the reply's first field
put_period : (T : Table) (q : ℕ) (out : List ℕ) (n : ℕ) → q < 65536 → (put (reply_bytes (reply_of T q)) out).answer ≡ accepted n
    → num16 (put (reply_bytes (reply_of T q)) out).buffer 3 ≡ q
unfolding reply_bytes reply_of
put_period T q out n small e = go (dec_lt (length out) (length (reply_bytes (reply_of T q))))
  where
    go : Dec (length out < length (reply_bytes (reply_of T q))) → num16 (put (reply_bytes (reply_of T q)) out).buffer 3 ≡ q
    go (yes h) = never_refused (sym (ap (λ (w : Written). w.answer) (put_short (reply_bytes (reply_of T q)) out h)) ∙ e)
    go (no h) = rw (put_room (reply_bytes (reply_of T q)) out (omega arith)) (two_bytes q small)

plan_period : (s out : List ℕ) (w : Written) (T : Table) (n : ℕ) → judge s ≡ accepted T → IsPlan s out w → w.answer ≡ accepted n
    → num16 w.buffer 3 ≡ period_of T
plan_period s out w T n read plan done =
    let wrote = plan_put s out w T read plan in
    let ok = judge_accepted s T read in
    let is = period_found T ok in
    rw wrote (put_period T (period_of T) out n (omega (arith, is.high, ok.len_high)) (rw wrote at done))

module _ (s t : List ℕ) (T S : Table) (first : judge s ≡ accepted T) (second : judge t ≡ accepted S) (le : Better T S) where
  -- the period of the second reply is not longer
  pub plan_better : (out out' : List ℕ) (w x : Written) (n m : ℕ) → IsPlan s out w → IsPlan t out' x → w.answer ≡ accepted n
      → x.answer ≡ accepted m → num16 x.buffer 3 ≤ num16 w.buffer 3
  plan_better out out' w x n m p r done done' =
      let okT = judge_accepted s T first in
      let okS = judge_accepted t S second in
      let shorter = better_period T S okT okS le (period_of T) (period_of S) (period_found T okT) (period_found S okS) in
      omega (arith, plan_period s out w T n first p done, plan_period t out' x S m second r done')

  -- nor is the second gap
  pub gap_better : (g h : ℕ) → IsGapOf s (accepted g) → IsGapOf t (accepted h) → h ≤ g
  gap_better g h x y =
      let (U, read, is) = answered_first IsGap (judge s) (accepted g) x refl in
      let (W, read', is') = answered_first IsGap (judge t) (accepted h) y refl in
      let one : U ≡ T = cc (read, first) in
      let two : W ≡ S = cc (read', second) in
      better_gap T S (judge_accepted s T first) (judge_accepted t S second) le g h (rw one at is) (rw two at is')

  -- what is answered with yes for the first is answered with yes for the second, where P is kept
  yes_better : (P : Table → ℕ → Type 0) (q : ℕ) → (P T q → P S q) → YesNo P s q (accepted true) → YesNo P t q (accepted true)
  yes_better P q keeps said =
      let (U, read, low, high, holds) = yes_first P s q said refl in
      let same : U ≡ T = cc (read, first) in
      yes_said P t q S second low (omega (arith, ap (λ (x : Table). x.len) same, le.len)) (keeps (rw same at holds))

  -- demand 3 for each question by itself
  pub boards_better : (q : ℕ) → BoardsFit s q (accepted true) → BoardsFit t q (accepted true)
  boards_better q = yes_better Fit q (better_boards T S (judge_accepted s T first) (judge_accepted t S second) le (spaced q))

  pub values_better : (q : ℕ) → ValuesArrive s q (accepted true) → ValuesArrive t q (accepted true)
  values_better q = yes_better Arrive q (better_values T S (judge_accepted s T first) (judge_accepted t S second) le (spaced q))
