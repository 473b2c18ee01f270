-- Document 02, No. 12, said of the public answers: where a table's bytes are accepted, those of the table with its operations in another order, its
-- boards and its modes renamed are, and each answer is the same, with the rows moved.
-- Assumes nothing.
use Prim.Native.Nat.{ℕ, ◌+◌, ◌*◌, ◌<◌, ◌≤◌}
use mathlib.Core.Path.{◌≡◌, refl, sym, ap, subst, subst⁻¹, ◌∙◌}
use mathlib.Core.Bool.{Bool, ◌&&◌}
use mathlib.Core.List.{List, ◌++◌}
use mathlib.Core.Logic.{◌↔◌}
use native.Mathlib.Decide.{dec_lt}
use native.Mathlib.Omega.{arith}
use lib.Dec.{leb, ltb}
use borrow.Author.Tests.{lt-ltb}
use lib.IntN.{ℤ}
use lib.ListN.{length, drop}
use Rattle.rules.specs.Table.{Table, nops}
use Rattle.rules.specs.Runs.{IsPeriod, spaced}
use Rattle.rules.specs.Gaps.{IsGap}
use Rattle.rules.specs.Rows.{Reply, reply_of, margin}
use Rattle.rules.specs.Renamed.{Names, Renamed, boards_by, modes_by, Moved}
use Rattle.rules.specs.Verdicts.{Verdict, accepted, Test, ◌then◌}
use Rattle.rules.specs.Bytes.{table_bytes, reply_bytes}
use Rattle.rules.specs.Judge.{judge}
use Rattle.rules.specs.Text.{reply_text, text_of}
use Rattle.rules.specs.Answers.{Written, put, Answers, Planned, ReplyTo, IsPlan, IsText, asked, period_asked, margin_test, IsMargin, IsPeriodOf, IsGapOf, asked_table, YesFor, YesNo, Fit, BoardsFit, Arrive, ValuesArrive}
use Rattle.theory.specs.Tests.{period_of}
use Rattle.theory.proofs.Verdicts.{never_refused, then_accepts, then_refuses, onwards_accepts}
use Rattle.theory.proofs.Says.{Known, known, holds, fails}
use Rattle.theory.proofs.Period.{period_unique}
use Rattle.theory.proofs.Exists.{period_found}
use Rattle.theory.proofs.Judging.{judge_accepted}
use Rattle.theory.proofs.Numbers.{write_read}
use Rattle.theory.proofs.Asking.{asked_no, asked_yes, margin_row, answered_first, answered_back, accepted_answers}
use Rattle.theory.proofs.Answering.{plan_put, plan_replies, plan_room}
use Rattle.theory.proofs.Renamed.{Kept, boards_kept, modes_kept, renamed_accepted, renamed_boards, renamed_values, renamed_period, renamed_gap, renamed_rows, renamed_margin}

-- the tests of a margin of two operations of the table: what is left of them
margin_rest : (T : Table) (i j n q : ℕ) → i < nops T → j < nops T → margin_test T i j n q ≡ (asked (leb 1 n && leb n 1000) 2 then period_asked T q 3)
margin_rest T i j n q hi hj =
    margin_row T i j n q
    ∙ then_accepts _ (asked_yes (ltb i (nops T)) 0 (lt-ltb i (nops T) hi))
    ∙ then_accepts _ (asked_yes (ltb j (nops T)) 1 (lt-ltb j (nops T) hj))

module _ (by : Names) (s : List ℕ) (S T : Table) (read : judge s ≡ accepted S) (re : Renamed by S T) where
  -- the bytes of the second table
  abbrev t : List ℕ
  t = table_bytes T

  -- they are accepted
  pub read_renamed : judge t ≡ accepted T
  read_renamed = write_read T (renamed_accepted by S T (judge_accepted s S read) re)

  -- a number that the table keeps is the same answer
  number-renamed : (P : Table → ℕ → Type 0) → ((n : ℕ) → P S n ↔ P T n) → (v : Verdict ℕ) → Answers P (judge s) v → Answers P (judge t) v
  number-renamed P keeps v x =
      let (n, is, e) = answered_back P (judge s) v x read in
      subst (λ (u : Verdict ℕ). Answers P (judge t) u) (sym e) (accepted_answers P read_renamed ((keeps n).0 is))

  -- the same period
  pub period_renamed : (v : Verdict ℕ) → IsPeriodOf s v → IsPeriodOf t v
  period_renamed = number-renamed IsPeriod (renamed_period by S T (judge_accepted s S read) re)

  -- the same gap
  pub gap_renamed : (v : Verdict ℕ) → IsGapOf s v → IsGapOf t v
  gap_renamed = number-renamed IsGap (renamed_gap by S T (judge_accepted s S read) re)

  -- a reply, with the rows moved
  pub reply_renamed : (R : Reply) → ReplyTo s (accepted R) → (U : Reply) × ReplyTo t (accepted U) × Moved by.place R U
  reply_renamed R x =
      let (U, seen, planned) = answered_first Planned (judge s) (accepted R) x refl in
      let (q, is, e) = planned in
      let same : U ≡ S = cc (seen, read) in
      let period : IsPeriod S q = rw same at is in
      let whole : R ≡ reply_of S q = e ∙ ap (λ (x : Table). reply_of x q) same in (
        reply_of T q,
        accepted_answers Planned read_renamed (q, (renamed_period by S T (judge_accepted s S read) re q).0 period, refl),
        subst (λ (x : Reply). Moved by.place x (reply_of T q)) (sym whole) (renamed_rows by S T (judge_accepted s S read) re q),
      )

  -- fold: the text of that reply
  pub text_renamed : (b : List ℕ) → IsText s b → (R : Reply) × (U : Reply) × Moved by.place R U × (b ≡ reply_text R) × IsText t (reply_text U)
  unfolding text_of
  text_renamed b (v, x, e) =
      let (R, planned, told) = answered_back Planned (judge s) v x read in
      let (U, y, moved) = reply_renamed R (subst (λ (u : Verdict Reply). ReplyTo s u) told x) in
      (R, U, moved, e ∙ ap text_of told, (accepted U, y, refl))

  -- plan: where it answers the first bytes, it answers the second, given room: as many bytes, the same period and the moved rows, and the rest of
  -- each buffer as it was
  pub plan_renamed : (out out' : List ℕ) (w x : Written) (n : ℕ) → IsPlan s out w → w.answer ≡ accepted n → n ≤ length out' → IsPlan t out' x
      → (R : Reply) × (U : Reply) × ReplyTo s (accepted R) × ReplyTo t (accepted U) × Moved by.place R U
      × (w.buffer ≡ reply_bytes R ++ drop n out) × (x.answer ≡ accepted n) × (x.buffer ≡ reply_bytes U ++ drop n out')
  plan_renamed out out' w x n plan done room plan' = go (dec_lt (length out) (5 + 7 * nops S))
    where
      go : Dec (length out < 5 + 7 * nops S)
          → (R : Reply) × (U : Reply) × ReplyTo s (accepted R) × ReplyTo t (accepted U) × Moved by.place R U
          × (w.buffer ≡ reply_bytes R ++ drop n out) × (x.answer ≡ accepted n) × (x.buffer ≡ reply_bytes U ++ drop n out')
      go (yes short) = never_refused (sym (plan_room s out S w read short plan).0 ∙ done)
      go (no long) =
          let ok = judge_accepted s S read in
          let (q, is, told, wrote) = plan_replies s out S w read (omega arith) plan in
          let size : 5 + 7 * nops S ≡ n = cc (told, done) in
          let size' : 5 + 7 * nops T ≡ n = omega (arith, size, re.count) in
          let (p, is', told', wrote') = plan_replies t out' T x read_renamed (omega arith) plan' in
          let same : p ≡ q = period_unique T p q is' ((renamed_period by S T ok re q).0 is) in (
            reply_of S q,
            reply_of T q,
            accepted_answers Planned read (q, is, refl),
            accepted_answers Planned read_renamed (q, (renamed_period by S T ok re q).0 is, refl),
            renamed_rows by S T ok re q,
            wrote ∙ ap (λ (k : ℕ). reply_bytes (reply_of S q) ++ drop k out) size,
            told' ∙ ap accepted size',
            wrote'
                ∙ ap (λ (k : ℕ). reply_bytes (reply_of T p) ++ drop k out') size'
                ∙ ap (λ (k : ℕ). reply_bytes (reply_of T k) ++ drop n out') same,
          )

  -- the two questions of document 02, No. 10: the same answer for every q, ASK included
  module _ (P : Table → ℕ → Type 0) (q : ℕ) (same : P S q ↔ P T q) where
    yes_renamed : (v : Verdict Bool) → YesNo P s q v → YesNo P t q v
    unfolding Answers
    yes_renamed v x = go (known (leb 1 q && leb q S.len))
      where
        asks : asked_table s q ≡ (period_asked S q 0 then accepted S)
        asks = onwards_accepts (λ U. period_asked U q 0 then accepted U) read

        asks' : asked_table t q ≡ (period_asked S q 0 then accepted T)
        asks' =
            onwards_accepts (λ U. period_asked U q 0 then accepted U) read_renamed
            ∙ ap (λ (p : ℕ). asked (leb 1 q && leb q p) 0 then accepted T) re.len

        go : Known (leb 1 q && leb q S.len) → YesNo P t q v
        go (holds e) =
            let (y, is, told) = answered_back (YesFor P q) (asked_table s q) v x (asks ∙ then_accepts (accepted S) (asked_yes _ 0 e)) in
            subst (λ (u : Verdict Bool). YesNo P t q u) (sym told)
            (accepted_answers (YesFor P q) (asks' ∙ then_accepts (accepted T) (asked_yes _ 0 e))
            (λ yes. same.0 (is.0 yes), λ p. is.1 (same.1 p)))
        go (fails e) =
            let no = asks ∙ then_refuses (accepted S) (asked_no _ 0 e) in
            let no' = asks' ∙ then_refuses (accepted T) (asked_no _ 0 e) in
            subst⁻¹ (λ (u : Verdict Table). Answers (YesFor P q) u v) no' (subst (λ (u : Verdict Table). Answers (YesFor P q) u v) no x)

  pub boards_renamed : (q : ℕ) (v : Verdict Bool) → BoardsFit s q v → BoardsFit t q v
  boards_renamed q = yes_renamed Fit q (renamed_boards by S T (judge_accepted s S read) re (spaced q))

  pub values_renamed : (q : ℕ) (v : Verdict Bool) → ValuesArrive s q v → ValuesArrive t q v
  values_renamed q = yes_renamed Arrive q (renamed_values by S T (judge_accepted s S read) re (spaced q))

  -- the margin, i and j moved: the same answer for every n and q, ASK included
  pub margin_renamed : (i j n q : ℕ) (v : Verdict ℤ) → i < nops S → j < nops S → IsMargin s i j n q v → IsMargin t (by.place i) (by.place j) n q v
  margin_renamed i j n q v hi hj e =
      e
      ∙ onwards_accepts (λ U. margin_test U i j n q then accepted (margin U i j n q)) read
      ∙ ap (λ (u : Test). u then accepted (margin S i j n q)) tests
      ∙ ap (λ (z : ℤ). margin_test T (by.place i) (by.place j) n q then accepted z) (sym (renamed_margin by S T (judge_accepted s S read) re i j n q hi hj))
      ∙ sym (onwards_accepts (λ U. margin_test U (by.place i) (by.place j) n q then accepted (margin U (by.place i) (by.place j) n q)) read_renamed)
    where
      tests : margin_test S i j n q ≡ margin_test T (by.place i) (by.place j) n q
      tests =
          margin_rest S i j n q hi hj
          ∙ ap (λ (p : ℕ). asked (leb 1 n && leb n 1000) 2 then asked (leb 1 q && leb q p) 3) (sym re.len)
          ∙ sym (margin_rest T (by.place i) (by.place j) n q (re.places.there i hi) (re.places.there j hj))

-- boards or modes renamed, and the operations where they were: plan answers the same, byte for byte, ROOM included
module _ (s out : List ℕ) (S T : Table) (read : judge s ≡ accepted S) (w x : Written) (plan : IsPlan s out w) (plan' : IsPlan (table_bytes T) out x) where
  same_plan : Kept S T × ((q : ℕ) → reply_of T q ≡ reply_of S q) → x ≡ w
  same_plan (kept, rows) =
      let ok = kept.accepted in
      let is = period_found S (judge_accepted s S read) in
      let q = period_of S in
      let same : period_of T ≡ q = period_unique T (period_of T) q (period_found T ok) ((kept.period q).0 is) in
      plan_put (table_bytes T) out x T (write_read T ok) plan'
      ∙ ap (λ (R : Reply). put (reply_bytes R) out) (ap (reply_of T) same ∙ rows q)
      ∙ sym (plan_put s out w S read plan)

  pub boards_same_plan : (f : ℕ → ℕ) → Renamed (boards_by f) S T → x ≡ w
  boards_same_plan f re = same_plan (boards_kept f S T (judge_accepted s S read) re)

  pub modes_same_plan : (f : ℕ → ℕ) → Renamed (modes_by f) S T → x ≡ w
  modes_same_plan f re = same_plan (modes_kept f S T (judge_accepted s S read) re)
