-- 0 is told of success alone, by each function for C; every other number that it returns is that of a refusal, 1 to 10.
-- Assumes nothing.
use Prim.Native.Nat.{ℕ, ◌≤◌, ◌<◌}
use mathlib.Core.Path.{◌≡◌, refl, sym, ap, subst⁻¹, ◌∙◌}
use mathlib.Core.Bool.{Bool, cond}
use mathlib.Core.List.{List, ◌++◌}
use native.Mathlib.Omega.{arith}
use native.Mathlib.Decide.{dec_lt}
use lib.IntN.{ℤ}
use lib.ListN.{length, drop}
use Rattle.rules.specs.Table.{Table}
use Rattle.rules.specs.Runs.{IsPeriod}
use Rattle.rules.specs.Gaps.{IsGap}
use Rattle.rules.specs.Rows.{Reply, starts_of, margin}
use Rattle.rules.specs.Verdicts.{Verdict, accepted, refused, ◌then◌, onwards}
use Rattle.rules.specs.Bytes.{table_bytes, reply_bytes, starts_bytes}
use Rattle.rules.specs.Judge.{judge, judge_reply, Numbers, judge_numbers}
use Rattle.rules.specs.Answers.{Written, put, written, bytes_of, Planned, Answers, ReplyTo, IsText, asked_table, YesFor, Fit, Arrive, margin_test}
use Rattle.theory.proofs.Verdicts.{never_refused, then_accepts, then_first, onwards_accepts, onwards_first}
use Rattle.theory.proofs.Answering.{put_room, put_short}
use Rattle.theory.proofs.Asking.{question, questioned, answered_first, answered_back}
use Rattle.figures.specs.declared.Figures.{Figures}
use Rattle.figures.specs.Figures.{figures_of}
use Rattle.telling.specs.Telling.{told_of, unwritten, yes_of, Ended, ended, ended_of, ended_with}
use Rattle.calls.specs.Calls.{JudgeTells, NumbersTell, WriteEnds, PlanEnds, FoldEnds, UnfoldEnds, PeriodTells, GapTells, YesNoTells, BoardsTell, ValuesTell, MarginEnds}
use Rattle.trevozhil.proofs.Numbered.{Numbered, good, bad, then_numbered, onwards_numbered, judge_numbered, numbers_numbered, reply_numbered, asked_table_numbered, margin_numbered, put_numbered, answers_numbered}

-- 0 is told exactly where P holds, and no number above 10
pub record ZeroAlone (f : Figures) (P : Type 0) : Type 0 where
  pub success : f.number ≡ 0 → P
  pub zero : P → f.number ≡ 0
  pub ten : f.number ≤ 10

-- ---- the one law: of every verdict whose refusals are numbered
told_zero : (v : Verdict ℕ) → Numbered v → ZeroAlone (told_of v) ((n : ℕ) × (v ≡ accepted n))
told_zero (accepted n) good = record { success = λ e. (n, refl); zero = λ x. refl; ten = omega arith }
told_zero (refused number a b) (bad h) =
    record { success = λ e. absurd (omega (arith, e, h.0)); zero = λ x. never_refused x.1; ten = h.1 }

-- the same in other words
zero_as : {f g : Figures} {P Q : Type 0} → g ≡ f → ZeroAlone f P → (P → Q) → (Q → P) → ZeroAlone g Q
zero_as {f} {g} {P} {Q} e z to from =
    subst⁻¹ (λ (h : Figures). ZeroAlone h Q) e
    (record { success = λ n. to (z.success n); zero = λ x. z.zero (from x); ten = z.ten })

-- of a verdict that is handed on
onwards_zero : {A : Type 0} (v : Verdict A) (g : A → ℕ) → Numbered v
    → ZeroAlone (told_of (onwards v (λ x. accepted (g x)))) ((x : A) × (v ≡ accepted x))
onwards_zero v g h =
    zero_as refl (told_zero _ (onwards_numbered h (λ x. good)))
    (λ (n, e). let (x, y, z) = onwards_first v (λ x. accepted (g x)) e in (x, y))
    (λ (x, e). (g x, onwards_accepts (λ x. accepted (g x)) e))

-- ---- judged

judged_zero : {A : Type 0} (v : Verdict A) (f : Figures) → Numbered v → f ≡ told_of (unwritten v) → ZeroAlone f ((x : A) × (v ≡ accepted x))
unfolding unwritten
judged_zero v f h e = zero_as e (onwards_zero v (λ x. 0) h) (λ x. x) (λ x. x)

-- trevozhil_judge returns 0 exactly where the table is accepted
pub judge_zero : (s : List ℕ) (f : Figures) → JudgeTells s f → ZeroAlone f ((T : Table) × (judge s ≡ accepted T))
judge_zero s f e = judged_zero (judge s) f (judge_numbered s) e

-- trevozhil_judge_numbers likewise
pub numbers_zero : (N : Numbers) (f : Figures) → NumbersTell N f → ZeroAlone f ((T : Table) × (judge_numbers N ≡ accepted T))
numbers_zero N f e = judged_zero (judge_numbers N) f (numbers_numbered N) e

-- ---- with a lent buffer

-- bytes that stand in front of what the buffer held
abbrev pub in_front : List ℕ → List ℕ → Ended (List ℕ)
in_front bytes out = ended (figures_of 0 (length bytes) 0) (bytes ++ drop (length bytes) out)

-- what is accepted, where its bytes have room
abbrev Fits : {A : Type 0} → (A → List ℕ) → Verdict A → List ℕ → Type 0
Fits {A} f v out = (x : A) × (v ≡ accepted x) × (length (f x) ≤ length out)

-- 0 is told exactly of what is accepted and has room, and then its bytes are in the buffer
pub record ZeroWritten {A : Type 0} (f : A → List ℕ) (v : Verdict A) (out : List ℕ) (l : Ended (List ℕ)) : Type 0 where
  pub told : ZeroAlone l.told (Fits f v out)
  pub front : (x : A) → v ≡ accepted x → length (f x) ≤ length out → l ≡ in_front (f x) out

put_front : (bytes out : List ℕ) (l : Ended (List ℕ)) → l ≡ ended_of (put bytes out) → length bytes ≤ length out → l ≡ in_front bytes out
put_front bytes out l e room = e ∙ ap ended_of (put_room bytes out room)

put_zero : (bytes out : List ℕ) (l : Ended (List ℕ)) → l ≡ ended_of (put bytes out) → ZeroAlone l.told (length bytes ≤ length out)
put_zero bytes out l e =
    zero_as (ap (λ (m : Ended (List ℕ)). m.told) e) (told_zero (put bytes out).answer (put_numbered bytes out)) (go (dec_lt (length out) (length bytes)))
    (λ room. (length bytes, ap (λ (w : Written). w.answer) (put_room bytes out room)))
  where
    go : Dec (length out < length bytes) → (n : ℕ) × ((put bytes out).answer ≡ accepted n) → length bytes ≤ length out
    go (yes h) (n, x) = never_refused (sym (ap (λ (w : Written). w.answer) (put_short bytes out h)) ∙ x)
    go (no h) x = omega arith

written_zero : {A : Type 0} (f : A → List ℕ) (v : Verdict A) (out : List ℕ) (l : Ended (List ℕ)) → Numbered v → l ≡ ended_of (written (bytes_of f v) out)
    → ZeroWritten f v out l
unfolding written bytes_of onwards
written_zero {A} f (accepted x) out l good e =
    record {
      told = zero_as refl (put_zero (f x) out l e) (λ room. (x, refl, room)) (λ (y, same, room). subst⁻¹ (λ (u : A). length (f u) ≤ length out) (here y same) room);
      front = λ y same room. put_front (f y) out l (e ∙ ap (λ (u : A). ended_of (put (f u) out)) (here y same)) room;
    }
  where
    here : (y : A) → accepted x ≡ accepted y → x ≡ y
    here y same = cc
written_zero f (refused number a b) out l (bad h) e =
    let number_is : l.told.number ≡ number = ap (λ (m : Ended (List ℕ)). m.told.number) e in
    record {
      told =
          record {
            success = λ n. absurd (omega (arith, n, number_is, h.0));
            zero = λ (y, same, room). never_refused same;
            ten = omega (arith, number_is, h.1);
          };
      front = λ y same room. never_refused same;
    }

-- trevozhil_write returns 0 exactly where the table is accepted and its bytes have room, and then they are in the buffer
pub write_zero : (N : Numbers) (out : List ℕ) (l : Ended (List ℕ)) → WriteEnds N out l → ZeroWritten table_bytes (judge_numbers N) out l
write_zero N out l (w, p, e) = written_zero table_bytes (judge_numbers N) out l (numbers_numbered N) (e ∙ ap ended_of p)

-- trevozhil_unfold: where the reply is accepted and its starts have room
pub unfold_zero : (s out : List ℕ) (l : Ended (List ℕ)) → UnfoldEnds s out l → ZeroWritten (λ R. starts_bytes (starts_of R)) (judge_reply s) out l
unfold_zero s out l (w, p, e) = written_zero (λ R. starts_bytes (starts_of R)) (judge_reply s) out l (reply_numbered s) (e ∙ ap ended_of p)

-- trevozhil_plan: where the table is accepted and its reply, at its period, has room
pub plan_zero : (s out : List ℕ) (l : Ended (List ℕ)) → PlanEnds s out l → (v : Verdict Reply) × ReplyTo s v × ZeroWritten reply_bytes v out l
plan_zero s out l (w, (v, r, p), e) = (v, r, written_zero reply_bytes v out l (answers_numbered Planned (judge_numbered s) r) (e ∙ ap ended_of p))

-- trevozhil_fold: where the text, that of a refused table too, has room
pub fold_zero : (s out : List ℕ) (l : Ended (List ℕ)) → FoldEnds s out l
    → (text : List ℕ) × IsText s text × ZeroAlone l.told (length text ≤ length out) × (length text ≤ length out → l ≡ in_front text out)
fold_zero s out l (w, (text, is, p), e) = (text, is, put_zero text out l (e ∙ ap ended_of p), put_front text out l (e ∙ ap ended_of p))

-- ---- questions

-- a number of a table: where the table is accepted; a is that number
number_zero : (P : Table → ℕ → Type 0) (s : List ℕ) (f : Figures) (v : Verdict ℕ) → Answers P (judge s) v → f ≡ told_of v
    → ZeroAlone f ((T : Table) × (judge s ≡ accepted T) × P T f.a)
number_zero P s f v r e =
    zero_as e (told_zero v (answers_numbered P (judge_numbered s) r))
    (λ (n, x).
    let (T, y, is) = answered_first P (judge s) v r x in
    let same : f.a ≡ n = ap (λ (g : Figures). g.a) (e ∙ ap told_of x) in
    (T, y, rw same is))
    (λ (T, y, is). let (n, _, x) = answered_back P (judge s) v r y in (n, x))

-- trevozhil_period: a is the period
pub period_zero : (s : List ℕ) (f : Figures) → PeriodTells s f → ZeroAlone f ((T : Table) × (judge s ≡ accepted T) × IsPeriod T f.a)
period_zero s f (v, r, e) = number_zero IsPeriod s f v r e

-- trevozhil_gap: a is the gap
pub gap_zero : (s : List ℕ) (f : Figures) → GapTells s f → ZeroAlone f ((T : Table) × (judge s ≡ accepted T) × IsGap T f.a)
gap_zero s f (v, r, e) = number_zero IsGap s f v r e

-- a yes or a no about q: where the table is accepted and q is from 1 to its length; a is 1 for yes and 0 for no
yes_no_zero : (P : Table → ℕ → Type 0) (s : List ℕ) (q : ℕ) (f : Figures) → YesNoTells P s q f
    → ZeroAlone f ((T : Table) × (judge s ≡ accepted T) × (1 ≤ q) × (q ≤ T.len) × (is : Bool) × YesFor P q T is × (f.a ≡ cond is 1 0))
unfolding yes_of
yes_no_zero P s q f (v, r, e) =
    zero_as e (onwards_zero v (λ is. cond is 1 0) (answers_numbered (YesFor P q) (asked_table_numbered s q) r))
    (λ (is, x).
    let (T, y, says) = answered_first (YesFor P q) (asked_table s q) v r x in
    let (read, low, high) = question s q T y in
    (T, read, low, high, is, says, ap (λ (g : Figures). g.a) (e ∙ ap told_of (onwards_accepts (λ is. accepted (cond is 1 0)) x))))
    (λ (T, read, low, high, is, says, figure).
    let (said, _, x) = answered_back (YesFor P q) (asked_table s q) v r (questioned s q T read low high) in (said, x))

-- trevozhil_boards_fit
pub boards_zero : (s : List ℕ) (q : ℕ) (f : Figures) → BoardsTell s q f
    → ZeroAlone f ((T : Table) × (judge s ≡ accepted T) × (1 ≤ q) × (q ≤ T.len) × (is : Bool) × YesFor Fit q T is × (f.a ≡ cond is 1 0))
boards_zero = yes_no_zero Fit

-- trevozhil_values_arrive
pub values_zero : (s : List ℕ) (q : ℕ) (f : Figures) → ValuesTell s q f
    → ZeroAlone f ((T : Table) × (judge s ≡ accepted T) × (1 ≤ q) × (q ≤ T.len) × (is : Bool) × YesFor Arrive q T is × (f.a ≡ cond is 1 0))
values_zero = yes_no_zero Arrive

-- what is told of a margin is told of its verdict
margin_figures : (v : Verdict ℤ) (before : ℤ) → (ended_with v before).told ≡ told_of (unwritten v)
unfolding ended_with unwritten onwards
margin_figures (accepted z) before = refl
margin_figures (refused number a b) before = refl

-- trevozhil_margin: where the table is accepted and each number asked for is in its range; then the place for the margin holds it
pub margin_zero : (s : List ℕ) (i j n q : ℕ) (before : ℤ) (l : Ended ℤ) → MarginEnds s i j n q before l
    → ZeroAlone l.told ((T : Table) × (judge s ≡ accepted T) × (margin_test T i j n q ≡ accepted tt))
    × ((T : Table) → judge s ≡ accepted T → margin_test T i j n q ≡ accepted tt → l ≡ ended (figures_of 0 0 0) (margin T i j n q))
unfolding ended_with
margin_zero s i j n q before l (v, p, e) =
    let asked : Table → Verdict ℤ = λ T. margin_test T i j n q then accepted (margin T i j n q) in
    let numbered = subst⁻¹ Numbered p (onwards_numbered {f = asked} (judge_numbered s) (λ T. then_numbered (margin_numbered T i j n q) good)) in
    let z = judged_zero v l.told numbered (ap (λ (m : Ended ℤ). m.told) e ∙ margin_figures v before) in
    let found : (T : Table) → judge s ≡ accepted T → margin_test T i j n q ≡ accepted tt → v ≡ accepted (margin T i j n q) =
    λ T read test. p ∙ onwards_accepts asked read ∙ then_accepts (accepted (margin T i j n q)) test in (
      zero_as refl z
          (λ (m, x).
          let (T, read, row) = onwards_first (judge s) asked (sym p ∙ x) in
          (T, read, (then_first (margin_test T i j n q) (accepted (margin T i j n q)) row).1))
          (λ (T, read, test). (margin T i j n q, found T read test)),
      λ T read test. e ∙ ap (λ (u : Verdict ℤ). ended_with u before) (found T read test),
    )
