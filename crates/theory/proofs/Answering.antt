-- Every public answer is there for every input, and there is only one.
-- Assumes nothing.
use Prim.Native.Nat.{ℕ, ◌+◌, ◌*◌, ◌<◌, ◌≤◌}
use mathlib.Core.Path.{◌≡◌, refl, sym, ap, subst⁻¹, ◌∙◌}
use mathlib.Core.Bool.{Bool, true, false}
use mathlib.Core.List.{List, ◌++◌}
use mathlib.Core.Logic.{◌↔◌}
use native.Mathlib.Omega.{arith}
use native.Mathlib.Decide.{dec_lt}
use lib.IntN.{ℤ}
use lib.ListN.{length, take, drop, length-append, length-drop}
use borrow.Author.Tests.{lt-ltb, le-ltb}
use Rattle.rules.specs.Table.{Table, nops, Accepted}
use Rattle.rules.specs.Runs.{IsPeriod}
use Rattle.rules.specs.Gaps.{IsGap}
use Rattle.rules.specs.Rows.{Reply, reply_of}
use Rattle.rules.specs.Verdicts.{Verdict, accepted, refused, ROOM, onwards}
use Rattle.rules.specs.Bytes.{reply_bytes, farthest}
use Rattle.rules.specs.Judge.{judge, Numbers}
use Rattle.rules.specs.Text.{reply_text, text_of}
use Rattle.rules.specs.Answers.{Written, put, written, Answers, Planned, ReplyTo, bytes_of, IsPlan, IsText, IsFold, IsUnfold, IsWrite, IsMargin, IsPeriodOf, IsGapOf, asked_table, YesFor, YesNo, Fit, BoardsFit, Arrive, ValuesArrive}
use Rattle.theory.specs.Tests.{period_of, plan_of, boards_answer, values_answer, gap_of, gap_answer}
use Rattle.theory.proofs.Says.{Says}
use Rattle.theory.proofs.Verdicts.{never_refused, onwards_accepts}
use Rattle.theory.proofs.Period.{period_unique}
use Rattle.theory.proofs.Exists.{says_fit, says_arrive, period_found}
use Rattle.theory.proofs.Gaps.{gap_unique, gap_not_below, gap_found}
use Rattle.theory.proofs.Judging.{judge_accepted}
use Rattle.theory.proofs.Lengths.{no_farther}
use Rattle.theory.proofs.Bytes.{reply_size}
use Rattle.theory.proofs.Asking.{question, answered_first, answered_refused}

-- ---- answers that are facts about what was accepted

-- one answer for each thing accepted: one verdict
pub answers_unique : {A B : Type 0} (P : A → B → Type 0) → ((x : A) (y z : B) → P x y → P x z → y ≡ z) → (u : Verdict A) (v w : Verdict B)
    → Answers P u v → Answers P u w → v ≡ w
unfolding Answers
answers_unique P one (accepted x) v w p q = p.2 ∙ ap accepted (one x p.0 q.0 p.1 q.1) ∙ sym q.2
answers_unique P one (refused n a b) v w p q = p ∙ sym q

-- an answer for each thing accepted: a verdict
pub answers_exist : {A B : Type 0} (P : A → B → Type 0) (f : A → B) (u : Verdict A) → ((x : A) → u ≡ accepted x → P x (f x))
    → Answers P u (onwards u (λ x. accepted (f x)))
unfolding Answers onwards
answers_exist P f (accepted x) g = (f x, g x refl, refl)
answers_exist P f (refused n a b) g = refl

-- ---- lent bytes

-- with room: the number of bytes, then the bytes and the rest of the buffer
pub put_room : (bytes out : List ℕ) → length bytes ≤ length out
    → put bytes out ≡ record { answer = accepted (length bytes); buffer = bytes ++ drop (length bytes) out }
unfolding put
put_room bytes out h = rw (le-ltb (length out) (length bytes) h)

-- without: ROOM
pub put_short : (bytes out : List ℕ) → length out < length bytes
    → put bytes out ≡ record { answer = refused ROOM (length bytes) 0; buffer = out }
unfolding put
put_short bytes out h = rw (lt-ltb (length out) (length bytes) h)

put_refused : (bytes out : List ℕ) (n a b : ℕ) → (put bytes out).answer ≡ refused n a b → (put bytes out).buffer ≡ out
put_refused bytes out n a b e = go (dec_lt (length out) (length bytes))
  where
    go : Dec (length out < length bytes) → (put bytes out).buffer ≡ out
    go (yes h) = ap (λ (w : Written). w.buffer) (put_short bytes out h)
    go (no h) = never_refused (sym e ∙ ap (λ (w : Written). w.answer) (put_room bytes out (omega arith)))

-- demand 1: "A refusal gives its number and two figures .., and the reply buffer keeps each byte it had", whatever was to be written
pub refusal_keeps : (v : Verdict (List ℕ)) (out : List ℕ) (n a b : ℕ) → (written v out).answer ≡ refused n a b → (written v out).buffer ≡ out
unfolding written
refusal_keeps (accepted bytes) out n a b e = put_refused bytes out n a b e
refusal_keeps (refused m c d) out n a b e = refl

-- whatever was to be written, no byte is added to the buffer and none taken away
put_length : (bytes out : List ℕ) → length (put bytes out).buffer ≡ length out
put_length bytes out = go (dec_lt (length out) (length bytes))
  where
    go : Dec (length out < length bytes) → length (put bytes out).buffer ≡ length out
    go (yes h) = ap (λ (w : Written). length w.buffer) (put_short bytes out h)
    go (no h) =
        ap (λ (w : Written). length w.buffer) (put_room bytes out (omega arith))
        ∙ omega (arith, length-append bytes (drop (length bytes) out), length-drop (length bytes) out)

pub written_length : (v : Verdict (List ℕ)) (out : List ℕ) → length (written v out).buffer ≡ length out
unfolding written
written_length (accepted bytes) out = put_length bytes out
written_length (refused n a b) out = refl

-- ---- plan

planned_unique : (T : Table) (R S : Reply) → Planned T R → Planned T S → R ≡ S
planned_unique T R S (q, x, e) (p, y, f) = e ∙ ap (reply_of T) (period_unique T q p x y) ∙ sym f

pub reply_unique : (s : List ℕ) (v w : Verdict Reply) → ReplyTo s v → ReplyTo s w → v ≡ w
reply_unique s = answers_unique Planned planned_unique (judge s)

-- the computed reply is the reply
pub reply_found : (s : List ℕ) → ReplyTo s (plan_of s)
unfolding plan_of
reply_found s =
    answers_exist Planned (λ T. reply_of T (period_of T)) (judge s)
    (λ T e. (period_of T, period_found T (judge_accepted s T e), refl))

pub plan_unique : (s out : List ℕ) (w x : Written) → IsPlan s out w → IsPlan s out x → w ≡ x
plan_unique s out w x (v, r, e) (u, q, f) = e ∙ ap (λ (y : Verdict Reply). written (bytes_of reply_bytes y) out) (reply_unique s v u r q) ∙ sym f

pub plan_exists : (s out : List ℕ) → (w : Written) × IsPlan s out w
plan_exists s out = (written (bytes_of reply_bytes (plan_of s)) out, (plan_of s, reply_found s, refl))

-- what is written for a table that is accepted: its reply, folded at its period
pub plan_put : (s out : List ℕ) (w : Written) (T : Table) → judge s ≡ accepted T → IsPlan s out w → w ≡ put (reply_bytes (reply_of T (period_of T))) out
unfolding plan_of written bytes_of onwards
plan_put s out w T read (v, r, e) =
    let same = reply_unique s v (plan_of s) r (reply_found s) ∙ onwards_accepts (λ U. accepted (reply_of U (period_of U))) read in
    e ∙ ap (λ (u : Verdict Reply). written (bytes_of reply_bytes u) out) same

-- "demand 2 gives every accepted table a reply": into a buffer with room, the bytes of the table folded at its period
pub plan_replies : (s out : List ℕ) (T : Table) (w : Written) → judge s ≡ accepted T → 5 + 7 * nops T ≤ length out → IsPlan s out w
    → (q : ℕ) × IsPeriod T q × (w.answer ≡ accepted (5 + 7 * nops T)) × (w.buffer ≡ reply_bytes (reply_of T q) ++ drop (5 + 7 * nops T) out)
plan_replies s out T w read room plan =
    let q = period_of T in
    let size = reply_size T q in
    let wrote = plan_put s out w T read plan ∙ put_room (reply_bytes (reply_of T q)) out (omega arith) in
    (q, period_found T (judge_accepted s T read), rw (wrote, size), rw (wrote, size))

-- ROOM into a shorter one
pub plan_room : (s out : List ℕ) (T : Table) (w : Written) → judge s ≡ accepted T → length out < 5 + 7 * nops T → IsPlan s out w
    → (w.answer ≡ refused ROOM (5 + 7 * nops T) 0) × (w.buffer ≡ out)
plan_room s out T w read short plan =
    let size = reply_size T (period_of T) in
    let wrote = plan_put s out w T read plan ∙ put_short (reply_bytes (reply_of T (period_of T))) out (omega arith) in
    (rw (wrote, size), rw wrote)

-- ---- fold: the text of the one reply
pub text_unique : (s b c : List ℕ) → IsText s b → IsText s c → b ≡ c
text_unique s b c (v, r, e) (u, q, f) = e ∙ ap text_of (reply_unique s v u r q) ∙ sym f

pub text_exists : (s : List ℕ) → (b : List ℕ) × IsText s b
text_exists s = (text_of (plan_of s), (plan_of s, reply_found s, refl))

pub fold_unique : (s out : List ℕ) (w x : Written) → IsFold s out w → IsFold s out x → w ≡ x
fold_unique s out w x (b, r, e) (c, q, f) = e ∙ ap (λ (y : List ℕ). put y out) (text_unique s b c r q) ∙ sym f

pub fold_exists : (s out : List ℕ) → (w : Written) × IsFold s out w
fold_exists s out = let (b, text) = text_exists s in (put b out, (b, text, refl))

-- an accepted table's text is that of its reply, put where there is room
pub fold-replies : (s out : List ℕ) (T : Table) (q : ℕ) (w : Written) → judge s ≡ accepted T → IsPeriod T q
    → length (reply_text (reply_of T q)) ≤ length out → IsFold s out w
    → (w.answer ≡ accepted (length (reply_text (reply_of T q))))
    × (w.buffer ≡ reply_text (reply_of T q) ++ drop (length (reply_text (reply_of T q))) out)
unfolding text_of Answers
fold-replies s out T q w read period room (b, (v, r, t), e) =
    let text = reply_text (reply_of T q) in
    let same = reply_unique s v (accepted (reply_of T q)) r (subst⁻¹ (λ (u : Verdict Table). Answers Planned u (accepted (reply_of T q))) read (reply_of T q, (q, period, refl), refl)) in
    let wrote = e ∙ ap (λ (y : List ℕ). put y out) (t ∙ ap text_of same) ∙ put_room text out room in
    (rw wrote, rw wrote)

-- ---- the period of a table's bytes
pub period_of_unique : (s : List ℕ) (v w : Verdict ℕ) → IsPeriodOf s v → IsPeriodOf s w → v ≡ w
period_of_unique s = answers_unique IsPeriod period_unique (judge s)

pub period_of_exists : (s : List ℕ) → (v : Verdict ℕ) × IsPeriodOf s v
period_of_exists s = (_, answers_exist IsPeriod period_of (judge s) (λ T e. period_found T (judge_accepted s T e)))

-- ---- the gap of a table's bytes
pub gap_of_unique : (s : List ℕ) (v w : Verdict ℕ) → IsGapOf s v → IsGapOf s w → v ≡ w
gap_of_unique s = answers_unique IsGap gap_unique (judge s)

-- the computed gap is the gap
pub gap_of_found : (s : List ℕ) → IsGapOf s (gap_answer s)
unfolding gap_answer
gap_of_found s = answers_exist IsGap gap_of (judge s) (λ T e. gap_found T (judge_accepted s T e))

pub gap_of_exists : (s : List ℕ) → (v : Verdict ℕ) × IsGapOf s v
gap_of_exists s = (gap_answer s, gap_of_found s)

-- it is not below the period that is answered
pub gap_of_not_below : (s : List ℕ) (q g : ℕ) → IsPeriodOf s (accepted q) → IsGapOf s (accepted g) → q ≤ g
gap_of_not_below s q g x y =
    let (T, read, period) = answered_first IsPeriod (judge s) (accepted q) x refl in
    let (U, read', gap) = answered_first IsGap (judge s) (accepted g) y refl in
    let same : U ≡ T = cc (read, read') in
    gap_not_below T q g period (rw same at gap)

refused_too : (P Q : Table → ℕ → Type 0) (u : Verdict Table) (n a b : ℕ) → Answers P u (refused n a b) → Answers Q u (refused n a b)
unfolding Answers
refused_too P Q u n a b x =
    subst⁻¹ (λ (v : Verdict Table). Answers Q v (refused n a b)) (answered_refused P u (refused n a b) x refl) refl

-- and is refused where the period is, with the same figures
pub gap_of_refused : (s : List ℕ) (n a b : ℕ) → IsPeriodOf s (refused n a b) ↔ IsGapOf s (refused n a b)
gap_of_refused s n a b = (refused_too IsPeriod IsGap (judge s) n a b, refused_too IsGap IsPeriod (judge s) n a b)

-- ---- unfold, write, margin: computed from the input, so one answer and always one
pub unfold_unique : (s out : List ℕ) (w x : Written) → IsUnfold s out w → IsUnfold s out x → w ≡ x
unfold_unique s out w x e f = e ∙ sym f

pub unfold_exists : (s out : List ℕ) → (w : Written) × IsUnfold s out w
unfold_exists s out = (_, refl)

pub write_unique : (N : Numbers) (out : List ℕ) (w x : Written) → IsWrite N out w → IsWrite N out x → w ≡ x
write_unique N out w x e f = e ∙ sym f

pub write_exists : (N : Numbers) (out : List ℕ) → (w : Written) × IsWrite N out w
write_exists N out = (_, refl)

pub margin_unique : (s : List ℕ) (i j n q : ℕ) (v w : Verdict ℤ) → IsMargin s i j n q v → IsMargin s i j n q w → v ≡ w
margin_unique s i j n q v w e f = e ∙ sym f

pub margin_exists : (s : List ℕ) (i j n q : ℕ) → (v : Verdict ℤ) × IsMargin s i j n q v
margin_exists s i j n q = (_, refl)

-- ---- do the boards fit at q, do the values arrive at q

-- any question with a yes or a no about q
module _ (P : Table → ℕ → Type 0) where
  yes_unique : (q : ℕ) (T : Table) (x y : Bool) → YesFor P q T x → YesFor P q T y → x ≡ y
  yes_unique q T true y a b = sym (b.1 (a.0 refl))
  yes_unique q T false true a b = a.1 (b.0 refl)
  yes_unique q T false false a b = refl

  pub yes_no_unique : (s : List ℕ) (q : ℕ) (v w : Verdict Bool) → YesNo P s q v → YesNo P s q w → v ≡ w
  yes_no_unique s q = answers_unique (YesFor P q) (yes_unique q) (asked_table s q)

  -- the computed answer is the answer, where the test says what P says
  yes_no_found : (f : Table → Bool) (s : List ℕ) (q : ℕ) → ((T : Table) → Accepted T → 1 ≤ q → Says (f T) (P T q))
      → YesNo P s q (onwards (asked_table s q) (λ T. accepted (f T)))
  yes_no_found f s q says =
      answers_exist (YesFor P q) f (asked_table s q) (λ T e. let (read, low, high) = question s q T e in says T (judge_accepted s T read) low)

pub boards_unique : (s : List ℕ) (q : ℕ) (v w : Verdict Bool) → BoardsFit s q v → BoardsFit s q w → v ≡ w
boards_unique = yes_no_unique Fit

pub values_unique : (s : List ℕ) (q : ℕ) (v w : Verdict Bool) → ValuesArrive s q v → ValuesArrive s q w → v ≡ w
values_unique = yes_no_unique Arrive

pub boards_found : (s : List ℕ) (q : ℕ) → BoardsFit s q (boards_answer s q)
unfolding boards_answer
boards_found s q = yes_no_found Fit _ s q (λ T ok low. says_fit T ok q low)

pub values_found : (s : List ℕ) (q : ℕ) → ValuesArrive s q (values_answer s q)
unfolding values_answer
values_found s q = yes_no_found Arrive _ s q (λ T ok low. says_arrive T ok q low)

pub boards_exists : (s : List ℕ) (q : ℕ) → (v : Verdict Bool) × BoardsFit s q v
boards_exists s q = (boards_answer s q, boards_found s q)

pub values_exists : (s : List ℕ) (q : ℕ) → (v : Verdict Bool) × ValuesArrive s q v
values_exists s q = (values_answer s q, values_found s q)

-- ---- both, of each function that writes
pub plan_keeps : (s out : List ℕ) (w : Written) (n a b : ℕ) → IsPlan s out w → w.answer ≡ refused n a b → w.buffer ≡ out
plan_keeps s out w n a b (v, r, e) no-plan = rw e (refusal_keeps _ out n a b (rw e at no-plan))

pub unfold_keeps : (s out : List ℕ) (w : Written) (n a b : ℕ) → IsUnfold s out w → w.answer ≡ refused n a b → w.buffer ≡ out
unfold_keeps s out w n a b e no-starts = rw e (refusal_keeps _ out n a b (rw e at no-starts))

pub write_keeps : (N : Numbers) (out : List ℕ) (w : Written) (n a b : ℕ) → IsWrite N out w → w.answer ≡ refused n a b → w.buffer ≡ out
write_keeps N out w n a b e no_table = rw e (refusal_keeps _ out n a b (rw e at no_table))

pub fold_keeps : (s out : List ℕ) (w : Written) (n a b : ℕ) → IsFold s out w → w.answer ≡ refused n a b → w.buffer ≡ out
fold_keeps s out w n a b (text, r, e) no_text = rw e (put_refused text out n a b (rw e at no_text))

pub plan_length : (s out : List ℕ) (w : Written) → IsPlan s out w → length w.buffer ≡ length out
plan_length s out w (v, r, e) = rw e (written_length _ out)

pub fold_length : (s out : List ℕ) (w : Written) → IsFold s out w → length w.buffer ≡ length out
fold_length s out w (b, r, e) = rw e (put_length b out)

pub unfold_length : (s out : List ℕ) (w : Written) → IsUnfold s out w → length w.buffer ≡ length out
unfold_length s out w e = rw e (written_length _ out)

pub write_length : (N : Numbers) (out : List ℕ) (w : Written) → IsWrite N out w → length w.buffer ≡ length out
write_length N out w e = rw e (written_length _ out)

-- ---- "no answer depends on bytes past 889": two inputs that differ only there have one answer
module _ (s t : List ℕ) (near : take farthest s ≡ take farthest t) where
  pub plan_near : (out : List ℕ) (w : Written) → IsPlan s out w → IsPlan t out w
  plan_near out w (v, r, e) = (v, rw (no_farther s t near) at r, e)

  pub text_near : (b : List ℕ) → IsText s b → IsText t b
  text_near b (v, r, e) = (v, rw (no_farther s t near) at r, e)

  pub fold_near : (out : List ℕ) (w : Written) → IsFold s out w → IsFold t out w
  fold_near out w (b, r, e) = (b, text_near b r, e)

  pub period_of_near : (v : Verdict ℕ) → IsPeriodOf s v → IsPeriodOf t v
  period_of_near v x = rw (no_farther s t near) at x

  pub gap_of_near : (v : Verdict ℕ) → IsGapOf s v → IsGapOf t v
  gap_of_near v x = rw (no_farther s t near) at x

  pub margin_near : (i j n q : ℕ) (v : Verdict ℤ) → IsMargin s i j n q v → IsMargin t i j n q v
  margin_near i j n q v e = rw (no_farther s t near) at e

  pub boards_near : (q : ℕ) (v : Verdict Bool) → BoardsFit s q v → BoardsFit t q v
  boards_near q v x = rw (no_farther s t near) at x

  pub values_near : (q : ℕ) (v : Verdict Bool) → ValuesArrive s q v → ValuesArrive t q v
  values_near q v x = rw (no_farther s t near) at x
