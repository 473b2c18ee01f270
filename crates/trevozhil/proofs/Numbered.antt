-- No refusal has the number 0, nor one above 10: of tables, replies, questions and answers.
-- Assumes nothing.
use Prim.Native.Nat.{ℕ, ◌<◌, ◌≤◌}
use mathlib.Core.Path.{sym, subst, subst⁻¹}
use mathlib.Core.Bool.{Bool, true, false, not}
use mathlib.Core.List.{List}
use native.Mathlib.Omega.{arith}
use native.Mathlib.Decide.{dec_lt}
use lib.ListN.{length}
use Rattle.rules.specs.Table.{Table}
use Rattle.rules.specs.Verdicts.{Verdict, accepted, refused, refuse_if, ◌then◌, onwards}
use Rattle.rules.specs.Judge.{judge, Numbers, judge_numbers, judge_reply}
use Rattle.rules.specs.Answers.{Written, put, Answers, asked, asked_table, margin_test}
use Rattle.theory.proofs.Bounded.{Bounded, judge_bounded, numbers_bounded, reply_bounded}
use Rattle.theory.proofs.Answering.{put_room, put_short}
use Rattle.theory.proofs.Asking.{margin_row}

-- the numbers of refusals
abbrev Refuses : ℕ → Type 0
Refuses number = (1 ≤ number) × (number ≤ 10)

-- a verdict that, where it refuses, has the number of a refusal
pub data Numbered {A : Type 0} : Verdict A → Type 0 where
  good : {x : A} → Numbered (accepted x)
  bad : {number a b : ℕ} → Refuses number → Numbered (refused number a b)

-- ---- the ways to put verdicts together
refuse_numbered : (fault : Bool) (number a b : ℕ) → Refuses number → Numbered (refuse_if fault number a b)
unfolding refuse_if
refuse_numbered true number a b h = bad h
refuse_numbered false number a b h = good

pub then_numbered : {A B : Type 0} {v : Verdict A} {w : Verdict B} → Numbered v → Numbered w → Numbered (v then w)
unfolding ◌then◌
then_numbered good g = g
then_numbered (bad h) g = bad h

pub onwards_numbered : {A B : Type 0} {v : Verdict A} {f : A → Verdict B} → Numbered v → ((x : A) → Numbered (f x)) → Numbered (onwards v f)
unfolding onwards
onwards_numbered {v = accepted x} good g = g x
onwards_numbered (bad h) g = bad h

-- ---- what is judged

bounded_numbered : {A : Type 0} (v : Verdict A) → Bounded v → Numbered v
unfolding Bounded
bounded_numbered (accepted x) h = good
bounded_numbered (refused number a b) h = bad (h.low, h.high)

pub judge_numbered : (s : List ℕ) → Numbered (judge s)
judge_numbered s = bounded_numbered (judge s) (judge_bounded s)

pub numbers_numbered : (N : Numbers) → Numbered (judge_numbers N)
numbers_numbered N = bounded_numbered (judge_numbers N) (numbers_bounded N)

pub reply_numbered : (s : List ℕ) → Numbered (judge_reply s)
reply_numbered s = bounded_numbered (judge_reply s) (reply_bounded s)

-- ---- what is asked

asked_numbered : (ok : Bool) (place : ℕ) → Numbered (asked ok place)
unfolding asked
asked_numbered ok place = refuse_numbered (not ok) 9 place 0 (omega arith, omega arith)

pub asked_table_numbered : (s : List ℕ) (q : ℕ) → Numbered (asked_table s q)
asked_table_numbered s q = onwards_numbered (judge_numbered s) (λ T. then_numbered (asked_numbered _ 0) good)

pub margin_numbered : (T : Table) (i j n q : ℕ) → Numbered (margin_test T i j n q)
margin_numbered T i j n q =
    subst Numbered (sym (margin_row T i j n q))
    (then_numbered (asked_numbered _ 0) (then_numbered (asked_numbered _ 1) (then_numbered (asked_numbered _ 2) (asked_numbered _ 3))))

-- ---- what is answered

pub put_numbered : (bytes out : List ℕ) → Numbered (put bytes out).answer
put_numbered bytes out = go (dec_lt (length out) (length bytes))
  where
    go : Dec (length out < length bytes) → Numbered (put bytes out).answer
    go (yes h) = subst⁻¹ (λ (w : Written). Numbered w.answer) (put_short bytes out h) (bad (omega arith, omega arith))
    go (no h) = subst⁻¹ (λ (w : Written). Numbered w.answer) (put_room bytes out (omega arith)) good

pub answers_numbered : {A B : Type 0} (P : A → B → Type 0) {u : Verdict A} {v : Verdict B} → Numbered u → Answers P u v → Numbered v
unfolding Answers
answers_numbered P good x = subst⁻¹ Numbered x.2 good
answers_numbered P (bad h) x = subst⁻¹ Numbered x (bad h)
