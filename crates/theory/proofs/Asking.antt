-- What a test of a number that is asked for comes to, and the table of a question about q.
-- Assumes nothing.
use Prim.Native.Nat.{ℕ, ◌<◌, ◌≤◌}
use mathlib.Core.Path.{◌≡◌, refl, sym, ap, subst⁻¹, ◌∙◌}
use mathlib.Core.Bool.{Bool, true, false, not, ◌&&◌}
use mathlib.Core.List.{List}
use lib.Dec.{leb, ltb}
use borrow.Author.Tests.{not-false}
use Rattle.rules.specs.Table.{Table, nops}
use Rattle.rules.specs.Verdicts.{Verdict, accepted, refused, ASK, ◌then◌}
use Rattle.rules.specs.Judge.{judge}
use Rattle.rules.specs.Answers.{Answers, asked, period_asked, margin_test, asked_table, YesFor, YesNo}
use Rattle.theory.proofs.Says.{says_leb, says_ltb, says_and, Known, known, holds, fails}
use Rattle.theory.proofs.Verdicts.{never_refused, passes, passed, refuses, then_first, then_rest, then_accepts, onwards_accepts, onwards_first}

-- ---- one test

pub asked_no : (ok : Bool) (place : ℕ) → ok ≡ false → asked ok place ≡ refused ASK place 0
unfolding asked
asked_no ok place h = refuses (not ok) ASK place 0 (ap not h)

pub asked_yes : (ok : Bool) (place : ℕ) → ok ≡ true → asked ok place ≡ accepted tt
unfolding asked
asked_yes ok place h = passes (not ok) ASK place 0 (ap not h)

-- a number from 1 to a bound
module _ (x top place : ℕ) where
  pub asked_in : 1 ≤ x → x ≤ top → asked (leb 1 x && leb x top) place ≡ accepted tt
  asked_in l h = asked_yes _ place ((says_and (leb 1 x) (leb x top) (says_leb 1 x) (says_leb x top)).1 (l, h))

  pub asked_out : (1 ≤ x → x ≤ top → ⊥) → asked (leb 1 x && leb x top) place ≡ refused ASK place 0
  asked_out out = go (known (leb 1 x && leb x top))
    where
      go : Known (leb 1 x && leb x top) → asked (leb 1 x && leb x top) place ≡ refused ASK place 0
      go (holds e) =
          let (l, h) = (says_and (leb 1 x) (leb x top) (says_leb 1 x) (says_leb x top)).0 e in
          absurd (out l h)
      go (fails e) = asked_no _ place e

  asked_passed : asked (leb 1 x && leb x top) place ≡ accepted tt → (1 ≤ x) × (x ≤ top)
  unfolding asked
  asked_passed e =
      (says_and (leb 1 x) (leb x top) (says_leb 1 x) (says_leb x top)).0 (not-false _ (passed (not (leb 1 x && leb x top)) ASK place 0 e))

-- a number below a bound
below_passed : (x top place : ℕ) → asked (ltb x top) place ≡ accepted tt → x < top
unfolding asked
below_passed x top place e = (says_ltb x top).0 (not-false _ (passed (not (ltb x top)) ASK place 0 e))

-- ---- the four tests of a margin
module _ (T : Table) (i j n q : ℕ) where
  pub margin_row : margin_test T i j n q
      ≡ (asked (ltb i (nops T)) 0 then asked (ltb j (nops T)) 1 then asked (leb 1 n && leb n 1000) 2 then period_asked T q 3)
  unfolding margin_test
  margin_row = refl

  pub margin_passed : margin_test T i j n q ≡ accepted tt → (i < nops T) × (j < nops T) × (n ≤ 1000) × (q ≤ T.len)
  margin_passed e =
      let all = sym margin_row ∙ e in
      let behind-i = then_rest (asked (ltb i (nops T)) 0) _ all in
      let behind-j = then_rest (asked (ltb j (nops T)) 1) _ behind-i in (
        below_passed i (nops T) 0 (then_first (asked (ltb i (nops T)) 0) _ all).1,
        below_passed j (nops T) 1 (then_first (asked (ltb j (nops T)) 1) _ behind-i).1,
        (asked_passed n 1000 2 (then_first (asked (leb 1 n && leb n 1000) 2) _ behind-j).1).1,
        (asked_passed q T.len 3 (then_rest (asked (leb 1 n && leb n 1000) 2) _ behind-j)).1,
      )

-- ---- a table that may be asked about q: accepted, and q from 1 to its length
module _ (s : List ℕ) (q : ℕ) (T : Table) where
  pub question : asked_table s q ≡ accepted T → (judge s ≡ accepted T) × (1 ≤ q) × (q ≤ T.len)
  question e =
      let (U, x, y) = onwards_first (judge s) (λ T. period_asked T q 0 then accepted T) e in
      let same : U ≡ T = cc (then_rest (period_asked U q 0) (accepted U) y) in
      let (low, high) = asked_passed q U.len 0 (then_first (period_asked U q 0) (accepted U) y).1 in
      (x ∙ ap accepted same, low, rw same at high)

  pub questioned : judge s ≡ accepted T → 1 ≤ q → q ≤ T.len → asked_table s q ≡ accepted T
  questioned read low high =
      onwards_accepts (λ T. period_asked T q 0 then accepted T) read ∙ then_accepts (accepted T) (asked_in q T.len 0 low high)

-- ---- from an answer to what was accepted, and back
module _ {A B : Type 0} (P : A → B → Type 0) where
  pub answered_first : (u : Verdict A) (v : Verdict B) {y : B} → Answers P u v → v ≡ accepted y → (x : A) × (u ≡ accepted x) × P x y
  unfolding Answers
  answered_first (accepted x) v {y} a e = let same : a.0 ≡ y = cc (a.2, e) in (x, refl, rw same at a.1)
  answered_first (refused n b c) v a e = never_refused (sym a ∙ e)

  pub answered_back : (u : Verdict A) (v : Verdict B) {x : A} → Answers P u v → u ≡ accepted x → (y : B) × P x y × (v ≡ accepted y)
  unfolding Answers
  answered_back (accepted z) v {x} a e = let same : z ≡ x = cc in (a.0, rw same at a.1, a.2)
  answered_back (refused n b c) v a e = never_refused e

  -- what holds of what was accepted is the answer
  pub accepted_answers : {u : Verdict A} {x : A} {y : B} → u ≡ accepted x → P x y → Answers P u (accepted y)
  unfolding Answers
  accepted_answers {y = y} e p = subst⁻¹ (λ (v : Verdict A). Answers P v (accepted y)) e (y, p, refl)

  -- a refusal is that of what was to be accepted
  pub answered_refused : (u : Verdict A) (v : Verdict B) {n a b : ℕ} → Answers P u v → v ≡ refused n a b → u ≡ refused n a b
  unfolding Answers
  answered_refused (accepted x) v a e = never_refused (sym e ∙ a.2)
  answered_refused (refused m c d) v a e = cc

-- ---- a yes says that the table is accepted, q from 1 to its length, and that P holds of q
module _ (P : Table → ℕ → Type 0) (s : List ℕ) (q : ℕ) where
  pub yes_first : {v : Verdict Bool} → YesNo P s q v → v ≡ accepted true → (T : Table) × (judge s ≡ accepted T) × (1 ≤ q) × (q ≤ T.len) × P T q
  yes_first {v} said e =
      let (T, asks, says) = answered_first (YesFor P q) (asked_table s q) v said e in
      let (read, low, high) = question s q T asks in
      (T, read, low, high, says.0 refl)

  module _ (T : Table) (read : judge s ≡ accepted T) (low : 1 ≤ q) (high : q ≤ T.len) (holds : P T q) where
    pub yes_said : YesNo P s q (accepted true)
    yes_said = accepted_answers (YesFor P q) (questioned s q T read low high) (λ _. holds, λ _. refl)
