-- Document 02, No. 4: "Without the field the table reads as before." Every input has the verdict that it had, but for those that were refused because
-- a field 05 was not due; numbers without a mark have the verdict that they had. And which periods are right does not depend on who decides.
-- Assumes nothing.
use Prim.Native.Nat.{ℕ, zero, suc, ◌+◌, ◌<◌, ◌≤◌}
use mathlib.Core.Path.{◌≡◌, refl, sym, ap, subst, ◌∙◌}
use mathlib.Core.Bool.{Bool, not, cond}
use mathlib.Core.List.{List, [], ◌∷◌}
use mathlib.Core.Logic.{◌↔◌, ◌⊎◌, inl, inr}
use native.Mathlib.Omega.{arith}
use lib.Dec.{leb}
use lib.ListN.{length}
use borrow.Author.Tests.{le-leb, lt-leb, leb-true, leb-false, ne_eqb, eq-eqb}
use Rattle.rules.specs.Table.{Op, Decider, nobody, Table, nops}
use Rattle.rules.specs.Runs.{IsRun, Runs, Source, BoardsRightAt, ValuesRightAt, Right}
use Rattle.rules.specs.Verdicts.{Verdict, accepted, refused, ORDER, CLASH, RACE, Test, ◌then◌, onwards, more}
use Rattle.rules.specs.Bytes.{num8, op_size, held_at, op_at}
use Rattle.rules.specs.Judge.{needed, header, due, field_test, repeat_test, at_end, decider_wrong, clashes, races, pairs_test, early_test, judge_whole, head_of, with_ops, with_decider, ops_place, ops_size, ops_end, head_test, ops_done, size_at, wrong_at, ops_from, nothing_due, decider_at, judge_behind, judge, Numbers, head_of_numbers, decider_of, ops_of_numbers, judge_decider, judge_numbers}
use Rattle.theory.specs.Holds.{op_width}
use Rattle.theory.specs.DeciderBefore.{whole_before, ops_before, judge_before, numbers_before}
use Rattle.theory.proofs.Says.{Known, holds, fails, known, clash_bool}
use Rattle.theory.proofs.Verdicts.{never_refused, passes, refuses, then_accepts, then_refuses, then_again, then_assoc, onwards_accepts, onwards_refuses, onwards_same, more_accepts, more_first}
use Rattle.theory.proofs.Ranges.{ranged_yes, decider_none}
use Rattle.theory.proofs.Early.{no_early}
use Rattle.theory.proofs.Judging.{repeat_row, repeat_passed, field_row, fields_end, fields_next, own_form, plain_at, size_none, size_more, whole_row, done_end, done_is, judge_row, behind_row, decider_row, judge_numbers_row, judge_decider_row}

-- ---- the last tests: where nobody decides there is none more
whole_before_lem : (T : Table) → T.decider ≡ nobody → judge_whole T ≡ whole_before T
unfolding whole_before
whole_before_lem T e =
    whole_row T
    ∙ then_again (pairs_test clashes CLASH T)
    (then_again (pairs_test races RACE T) (then_accepts (accepted T) (ap (λ (who : Decider). early_test T who) e ∙ no_early T)))

-- ---- a table handed over as numbers, with the mark unset
pub numbers_before_lem : (N : Numbers) → N.mark ≡ 0 → judge_numbers N ≡ numbers_before N
unfolding numbers_before
numbers_before_lem N unset =
    let H = head_of_numbers N in
    let who : decider_of N ≡ nobody = rw (eq-eqb N.mark 0 unset) in
    judge_numbers_row N
    ∙ then_again _
    (onwards_same (ops_of_numbers H N.ops N.holds 32 (ops_place N.modes)) (λ os. judge_decider (decider_of N) (with_ops H os)) (λ os. whole_before (with_ops H os))
    (λ os _.
    ap (λ (x : Decider). judge_decider x (with_ops H os)) who
    ∙ judge_decider_row nobody (with_ops H os)
    ∙ then_accepts _ (ranged_yes _ _ (decider_none (length os)))
    ∙ whole_before_lem (with_ops H os) refl))

-- ---- a table's bytes

-- the rows of tests that the verdict before was
before_row : (s : List ℕ)
    → judge_before s ≡ (head_test s then onwards (ops_before (head_of s) s 32 (ops_place (head_of s).modes)) (λ os. whole_before (with_ops (head_of s) os)))
unfolding judge_before
before_row s = refl

head_nobody : (s : List ℕ) → (head_of s).decider ≡ nobody
unfolding head_of
head_nobody s = refl

module _ (T : Table) (s : List ℕ) where
  -- the tests at one place, before and now
  was_end : (at : ℕ)
      → ops_before T s zero at ≡ cond (leb (length s) at) (accepted []) (repeat_test s at 0 4 (size_at s at) (wrong_at T s at) then accepted [])
  unfolding ops_before
  was_end at = fields_end at_end 4 size_at (wrong_at T) op_at s at

  is_end : (at : ℕ)
      → ops_from T s zero at ≡ cond (ops_done T s at) (accepted []) (repeat_test s at 0 4 (size_at s at) (wrong_at T s at) then accepted [])
  unfolding ops_from
  is_end at = fields_end (ops_done T) 4 size_at (wrong_at T) op_at s at

  was_next : (left at : ℕ)
      → ops_before T s (suc left) at
      ≡ cond (leb (length s) at) (accepted [])
      (repeat_test s at (suc left) 4 (size_at s at) (wrong_at T s at) then more (op_at s at) (ops_before T s left (at + 3 + size_at s at)))
  unfolding ops_before
  was_next left at = fields_next at_end 4 size_at (wrong_at T) op_at s left at

  is_next : (left at : ℕ)
      → ops_from T s (suc left) at
      ≡ cond (ops_done T s at) (accepted [])
      (repeat_test s at (suc left) 4 (size_at s at) (wrong_at T s at) then more (op_at s at) (ops_from T s left (at + 3 + size_at s at)))
  unfolding ops_from
  is_next left at = fields_next (ops_done T) 4 size_at (wrong_at T) op_at s left at

  -- what was said of the operations' fields from a place on, and what is said now: the same, and where they are accepted the input ends behind
  -- them; or they end before a field 05, which was not due
  data Beside (at : ℕ) (was is : Verdict (List Op)) : Type 0 where
    alike : was ≡ is → ((os : List Op) → is ≡ accepted os → length s ≤ at + ops_size os) → Beside at was is
    stopped : (os : List Op) (place : ℕ) → place ≡ at + ops_size os → is ≡ accepted os → place < length s → num8 s place ≡ 5
        → was ≡ (header s place then refused ORDER place 0) → Beside at was is

  -- said of other words for the same verdicts
  beside_as : {at : ℕ} {was was' is is' : Verdict (List Op)} → was ≡ was' → is ≡ is' → Beside at was' is' → Beside at was is
  beside_as {at} {was} {was'} {is} {is'} e f x =
      subst (λ (v : Verdict (List Op)). Beside at v is) (sym e) (subst (λ (w : Verdict (List Op)). Beside at was' w) (sym f) x)

  -- a field 05 was not due
  not_due : (left size wrong at : ℕ) (v : Verdict (List Op)) → num8 s at ≡ 5
      → (repeat_test s at left 4 size wrong then v) ≡ (header s at then refused ORDER at 0)
  unfolding due
  not_due left size wrong at v five =
      ap (λ (t : Test). t then v) (repeat_row s at 4 size wrong left)
      ∙ then_assoc (header s at) _ v
      ∙ then_again (header s at) (then_refuses v (then_refuses _ (refuses _ ORDER at 0 (ap not (ne_eqb (num8 s at) 4 (λ e. omega arith))))))

  -- one field and what comes behind it
  beside_field : (left size wrong at : ℕ) (v w : Verdict (List Op))
      → (repeat_test s at left 4 size wrong ≡ accepted tt → Beside at v w)
      → Beside at (cond (leb (length s) at) (accepted []) (repeat_test s at left 4 size wrong then v))
      (cond (ops_done T s at) (accepted []) (repeat_test s at left 4 size wrong then w))
  beside_field left size wrong at v w rest = go (known (leb (length s) at)) (known (ops_done T s at))
    where
      test : Test
      test = repeat_test s at left 4 size wrong

      tested : (t : Test) → test ≡ t → Beside at (test then v) (test then w)
      tested (accepted x) e = beside_as (then_accepts v e) (then_accepts w e) (rest e)
      tested (refused n a b) e =
          alike (then_refuses v e ∙ sym (then_refuses w e)) (λ os h. never_refused (sym (then_refuses w e) ∙ h))

      none : ◌≡◌ {A = Verdict (List Op)} (accepted []) (accepted [])
      none = refl

      go : Known (leb (length s) at) → Known (ops_done T s at)
          → Beside at (cond (leb (length s) at) (accepted []) (test then v)) (cond (ops_done T s at) (accepted []) (test then w))
      go (holds b) _ =
          beside_as (rw b) (rw (done_end T s at (leb-true (length s) at b)))
          (alike none (λ os e. omega (arith, leb-true (length s) at b)))
      go (fails b) (holds d) =
          let five = done_is T s at d (leb-false (length s) at b) in
          stopped [] at (omega (arith, size_none)) (rw d) (leb-false (length s) at b) five (rw b (not_due left size wrong at v five))
      go (fails b) (fails d) = beside_as (rw b) (rw d) (tested test refl)

  -- one operation more in front, written in the bytes that were passed over
  more_order : (x : Op) (t : Test) (place : ℕ) → more x (t then refused ORDER place 0) ≡ (t then refused ORDER place 0)
  unfolding more ◌then◌
  more_order x (accepted y) place = refl
  more_order x (refused n a b) place = refl

  beside_more : (x : Op) {at next : ℕ} {was is : Verdict (List Op)} → next ≡ at + op_width x → Beside next was is → Beside at (more x was) (more x is)
  beside_more x {at} {next} {was} {is} width (alike e f) =
      alike (ap (more x) e)
      (λ os h. let (us, come, whole) = more_first x is h in omega (arith, width, f us come, ap ops_size whole, size_more x us))
  beside_more x width (stopped os place e come less five old) =
      stopped (x ∷ os) place (omega (arith, width, e, size_more x os)) (more_accepts x come) less five (ap (more x) old ∙ more_order x (header s place) place)

  field_width : (left at : ℕ) → repeat_test s at (suc left) 4 (size_at s at) (wrong_at T s at) ≡ accepted tt → at + 3 + size_at s at ≡ at + op_width (op_at s at)
  field_width left at e =
      omega (arith, ap op_size (own_form T (held_at s at) (op_at s at) (plain_at s at) (repeat_passed s at 4 (size_at s at) _ (suc left) e).2))

  beside_ops : (left at : ℕ) → Beside at (ops_before T s left at) (ops_from T s left at)
  beside_ops zero at =
      beside_as (was_end at) (is_end at)
      (beside_field 0 _ _ at (accepted []) (accepted []) (λ e. clash_bool refl (repeat_passed s at 4 _ _ 0 e).0))
  beside_ops (suc left) at =
      beside_as (was_next left at) (is_next left at)
      (beside_field (suc left) _ _ at _ _ (λ e. beside_more (op_at s at) (field_width left at e) (beside_ops left (at + 3 + size_at s at))))

module _ (s : List ℕ) where
  -- behind operations that end with the input comes nothing new
  behind_before : (T : Table) → T.decider ≡ nobody → length s ≤ ops_end T → judge_behind s T ≡ whole_before T
  behind_before T none h =
      let end = le-leb (length s) (ops_end T) h in
      let who : decider_at s (ops_end T) ≡ T.decider = rw end (sym none) in
      behind_row s T
      ∙ then_accepts _ (decider_row s (ops_end T) (nops T) ∙ rw end)
      ∙ ap (λ (x : Decider). judge_whole (with_decider T x)) who
      ∙ whole_before_lem T none

  -- where a field 05 stands, a header that is not complete is SHORT then as now
  behind_short : (T : Table) {n a b : ℕ} → ops_end T < length s → header s (ops_end T) ≡ refused n a b → judge_behind s T ≡ refused n a b
  unfolding needed
  behind_short T h e =
      let on = lt-leb (length s) (ops_end T) h in
      behind_row s T
      ∙ then_refuses _
      (decider_row s (ops_end T) (nops T)
      ∙ ap (λ (x : Bool). cond x (accepted tt) (field_test s (ops_end T) 5 1 (decider_wrong (nops T) (decider_at s (ops_end T))) then nothing_due s (ops_end T + 4))) on
      ∙ then_refuses _ (field_row s (ops_end T) 5 1 _ ∙ then_accepts _ (passes _ ORDER (ops_end T) 0 on) ∙ then_refuses _ e))

  abbrev H : Table
  H = head_of s

  abbrev place : ℕ
  place = ops_place H.modes

  -- what the verdict was: it is the same, or a field 05 was refused that was not due
  abbrev Before : Verdict Table → Verdict Table → Type 0
  Before was is = (was ≡ is) ⊎ ((at : ℕ) × (num8 s at ≡ 5) × (was ≡ refused ORDER at 0))

  ops_before_lem : {was is : Verdict (List Op)} → Beside H s place was is
      → Before (onwards was (λ os. whole_before (with_ops H os))) (onwards is (λ os. judge_behind s (with_ops H os)))
  ops_before_lem {was} {is} (alike e ends) =
      inl
      (ap (λ (v : Verdict (List Op)). onwards v (λ os. whole_before (with_ops H os))) e
      ∙ onwards_same is (λ os. whole_before (with_ops H os)) (λ os. judge_behind s (with_ops H os))
      (λ os come. sym (behind_before (with_ops H os) (head_nobody s) (ends os come))))
  ops_before_lem {was} {is} (stopped os at e come less five old) = go (header s at) refl
    where
      go : (t : Test) → header s at ≡ t
          → Before (onwards was (λ os. whole_before (with_ops H os))) (onwards is (λ os. judge_behind s (with_ops H os)))
      go (accepted x) h = inr (at, five, onwards_refuses _ (old ∙ then_accepts _ h))
      go (refused n a b) h =
          inl
          (onwards_refuses _ (old ∙ then_refuses _ h)
          ∙ sym (onwards_accepts _ come ∙ behind_short (with_ops H os) (omega arith) (subst (λ (k : ℕ). header s k ≡ refused n a b) e h)))

  pub judge_before_lem : (judge_before s ≡ judge s) ⊎ ((at : ℕ) × (num8 s at ≡ 5) × (judge_before s ≡ refused ORDER at 0))
  judge_before_lem = go (head_test s) refl (ops_before_lem (beside_ops H s 32 place))
    where
      go : (t : Test) → head_test s ≡ t
          → Before (onwards (ops_before H s 32 place) (λ os. whole_before (with_ops H os))) (onwards (ops_from H s 32 place) (λ os. judge_behind s (with_ops H os)))
          → Before (judge_before s) (judge s)
      go (accepted x) e (inl same) = inl (before_row s ∙ then_accepts _ e ∙ same ∙ sym (judge_row s ∙ then_accepts _ e))
      go (accepted x) e (inr (at, five, old)) = inr (at, five, before_row s ∙ then_accepts _ e ∙ old)
      go (refused n a b) e _ = inl (before_row s ∙ then_refuses _ e ∙ sym (judge_row s ∙ then_refuses _ e))

  -- so what was accepted is accepted, as the table that it was
  pub accepted_before : (T : Table) → judge_before s ≡ accepted T → judge s ≡ accepted T
  accepted_before T e = go judge_before_lem
    where
      go : (judge_before s ≡ judge s) ⊎ ((at : ℕ) × (num8 s at ≡ 5) × (judge_before s ≡ refused ORDER at 0)) → judge s ≡ accepted T
      go (inl same) = sym same ∙ e
      go (inr (at, five, old)) = never_refused (sym old ∙ e)

-- ---- who decides asks nothing of a period

module _ (T : Table) (who : Decider) where
  abbrev U : Table
  U = with_decider T who

  -- its runs are those without
  run_without : {r : List ℕ} → IsRun U r → IsRun T r
  run_without x = record { some = x.some; begins = x.begins; goes = x.goes }

  runs_without : {r : List ℕ} {k i : ℕ} → Runs U r k i → Runs T r k i
  runs_without x = record { cycle = x.cycle; is_op = x.is_op; in_mode = x.in_mode }

  runs_with : {r : List ℕ} {k i : ℕ} → Runs T r k i → Runs U r k i
  runs_with x = record { cycle = x.cycle; is_op = x.is_op; in_mode = x.in_mode }

  source_without : {r : List ℕ} {c d i k : ℕ} → Source U r c d i k → Source T r c d i k
  source_without x =
      record { runs = runs_without x.runs; writes = x.writes; before = x.before; last = λ u m y. x.last u m (runs_with y) }

  right_with : (q : ℕ) → Right T q → Right U q
  unfolding BoardsRightAt ValuesRightAt
  right_with q x =
      record {
        boards = λ r run i k j l a b. x.boards r (run_without run) i k j l (runs_without a) (runs_without b);
        values = λ r run c i k j l a reads source. x.values r (run_without run) c i k j l (runs_without a) reads (source_without source);
      }

pub right_before : (T : Table) (who : Decider) (q : ℕ) → Right (with_decider T who) q ↔ Right T q
right_before T who q = (right_with (with_decider T who) T.decider q, right_with T who q)
