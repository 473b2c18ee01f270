-- Document 02, No. 9: "An 18-byte field means hold 0." Every input has the verdict that it had, but for those that were refused because a field 04 had 20
-- bytes; numbers with every mark unset have the verdict that they had; and which periods fit the boards of a table without holds is as it was.
-- Assumes nothing.
use Prim.Native.Nat.{ℕ, zero, suc, ◌+◌, ◌-◌, ◌*◌, ◌≤◌}
use mathlib.Core.Path.{◌≡◌, refl, sym, ap, subst, ◌∙◌}
use mathlib.Core.Bool.{Bool, true, false, not, cond, ◌&&◌, ◌||◌}
use mathlib.Core.List.{List, [], ◌∷◌}
use mathlib.Core.Logic.{◌↔◌, ◌⊎◌, inl, inr}
use native.Mathlib.Omega.{arith}
use lib.Dec.{ltb, eqb}
use lib.ListN.{length, get_or, drop, length-drop}
use borrow.Author.Tests.{le-ltb, ltb-false, eq-eqb, ne_eqb, eqb-true, eqb-false, not-false}
use Rattle.rules.specs.Sets.{shares, overlaps}
use Rattle.rules.specs.Table.{Op, Decider, Table, nops, no_op, op, end_of, held_to}
use Rattle.rules.specs.Runs.{BoardsRightAt}
use Rattle.rules.specs.Verdicts.{Verdict, accepted, refused, SHORT, ORDER, SIZE, CLASH, RACE, Test, refuse_if, ◌then◌, onwards, more, each}
use Rattle.rules.specs.Bytes.{num8, num16, op_size, held_at, read_op, op_at}
use Rattle.rules.specs.Judge.{header, due, sized, complete, not_many, ranged, repeat_test, op_wrong, decider_wrong, clashes, races, pairs_test, early_test, judge_whole, head_of, with_ops, with_decider, ops_place, ops_size, ops_end, head_test, ops_done, size_at, wrong_at, ops_from, decider_at, decider_test, judge_behind, judge, Numbers, marked_of, op_of_numbers, head_of_numbers, decider_of, none_left, numbers_test, ops_of_numbers, judge_decider, judge_numbers}
use Rattle.theory.specs.HoldBefore.{NoHolds, clashes18, whole18, BoardsRight18, op18, wrong18, ops18, end18, behind18, judge18, op_of18, numbers_test18, ops_of18, decider18, numbers18, Unmarked}
use Rattle.theory.proofs.Says.{Known, holds, fails, known}
use Rattle.theory.proofs.Verdicts.{never_refused, passes, refuses, passed, then_accepts, then_refuses, then_first, then_rest, then_again, then_assoc, onwards_refuses, onwards_same, onwards_first, more_first, more_refuses}
use Rattle.theory.proofs.Judging.{both, repeat_row, fields_end, fields_next, fields_all, size_none, size_more, whole_row, judge_row, behind_row, numbers_end, numbers_next, numbers_row, judge_decider_row, judge_numbers_row}
use Rattle.theory.proofs.Numbers.{after_mark}

-- ---- a table without holds

abbrev Plainly : List Op → Type 0
Plainly os = (i : ℕ) → (get_or os i no_op).hold ≡ 0

plainly_none : Plainly []
plainly_none i = refl

plainly_more : (o : Op) (os : List Op) → o.hold ≡ 0 → Plainly os → Plainly (o ∷ os)
plainly_more o os e p zero = e
plainly_more o os e p (suc i) = p i

-- each operation has 21 bytes
plainly_size : (os : List Op) → Plainly os → ops_size os ≡ 21 * length os
plainly_size [] p = omega (arith, size_none)
plainly_size (o ∷ os) p =
    omega (arith, size_more o os, ap (λ (h : ℕ). op_size (not (eqb h 0))) (p 0), plainly_size os (λ i. p (suc i)))

-- boards are held up to start + duration
clash_same : (o u : Op) → o.hold ≡ 0 → u.hold ≡ 0 → clashes o u ≡ clashes18 o u
unfolding clashes clashes18
clash_same o u e f =
    let one : held_to o ≡ end_of o = omega arith in
    let other : held_to u ≡ end_of u = omega arith in
    ap (λ (x : ℕ). shares o.boards u.boards && (shares o.modes u.modes && overlaps o.start x u.start (held_to u))) one
    ∙ ap (λ (x : ℕ). shares o.boards u.boards && (shares o.modes u.modes && overlaps o.start (end_of o) u.start x)) other

pairs_same : (T : Table) → NoHolds T → pairs_test clashes CLASH T ≡ pairs_test clashes18 CLASH T
unfolding pairs_test
pairs_same T none t =
    each (λ i. each (λ j. refuse_if (clash_same (op T i) (op T j) (none i) (none j) t) CLASH i j) (suc i) (nops T - suc i)) 0 (nops T)

whole_same : (T : Table) → NoHolds T → judge_whole T ≡ whole18 T
unfolding whole18
whole_same T none =
    whole_row T ∙ ap (λ (t : Test). t then pairs_test races RACE T then early_test T T.decider then accepted T) (pairs_same T none)

pub right_before9 : (T : Table) → NoHolds T → (start : ℕ → ℕ) → BoardsRightAt T start ↔ BoardsRight18 T start
unfolding BoardsRightAt BoardsRight18
right_before9 T none start = (
  λ right r run i k j l x y ne b lap. right r run i k j l x y ne b (omega (arith, lap.0), omega (arith, lap.1)),
  λ right r run i k j l x y ne b lap. right r run i k j l x y ne b (omega (arith, lap.0, none j), omega (arith, lap.1, none i)),
)

-- ---- a table's bytes

-- the rows of tests that the verdict before was
before_row : (s : List ℕ)
    → judge18 s ≡ (head_test s then onwards (ops18 (head_of s) s 32 (ops_place (head_of s).modes)) (λ os. behind18 s (with_ops (head_of s) os)))
unfolding judge18
before_row s = refl

module _ (T : Table) (s : List ℕ) where
  -- the tests at one place, before and now
  was_end : (at : ℕ) → ops18 T s zero at ≡ cond (ops_done T s at) (accepted []) (repeat_test s at 0 4 18 (wrong18 T s at) then accepted [])
  unfolding ops18
  was_end at = fields_end (ops_done T) 4 (λ s at. 18) (wrong18 T) op18 s at

  is_end : (at : ℕ)
      → ops_from T s zero at ≡ cond (ops_done T s at) (accepted []) (repeat_test s at 0 4 (size_at s at) (wrong_at T s at) then accepted [])
  unfolding ops_from
  is_end at = fields_end (ops_done T) 4 size_at (wrong_at T) op_at s at

  was_next : (left at : ℕ)
      → ops18 T s (suc left) at
      ≡ cond (ops_done T s at) (accepted []) (repeat_test s at (suc left) 4 18 (wrong18 T s at) then more (op18 s at) (ops18 T s left (at + 3 + 18)))
  unfolding ops18
  was_next left at = fields_next (ops_done T) 4 (λ s at. 18) (wrong18 T) op18 s left at

  is_next : (left at : ℕ)
      → ops_from T s (suc left) at
      ≡ cond (ops_done T s at) (accepted [])
      (repeat_test s at (suc left) 4 (size_at s at) (wrong_at T s at) then more (op_at s at) (ops_from T s left (at + 3 + size_at s at)))
  unfolding ops_from
  is_next left at = fields_next (ops_done T) 4 size_at (wrong_at T) op_at s left at

  -- what was said of the operations' fields from a place on, and what is said now: the same, and those that are accepted have no hold; or one has 20
  -- bytes, which was SIZE
  data Beside (was is : Verdict (List Op)) : Type 0 where
    alike : was ≡ is → ((os : List Op) → is ≡ accepted os → Plainly os) → Beside was is
    longer : (place : ℕ) → num8 s place ≡ 4 → num16 s (place + 1) ≡ 20 → was ≡ refused SIZE place 0 → Beside was is

  -- said of other words for the same verdicts
  beside_as : {was was' is is' : Verdict (List Op)} → was ≡ was' → is ≡ is' → Beside was' is' → Beside was is
  beside_as {was} {was'} {is} {is'} e f x =
      subst (λ (v : Verdict (List Op)). Beside v is) (sym e) (subst (λ (w : Verdict (List Op)). Beside was' w) (sym f) x)

  beside_none : Beside (accepted []) (accepted [])
  beside_none = alike refl (λ os e. let same : [] ≡ os = cc in subst Plainly same plainly_none)

  -- a field that is not of 20 bytes is tested and read as before
  module _ (at : ℕ) (short : held_at s at ≡ false) where
    test_same : (left : ℕ) → repeat_test s at left 4 (size_at s at) (wrong_at T s at) ≡ repeat_test s at left 4 18 (wrong18 T s at)
    unfolding op_at
    test_same left = ap (λ (b : Bool). repeat_test s at left 4 (op_size b) (op_wrong T b (read_op b s at))) short

    next_same : (left : ℕ) → more (op_at s at) (ops_from T s left (at + 3 + size_at s at)) ≡ more (op18 s at) (ops_from T s left (at + 3 + 18))
    unfolding op_at
    next_same left = ap (λ (b : Bool). more (read_op b s at) (ops_from T s left (at + 3 + op_size b))) short

  -- the tests before that of the length
  abbrev front : ℕ → ℕ → Test
  front left at = header s at then due s at 4 then not_many at left

  front_row : (left at size wrong : ℕ) (v : Verdict (List Op))
      → (repeat_test s at left 4 size wrong then v) ≡ (front left at then (sized s at size then complete s at size then ranged wrong at) then v)
  front_row left at size wrong v =
      let value = sized s at size then complete s at size then ranged wrong at in
      ap (λ (t : Test). t then v)
      (repeat_row s at 4 size wrong left ∙ sym (then_assoc (header s at) (due s at 4 then not_many at left) value ∙ then_again (header s at) (then_assoc (due s at 4) (not_many at left) value)))
      ∙ then_assoc (front left at) value v

  -- one field and what comes behind it
  beside_field : (left at : ℕ) (v w : Verdict (List Op)) → (held_at s at ≡ false → Beside v w)
      → Beside (cond (ops_done T s at) (accepted []) (repeat_test s at left 4 18 (wrong18 T s at) then v))
      (cond (ops_done T s at) (accepted []) (repeat_test s at left 4 (size_at s at) (wrong_at T s at) then w))
  unfolding due sized
  beside_field left at v w rest = go (known (ops_done T s at)) (known (held_at s at))
    where
      was : Test
      was = repeat_test s at left 4 18 (wrong18 T s at)

      is : Test
      is = repeat_test s at left 4 (size_at s at) (wrong_at T s at)

      tested : held_at s at ≡ false → (t : Test) → was ≡ t → Beside (was then v) (is then w)
      tested h (accepted x) e = beside_as (then_accepts v e) (then_accepts w (test_same at h left ∙ e)) (rest h)
      tested h (refused n a b) e =
          let now = then_refuses w (test_same at h left ∙ e) in alike (then_refuses v e ∙ sym now) (λ os x. never_refused (sym now ∙ x))

      long : held_at s at ≡ true → (t : Test) → front left at ≡ t → Beside (was then v) (is then w)
      long h (accepted x) e =
          let size = eqb-true (num16 s (at + 1)) 20 h in
          longer at (eqb-true (num8 s at) 4 (not-false _ (passed _ ORDER at 0 (then_first _ _ (then_rest _ _ e)).1))) size
          (front_row left at 18 (wrong18 T s at) v
          ∙ then_accepts _ e
          ∙ then_refuses v (then_refuses _ (refuses _ SIZE at 0 (ap not (ne_eqb (num16 s (at + 1)) 18 (λ d. omega arith))))))
      long h (refused n a b) e =
          let now = front_row left at (size_at s at) (wrong_at T s at) w ∙ then_refuses _ e in
          alike (front_row left at 18 (wrong18 T s at) v ∙ then_refuses _ e ∙ sym now) (λ os x. never_refused (sym now ∙ x))

      go : Known (ops_done T s at) → Known (held_at s at)
          → Beside (cond (ops_done T s at) (accepted []) (was then v)) (cond (ops_done T s at) (accepted []) (is then w))
      go (holds d) _ = beside_as (rw d) (rw d) beside_none
      go (fails d) (fails h) = beside_as (rw d) (rw d) (tested h was refl)
      go (fails d) (holds h) = beside_as (rw d) (rw d) (long h (front left at) refl)

  -- one operation more in front
  beside_more : (x : Op) {was is : Verdict (List Op)} → x.hold ≡ 0 → Beside was is → Beside (more x was) (more x is)
  beside_more x {was} {is} none (alike e f) =
      alike (ap (more x) e) (λ os h. let (us, come, whole) = more_first x is h in subst Plainly (sym whole) (plainly_more x us none (f us come)))
  beside_more x none (longer place tag size old) = longer place tag size (more_refuses x old)

  beside_ops : (left at : ℕ) → Beside (ops18 T s left at) (ops_from T s left at)
  beside_ops zero at = beside_as (was_end at) (is_end at) (beside_field 0 at (accepted []) (accepted []) (λ _. beside_none))
  beside_ops (suc left) at =
      beside_as (was_next left at) (is_next left at)
      (beside_field (suc left) at _ _ (λ h. beside_as refl (next_same at h left) (beside_more (op18 s at) refl (beside_ops left (at + 3 + 18)))))

module _ (s : List ℕ) where
  -- behind operations without holds comes what came
  behind_before : (T : Table) → NoHolds T → judge_behind s T ≡ behind18 s T
  unfolding behind18
  behind_before T none =
      let end : ops_end T ≡ end18 T = omega (arith, plainly_size T.ops none) in
      behind_row s T
      ∙ ap (λ (at : ℕ). decider_test s at (nops T) then judge_whole (with_decider T (decider_at s at))) end
      ∙ then_again (decider_test s (end18 T) (nops T)) (whole_same (with_decider T (decider_at s (end18 T))) none)

  abbrev H : Table
  H = head_of s

  abbrev place : ℕ
  place = ops_place H.modes

  -- what the verdict was: it is the same, or a field 04 of 20 bytes was refused
  abbrev Before : Verdict Table → Verdict Table → Type 0
  Before was is = (was ≡ is) ⊎ ((at : ℕ) × (num8 s at ≡ 4) × (num16 s (at + 1) ≡ 20) × (was ≡ refused SIZE at 0))

  ops_before_lem : {was is : Verdict (List Op)} → Beside H s was is
      → Before (onwards was (λ os. behind18 s (with_ops H os))) (onwards is (λ os. judge_behind s (with_ops H os)))
  ops_before_lem {was} {is} (alike e none) =
      inl
      (ap (λ (v : Verdict (List Op)). onwards v (λ os. behind18 s (with_ops H os))) e
      ∙ onwards_same is (λ os. behind18 s (with_ops H os)) (λ os. judge_behind s (with_ops H os)) (λ os come. sym (behind_before (with_ops H os) (none os come))))
  ops_before_lem {was} {is} (longer at tag size old) = inr (at, tag, size, onwards_refuses _ old)

  pub judge_before9 : (judge18 s ≡ judge s) ⊎ ((at : ℕ) × (num8 s at ≡ 4) × (num16 s (at + 1) ≡ 20) × (judge18 s ≡ refused SIZE at 0))
  judge_before9 = go (head_test s) refl (ops_before_lem (beside_ops H s 32 place))
    where
      go : (t : Test) → head_test s ≡ t
          → Before (onwards (ops18 H s 32 place) (λ os. behind18 s (with_ops H os))) (onwards (ops_from H s 32 place) (λ os. judge_behind s (with_ops H os)))
          → Before (judge18 s) (judge s)
      go (accepted x) e (inl same) = inl (before_row s ∙ then_accepts _ e ∙ same ∙ sym (judge_row s ∙ then_accepts _ e))
      go (accepted x) e (inr (at, tag, size, old)) = inr (at, tag, size, before_row s ∙ then_accepts _ e ∙ old)
      go (refused n a b) e _ = inl (before_row s ∙ then_refuses _ e ∙ sym (judge_row s ∙ then_refuses _ e))

  -- no table that was accepted has a hold
  none_before : (T : Table) → judge18 s ≡ accepted T → NoHolds T
  unfolding behind18 whole18 ops18
  none_before T e =
      let (os, come, rest) = onwards_first _ _ (then_rest _ _ (sym (before_row s) ∙ e)) in
      let U = with_decider (with_ops H os) (decider_at s (end18 (with_ops H os))) in
      let last = then_rest (decider_test s (end18 (with_ops H os)) (length os)) (whole18 U) rest in
      let same : U ≡ T = cc (then_rest _ _ (then_rest _ _ (then_rest (pairs_test clashes18 CLASH U) _ last))) in
      subst NoHolds same
      (fields_all (ops_done H) 4 (λ s at. 18) (wrong18 H) op18 s (λ left at us. Plainly us)
      (λ left at d. plainly_none)
      (λ left at us d p. plainly_more (op18 s at) us refl p) 32 place os come)

  -- so what was accepted is accepted, as the table that it was
  pub accepted_before9 : (T : Table) → judge18 s ≡ accepted T → (judge s ≡ accepted T) × NoHolds T
  accepted_before9 T e = (go judge_before9, none_before T e)
    where
      go : Before (judge18 s) (judge s) → judge s ≡ accepted T
      go (inl same) = sym same ∙ e
      go (inr (at, tag, size, old)) = never_refused (sym old ∙ e)

-- ---- a table handed over as numbers, with every mark unset

unmarked_behind : (ns hs : List ℕ) → 6 ≤ length ns → Unmarked ns hs → Unmarked (drop 6 ns) (drop 2 hs)
unmarked_behind ns hs six x =
    let sixth = length-drop 6 ns in
    let second = length-drop 2 hs in
    record {
      marks = λ k. after_mark hs k ∙ x.marks (suc k);
      enough = λ k h. omega (arith, sixth, second, x.enough (suc k) (omega (arith, sixth)));
      whole = λ k h. omega (arith, sixth, second, x.whole (suc k) (omega (arith, sixth)));
    }

-- none is left where none was
none_same : (ns hs : List ℕ) → Unmarked ns hs → none_left ns hs ≡ eqb (length ns) 0
none_same ns hs x = go (known (eqb (length ns) 0))
  where
    go : Known (eqb (length ns) 0) → none_left ns hs ≡ eqb (length ns) 0
    go (holds h) =
        let none = eqb-true (length ns) 0 h in
        eq-eqb (length ns + length hs) 0 (omega (arith, x.whole 0 (omega arith))) ∙ sym h
    go (fails h) = ne_eqb (length ns + length hs) 0 (λ e. eqb-false (length ns) 0 h (omega arith)) ∙ sym h

module _ (T : Table) where
  -- the tests of one operation's numbers, before and now
  abbrev was_one : List ℕ → ℕ → ℕ → Verdict (List Op)
  was_one ns left at =
      refuse_if (ltb (length ns) 6) SHORT at 0
      then ranged (op_wrong T false (op_of18 ns)) at
      then more (op_of18 ns) (ops_of18 T (drop 6 ns) left (at + 21))

  abbrev is_one : List ℕ → List ℕ → ℕ → ℕ → Verdict (List Op)
  is_one ns hs left at =
      refuse_if (ltb (length ns) 6 || ltb (length hs) 2) SHORT at 0
      then ranged (op_wrong T (marked_of hs) (op_of_numbers ns hs)) at
      then more (op_of_numbers ns hs) (ops_of_numbers T (drop 6 ns) (drop 2 hs) left (at + 3 + op_size (marked_of hs)))

  was_none : (ns : List ℕ) (at : ℕ) → ops_of18 T ns zero at ≡ cond (eqb (length ns) 0) (accepted []) (not_many at 0 then accepted [])
  unfolding ops_of18
  was_none ns at = refl

  was_one_lem : (ns : List ℕ) (left at : ℕ) → ops_of18 T ns (suc left) at ≡ cond (eqb (length ns) 0) (accepted []) (was_one ns left at)
  unfolding ops_of18
  was_one_lem ns left at = refl

  -- they have no hold
  handed_plainly : (ns : List ℕ) (left at : ℕ) (os : List Op) → ops_of18 T ns left at ≡ accepted os → Plainly os
  handed_plainly ns zero at os e =
      both (eqb (length ns) 0) (sym (was_none ns at) ∙ e)
      (λ _ x. let same : [] ≡ os = cc in subst Plainly same plainly_none)
      (λ _ x. let same : [] ≡ os = cc (then_rest (not_many at 0) (accepted []) x) in subst Plainly same plainly_none)
  handed_plainly ns (suc left) at os e =
      both (eqb (length ns) 0) (sym (was_one_lem ns left at) ∙ e)
      (λ _ x. let same : [] ≡ os = cc in subst Plainly same plainly_none)
      (λ _ x.
      let (us, come, whole) = more_first (op_of18 ns) _ (then_rest _ _ (then_rest _ _ x)) in
      subst Plainly (sym whole) (plainly_more (op_of18 ns) us refl (handed_plainly (drop 6 ns) left (at + 21) us come)))

  -- one operation that is not marked
  one_same : (ns hs : List ℕ) (left at : ℕ) → Unmarked ns hs
      → (6 ≤ length ns → ops_of_numbers T (drop 6 ns) (drop 2 hs) left (at + 21) ≡ ops_of18 T (drop 6 ns) left (at + 21))
      → is_one ns hs left at ≡ was_one ns left at
  one_same ns hs left at x rest = go (known (ltb (length ns) 6))
    where
      go : Known (ltb (length ns) 6) → is_one ns hs left at ≡ was_one ns left at
      go (holds h) =
          then_refuses _ (refuses _ SHORT at 0 (ap (λ (b : Bool). b || ltb (length hs) 2) h)) ∙ sym (then_refuses _ (refuses _ SHORT at 0 h))
      go (fails h) =
          let six = ltb-false (length ns) 6 h in
          let two = le-ltb (length hs) 2 (omega (arith, x.enough 1 (omega arith))) in
          let place : at + 3 + 18 ≡ at + 21 = omega arith in
          then_accepts _ (passes _ SHORT at 0 (ap (λ (b : Bool). b || ltb (length hs) 2) h ∙ two))
          ∙ ap
          (λ (b : Bool).
          ranged (op_wrong T b (handed b)) at
          then more (handed b) (ops_of_numbers T (drop 6 ns) (drop 2 hs) left (at + 3 + op_size b)))
          (x.marks 0)
          ∙ then_again (ranged (op_wrong T false (op_of18 ns)) at)
          (ap (λ (k : ℕ). more (op_of18 ns) (ops_of_numbers T (drop 6 ns) (drop 2 hs) left k)) place ∙ ap (more (op_of18 ns)) (rest six))
          ∙ sym (then_accepts _ (passes _ SHORT at 0 h))
        where
          handed : Bool → Op
          handed b =
              record {
                start = get_or ns 0 0;
                dur = get_or ns 1 0;
                hold = cond b (get_or hs 1 0) 0;
                boards = get_or ns 2 0;
                reads = get_or ns 3 0;
                writes = get_or ns 4 0;
                modes = get_or ns 5 0;
              }

  ops_same : (ns hs : List ℕ) (left at : ℕ) → Unmarked ns hs → ops_of_numbers T ns hs left at ≡ ops_of18 T ns left at
  ops_same ns hs zero at x =
      numbers_end T ns hs at
      ∙ ap (λ (b : Bool). cond b (accepted []) (not_many at 0 then accepted [])) (none_same ns hs x)
      ∙ sym (was_none ns at)
  ops_same ns hs (suc left) at x =
      numbers_next T ns hs left at
      ∙ ap (λ (b : Bool). cond b (accepted []) (is_one ns hs left at)) (none_same ns hs x)
      ∙ ap (λ (v : Verdict (List Op)). cond (eqb (length ns) 0) (accepted []) v)
      (one_same ns hs left at x (λ six. ops_same (drop 6 ns) (drop 2 hs) left (at + 21) (unmarked_behind ns hs six x)))
      ∙ sym (was_one_lem ns left at)

test_before : (N : Numbers) → Unmarked N.ops N.holds → numbers_test N ≡ numbers_test18 N
unfolding numbers_test18
test_before N x =
    numbers_row N
    ∙ then_again _ (then_again _ (then_again _ (then_again _ (ap (λ (b : Bool). refuse_if b ORDER (ops_place N.modes) 0) (none_same N.ops N.holds x)))))

decider_before : (who : Decider) (T : Table) → NoHolds T → judge_decider who T ≡ decider18 who T
unfolding decider18
decider_before who T none =
    let end : ops_end T ≡ end18 T = omega (arith, plainly_size T.ops none) in
    judge_decider_row who T
    ∙ ap (λ (at : ℕ). ranged (decider_wrong (nops T) who) at then judge_whole (with_decider T who)) end
    ∙ then_again (ranged (decider_wrong (nops T) who) (end18 T)) (whole_same (with_decider T who) none)

pub numbers_before9 : (N : Numbers) → Unmarked N.ops N.holds → judge_numbers N ≡ numbers18 N
unfolding numbers18
numbers_before9 N x =
    let H = head_of_numbers N in
    judge_numbers_row N
    ∙ ap (λ (t : Test). t then onwards (ops_of_numbers H N.ops N.holds 32 (ops_place N.modes)) (λ os. judge_decider (decider_of N) (with_ops H os))) (test_before N x)
    ∙ then_again (numbers_test18 N)
    (ap (λ (v : Verdict (List Op)). onwards v (λ os. judge_decider (decider_of N) (with_ops H os))) (ops_same H N.ops N.holds 32 (ops_place N.modes) x)
    ∙ onwards_same (ops_of18 H N.ops 32 (ops_place N.modes)) (λ os. judge_decider (decider_of N) (with_ops H os)) (λ os. decider18 (decider_of N) (with_ops H os))
    (λ os come. decider_before (decider_of N) (with_ops H os) (handed_plainly H N.ops 32 (ops_place N.modes) os come)))
