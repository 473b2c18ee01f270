-- Document 02, No. 7: RANGE names the first wrong number. Every number before it in layout order is in its range, and it is not; of a table's
-- bytes, of a table handed over as numbers, and of a reply's bytes.
-- Assumes nothing.
use Prim.Native.Nat.{ℕ, zero, suc, ◌+◌, ◌-◌, ◌*◌, ◌<◌, ◌≤◌}
use mathlib.Core.Path.{◌≡◌, refl, sym, ap, subst, ◌∙◌}
use mathlib.Core.Bool.{Bool, true, false, not, ◌&&◌, ◌||◌}
use mathlib.Core.List.{List, [], ◌∷◌}
use mathlib.Core.Logic.{◌↔◌, ◌⊎◌, inl, inr}
use native.Mathlib.Omega.{arith}
use lib.Dec.{leb, ltb, eqb}
use lib.ListN.{length, get_or, drop}
use borrow.Author.Tests.{eqb-true, eqb-false, lt-ltb, leb-true, leb-false, not-true, not-false}
use Rattle.rules.specs.Table.{Op, no_op, Decider, decides, Table, nops, end_of, held_to}
use Rattle.rules.specs.Rows.{Ticks, ticks}
use Rattle.rules.specs.Verdicts.{Verdict, accepted, refused, SHORT, ORDER, SIZE, RANGE, MANY, CLASH, RACE, refuse_if, ◌then◌, more}
use Rattle.rules.specs.Bytes.{num8, num16, num32, words, op_size, held_at, read_op, op_at, row_at}
use Rattle.rules.specs.Judge.{needed, header, due, sized, complete, not_many, ranged, field_test, repeat_test, at_end, fields_from, Number, first_wrong, len_ranges, len_wrong, count_ranges, counts_wrong, set_ranges, sets_wrong, used_ranges, op_ranges, op_wrong, decider_ranges, decider_wrong, clashes, races, pairs_test, early_test, judge_whole, head_of, with_ops, with_decider, ops_place, ops_size, ops_end, head_test, ops_done, size_at, wrong_at, ops_from, nothing_due, decider_at, judge_behind, judge, Numbers, marked_of, op_of_numbers, head_of_numbers, decider_of, none_left, numbers_test, ops_of_numbers, judge_numbers, row_ranges, row_wrong, rows_from, judge_reply}
use Rattle.theory.specs.Holds.{place_from, HoldWrong}
use Rattle.theory.specs.Numbers.{op_among, mark_among, place_among}
use Rattle.theory.specs.Blamed.{bytes_before, among, Names, number_at, ReadFrom, Steps, StepFine, step_place, steps_in, steps_of, FieldBehind, HandedBehind, row_there, Blames, length_wrong, count_wrong, set_wrong, step_wrong_lem, decider_wrong_lem, ReplyBlames, period_wrong, row_wrong_lem}
use Rattle.theory.proofs.Says.{Known, holds, fails, known, says_leb, says_ltb, says_and, clash_bool}
use Rattle.theory.proofs.Verdicts.{never_refused, passed, fault_refused, then_first, then_rest, then_refused, onwards_refused, more_first, more_refused}
use Rattle.theory.proofs.Ranges.{first_told, told_first, range_passed, dates_no_hold, dates_past}
use Rattle.theory.proofs.Deciders.{early_number}
use Rattle.theory.proofs.Judging.{both, field_row, repeat_row, field_passed, repeat_passed, place_even, fields_end, fields_next, fields_values, own_form, plain_handed, size_none, size_more, pairs_refused, whole_row, HeadOk, head_row, head_ok, judge_row, behind_row, decider_row, nothing_row, ops_passing, ops_place_lem, numbers_end, numbers_next, numbers_passing, numbers_row, numbers_ok, judge_decider_row, judge_numbers_row}
use Rattle.theory.proofs.Numbers.{after_op, after_mark}
use Rattle.theory.proofs.Replies.{reply_row}

-- ---- tests that are not of ranges

-- what is not refused for a range
abbrev pub Other : {A : Type 0} → Verdict A → Type 0
Other v = (a b : ℕ) → v ≡ refused RANGE a b → ⊥

pub other_if : (fault : Bool) (n a b : ℕ) → (n ≡ RANGE → ⊥) → Other (refuse_if fault n a b)
other_if fault n a b h c d e = h (sym (fault_refused fault e).1)

module _ {A B : Type 0} where
  -- RANGE of a row is not that of such a test
  behind : (v : Verdict A) (w : Verdict B) {a b : ℕ} → Other v → (v then w) ≡ refused RANGE a b
      → (x : A) × (v ≡ accepted x) × (w ≡ refused RANGE a b)
  behind v w {a} {b} other e = then_refused v w e (λ h. absurd (other a b h)) (λ x h r. (x, h, r))

  other_then : (v : Verdict A) (w : Verdict B) → Other v → Other w → Other (v then w)
  other_then v w f g a b e = let (_, _, h) = behind v w f e in g a b h

-- what is accepted is no refusal
other_accepted : {A : Type 0} (x : A) → Other (accepted x)
other_accepted x a b e = never_refused (sym e)

module _ (s : List ℕ) (at : ℕ) where
  pub needed_other : Other (needed s at)
  unfolding needed
  needed_other = other_if (leb (length s) at) ORDER at 0 (λ e. omega arith)

  pub header_other : Other (header s at)
  unfolding header
  header_other = other_if (ltb (length s) (at + 3)) SHORT at 0 (λ e. omega arith)

  pub due_other : (tag : ℕ) → Other (due s at tag)
  unfolding due
  due_other tag = other_if (not (eqb (num8 s at) tag)) ORDER at 0 (λ e. omega arith)

  pub sized_other : (size : ℕ) → Other (sized s at size)
  unfolding sized
  sized_other size = other_if (not (eqb (num16 s (at + 1)) size)) SIZE at 0 (λ e. omega arith)

  pub complete_other : (size : ℕ) → Other (complete s at size)
  unfolding complete
  complete_other size = other_if (ltb (length s) (at + 3 + size)) SHORT at 0 (λ e. omega arith)

  nothing_other : Other (nothing_due s at)
  nothing_other a b e =
      both (leb (length s) at) (sym (nothing_row s at) ∙ e)
      (λ _ x. never_refused {x = tt} (sym x))
      (λ _ x. then_refused _ _ x (λ h. header_other a b h) (λ _ _ h. let z : ORDER ≡ RANGE = cc in omega arith))

pub many_other : (at left : ℕ) → Other (not_many at left)
unfolding not_many
many_other at left = other_if (eqb left 0) MANY at 0 (λ e. omega arith)

-- CLASH, RACE and EARLY have numbers of their own
pub whole_other : (T : Table) → Other (judge_whole T)
whole_other T a b e =
    other_then (pairs_test clashes CLASH T) (pairs_test races RACE T then early_test T T.decider then accepted T)
    (λ i j h. let same = (pairs_refused clashes CLASH T RANGE i j h).0 in omega arith)
    (other_then (pairs_test races RACE T) (early_test T T.decider then accepted T)
    (λ i j h. let same = (pairs_refused races RACE T RANGE i j h).0 in omega arith)
    (other_then (early_test T T.decider) (accepted T) (λ i j h. let same = early_number T T.decider h in omega arith) (other_accepted T)))
    a b (sym (whole_row T) ∙ e)

-- ---- one field

-- a test of ranges names the field's place and its first wrong number
ranged_names : (ns : List Number) (at : ℕ) {a b : ℕ} → ranged (first_wrong ns) at ≡ refused RANGE a b → (a ≡ at) × Names ns a b
unfolding ranged first_wrong
ranged_names ns at e =
    let (fault, _, place, offset) = fault_refused _ e in
    let wrong = eqb-false (first_wrong ns) 0 (not-true _ fault) in
    let x = first_told 3 ns (first_wrong ns) (omega (arith, wrong)) refl in
    (sym place, record { which = x.which; there = x.there; begins = omega (arith, x.begins); wrong = x.wrong; before = x.before })

module _ (s : List ℕ) (at tag size wrong : ℕ) {a b : ℕ} where
  value_blames : (sized s at size then complete s at size then ranged wrong at) ≡ refused RANGE a b → ranged wrong at ≡ refused RANGE a b
  value_blames e =
      let (_, _, e1) = behind _ _ (sized_other s at size) e in
      let (_, _, e2) = behind _ _ (complete_other s at size) e1 in
      e2

  -- the field has its tag, and a number that is wrong
  field_tag : field_test s at tag size wrong ≡ refused RANGE a b → num8 s at ≡ tag
  unfolding due
  field_tag e =
      let (_, _, e1) = behind _ _ (needed_other s at) (sym (field_row s at tag size wrong) ∙ e) in
      let (_, _, e2) = behind _ _ (header_other s at) e1 in
      let (_, passes, _) = behind _ _ (due_other s at tag) e2 in
      eqb-true (num8 s at) tag (not-false _ (passed _ ORDER at 0 passes))

  field_blames : field_test s at tag size wrong ≡ refused RANGE a b → ranged wrong at ≡ refused RANGE a b
  field_blames e =
      let (_, _, e1) = behind _ _ (needed_other s at) (sym (field_row s at tag size wrong) ∙ e) in
      let (_, _, e2) = behind _ _ (header_other s at) e1 in
      let (_, _, e3) = behind _ _ (due_other s at tag) e2 in
      value_blames e3

  repeat_blames : (left : ℕ) → repeat_test s at left tag size wrong ≡ refused RANGE a b → (0 < left) × (ranged wrong at ≡ refused RANGE a b)
  unfolding not_many
  repeat_blames left e =
      let (_, _, e1) = behind _ _ (header_other s at) (sym (repeat_row s at tag size wrong left) ∙ e) in
      let (_, _, e2) = behind _ _ (due_other s at tag) e1 in
      let (_, may, e3) = behind _ _ (many_other at left) e2 in
      (omega (arith, eqb-false left 0 (passed _ MANY at 0 may)), value_blames e3)

-- ---- what comes repeatedly: which number of each is wrong first, and where each begins

-- one of at most `left` is refused for a range, and in those before it no number is wrong
record FirstRange (wrong place : ℕ → ℕ) (left a b : ℕ) : Type 0 where
  which : ℕ
  few : which < left
  before : (j : ℕ) → j < which → wrong j ≡ 0
  here : ranged (wrong which) (place which) ≡ refused RANGE a b

module _ (wrong place : ℕ → ℕ) (left a b : ℕ) where
  -- the first, and one behind a first that passes
  range_here : ranged (wrong 0) (place 0) ≡ refused RANGE a b → FirstRange wrong place (suc left) a b
  range_here e = record { which = 0; few = omega arith; before = λ j h. absurd (omega arith); here = e }

  range_more : (next : ℕ → ℕ) → ((j : ℕ) → next j ≡ wrong (suc j)) → wrong 0 ≡ 0
      → FirstRange next (λ j. place (suc j)) left a b → FirstRange wrong place (suc left) a b
  range_more next same fine x =
      record {
        which = suc x.which;
        few = omega (arith, x.few);
        before = earlier;
        here = subst (λ (w : ℕ). ranged w (place (suc x.which)) ≡ refused RANGE a b) (same x.which) x.here;
      }
    where
      earlier : (j : ℕ) → j < suc x.which → wrong j ≡ 0
      earlier zero h = fine
      earlier (suc j) h = sym (same j) ∙ x.before j (omega arith)

-- repeated fields
module _ {A : Type 0} (ends : List ℕ → ℕ → Bool) (tag : ℕ) (size wrong : List ℕ → ℕ → ℕ) (value : List ℕ → ℕ → A) (s : List ℕ) {a b : ℕ} where
  fields_blames : (left at : ℕ) → fields_from ends tag size wrong value s left at ≡ refused RANGE a b
      → FirstRange (λ j. wrong s (place_from size s at j)) (place_from size s at) left a b
  unfolding place_from
  fields_blames zero at e =
      both (ends s at) (sym (fields_end ends tag size wrong value s at) ∙ e)
      (λ _ x. never_refused {x = []} (sym x))
      (λ _ x.
      then_refused _ _ x
      (λ h. let (more, _) = repeat_blames s at tag _ _ 0 h in absurd (omega arith))
      (λ _ _ h. never_refused {x = []} (sym h)))
  fields_blames (suc left) at e =
      both (ends s at) (sym (fields_next ends tag size wrong value s left at) ∙ e)
      (λ _ x. never_refused {x = []} (sym x))
      (λ _ x.
      then_refused _ _ x
      (λ h. range_here (λ j. wrong s (place_from size s at j)) (place_from size s at) left a b (repeat_blames s at tag _ _ (suc left) h).1)
      (λ _ h m.
      range_more (λ j. wrong s (place_from size s at j)) (place_from size s at) left a b (λ j. wrong s (place_from size s (at + 3 + size s at) j)) (λ j. refl)
      (repeat_passed s at tag _ _ (suc left) h).2
      (fields_blames left (at + 3 + size s at) (more_refused _ _ m))))

-- the numbers of operations, each in the form that its mark says
abbrev handed_wrong : Table → List ℕ → List ℕ → ℕ → ℕ
handed_wrong T ns hs j = op_wrong T (mark_among hs j) (op_among ns hs j)

after_wrong : (T : Table) (ns hs : List ℕ) (j : ℕ) → handed_wrong T (drop 6 ns) (drop 2 hs) j ≡ handed_wrong T ns hs (suc j)
after_wrong T ns hs j =
    ap (λ (held : Bool). op_wrong T held (op_among (drop 6 ns) (drop 2 hs) j)) (after_mark hs j) ∙ ap (op_wrong T (mark_among hs (suc j))) (after_op ns hs j)

module _ (T : Table) {a b : ℕ} where
  ops_blames : (ns hs : List ℕ) (left at : ℕ) → ops_of_numbers T ns hs left at ≡ refused RANGE a b
      → FirstRange (handed_wrong T ns hs) (place_among hs at) left a b
  unfolding place_among
  ops_blames ns hs zero at e =
      both (none_left ns hs) (sym (numbers_end T ns hs at) ∙ e)
      (λ _ x. never_refused {x = []} (sym x))
      (λ _ x. absurd (other_then (not_many at 0) (accepted []) (many_other at 0) (other_accepted []) a b x))
  ops_blames ns hs (suc left) at e =
      both (none_left ns hs) (sym (numbers_next T ns hs left at) ∙ e)
      (λ _ x. never_refused {x = []} (sym x))
      (λ _ x.
      let (_, _, e1) = behind _ _ (other_if (ltb (length ns) 6 || ltb (length hs) 2) SHORT at 0 (λ h. omega arith)) x in
      then_refused _ _ e1
      (λ h. range_here (handed_wrong T ns hs) (place_among hs at) left a b h)
      (λ _ h m.
      range_more (handed_wrong T ns hs) (place_among hs at) left a b (handed_wrong T (drop 6 ns) (drop 2 hs)) (after_wrong T ns hs) (range_passed _ at h)
      (ops_blames (drop 6 ns) (drop 2 hs) left (at + 3 + op_size (marked_of hs)) (more_refused _ _ m))))

-- in those that are accepted no number is wrong, and the next would be written behind all that is written for them
record HandedFine (T : Table) (ns hs : List ℕ) (at : ℕ) (os : List Op) : Type 0 where
  each : (j : ℕ) → j < length os → handed_wrong T ns hs j ≡ 0
  end : place_among hs at (length os) ≡ at + ops_size os

module _ (T : Table) where
  handed_none : (ns hs : List ℕ) (at : ℕ) → HandedFine T ns hs at []
  unfolding place_among
  handed_none ns hs at = record { each = λ j h. absurd (omega arith); end = omega (arith, size_none) }

  handed_more : (ns hs : List ℕ) (at : ℕ) (os : List Op) → op_wrong T (marked_of hs) (op_of_numbers ns hs) ≡ 0
      → HandedFine T (drop 6 ns) (drop 2 hs) (at + 3 + op_size (marked_of hs)) os → HandedFine T ns hs at (op_of_numbers ns hs ∷ os)
  unfolding place_among
  handed_more ns hs at os fine x =
      let o = op_of_numbers ns hs in
      let form = own_form T (marked_of hs) o (plain_handed ns hs) fine in
      record { each = one; end = x.end ∙ omega (arith, size_more o os, ap op_size form) }
    where
      one : (j : ℕ) → j < length (op_of_numbers ns hs ∷ os) → handed_wrong T ns hs j ≡ 0
      one zero h = fine
      one (suc i) h = sym (after_wrong T ns hs i) ∙ x.each i (omega arith)

  ops_fine : (ns hs : List ℕ) (left at : ℕ) (os : List Op) → ops_of_numbers T ns hs left at ≡ accepted os → HandedFine T ns hs at os
  ops_fine ns hs zero at os e =
      both (none_left ns hs) (sym (numbers_end T ns hs at) ∙ e)
      (λ _ x. let same : [] ≡ os = cc in subst (λ (us : List Op). HandedFine T ns hs at us) same (handed_none ns hs at))
      (λ _ x. let same : [] ≡ os = cc (then_rest (not_many at 0) (accepted []) x) in subst (λ (us : List Op). HandedFine T ns hs at us) same (handed_none ns hs at))
  ops_fine ns hs (suc left) at os e =
      both (none_left ns hs) (sym (numbers_next T ns hs left at) ∙ e)
      (λ _ x. let same : [] ≡ os = cc in subst (λ (us : List Op). HandedFine T ns hs at us) same (handed_none ns hs at))
      (λ _ x.
      let from = then_rest _ _ x in
      let (us, come, whole) = more_first (op_of_numbers ns hs) _ (then_rest _ _ from) in
      subst (λ (vs : List Op). HandedFine T ns hs at vs) (sym whole)
      (handed_more ns hs at us (range_passed _ at (then_first _ _ from).1) (ops_fine (drop 6 ns) (drop 2 hs) left _ us come)))

-- ---- what stands before the operations, and an operation

module _ (H : Table) (S : Steps) (Behind : ℕ → Decider → Type 0) {a b : ℕ} where
  len_blames : ranged (len_wrong H.len) 0 ≡ refused RANGE a b → Blames H S Behind a b
  unfolding len_wrong
  len_blames e = let (place, names) = ranged_names (len_ranges H.len) 0 e in length_wrong place names

  counts_blames : len_wrong H.len ≡ 0 → ranged (counts_wrong H.boards H.cells H.modes) 5 ≡ refused RANGE a b → Blames H S Behind a b
  unfolding counts_wrong
  counts_blames len e = let (place, names) = ranged_names (count_ranges H.boards H.cells H.modes) 5 e in count_wrong len place names

  module _ (len : len_wrong H.len ≡ 0) (counts : counts_wrong H.boards H.cells H.modes ≡ 0) where
    sets_blames : ranged (sets_wrong H.modes (H.first ∷ H.follow)) 11 ≡ refused RANGE a b → Blames H S Behind a b
    unfolding sets_wrong
    sets_blames e = let (place, names) = ranged_names (set_ranges H.modes (H.first ∷ H.follow)) 11 e in set_wrong len counts place names

    step_blames : sets_wrong H.modes (H.first ∷ H.follow) ≡ 0
        → FirstRange (λ j. op_wrong H (S.form j) (S.step j)) S.place 32 a b → Blames H S Behind a b
    unfolding op_wrong
    step_blames sets x =
        let (place, names) = ranged_names (op_ranges H (S.form x.which) (S.step x.which)) (S.place x.which) x.here in
        step_wrong_lem len counts sets x.which x.few x.before place names

    decider_blames : sets_wrong H.modes (H.first ∷ H.follow) ≡ 0 → (n at : ℕ) → n ≤ 32 → ((j : ℕ) → j < n → StepFine H S j)
        → at ≡ S.place n → (who : Decider) → Behind n who → ranged (decider_wrong n who) at ≡ refused RANGE a b → Blames H S Behind a b
    unfolding decider_wrong
    decider_blames sets n at few fine place who is e =
        let (here, names) = ranged_names (decider_ranges n who) at e in
        decider_wrong_lem len counts sets n few fine (here ∙ place) who is names

-- ---- a table's bytes

-- in the operations that are accepted no number is wrong
steps_fine : (s : List ℕ) (os : List Op) → ops_from (head_of s) s 32 (ops_place (head_of s).modes) ≡ accepted os
    → (j : ℕ) → j < length os → StepFine (head_of s) (steps_in s) j
unfolding ops_from
steps_fine s os come j h =
    let H = head_of s in
    (fields_values (ops_done H) 4 size_at (wrong_at H) op_at s no_op 32 _ os come j h).1

module _ (s : List ℕ) {a b : ℕ} where
  head_blames : head_test s ≡ refused RANGE a b → Blames (head_of s) (steps_in s) (FieldBehind s) a b
  head_blames e =
      then_refused _ _ (sym (head_row s) ∙ e)
      (λ h. len_blames (head_of s) (steps_in s) (FieldBehind s) (field_blames s 0 1 2 _ h))
      (λ _ h1 e1.
      let len = (field_passed s 0 1 2 _ h1).1 in
      then_refused _ _ e1
      (λ h. counts_blames (head_of s) (steps_in s) (FieldBehind s) len (field_blames s 5 2 3 _ h))
      (λ _ h2 e2.
      then_refused _ _ e2
      (λ h. sets_blames (head_of s) (steps_in s) (FieldBehind s) len (field_passed s 5 2 3 _ h2).1 (field_blames s 11 3 _ _ h))
      (λ _ _ e3. absurd (needed_other s (ops_place (head_of s).modes) a b e3))))

  -- who decides, behind the operations
  behind_blames : HeadOk (head_of s) → (os : List Op)
      → ops_from (head_of s) s 32 (ops_place (head_of s).modes) ≡ accepted os
      → judge_behind s (with_ops (head_of s) os) ≡ refused RANGE a b → Blames (head_of s) (steps_in s) (FieldBehind s) a b
  behind_blames ok os come e =
      let H = head_of s in
      let T = with_ops H os in
      let at = ops_end T in
      let place : step_place s (length os) ≡ at = ops_place_lem s H _ os come in
      then_refused _ _ (sym (behind_row s T) ∙ e)
      (λ r.
      both (leb (length s) at) (sym (decider_row s at (nops T)) ∙ r)
      (λ _ x. never_refused {x = tt} (sym x))
      (λ b x.
      then_refused _ _ x
      (λ f.
      let who : decider_at s at ≡ decides (num8 s (at + 3)) = rw b in
      decider_blames H (steps_in s) (FieldBehind s) ok.len ok.counts ok.sets (length os) at (ops_passing s H _ os come).few (steps_fine s os come) (sym place)
      (decider_at s at) (subst (λ (k : ℕ). (num8 s k ≡ 5) × (decider_at s at ≡ decides (num8 s (k + 3)))) (sym place) (field_tag s at 5 1 _ f, who)) (field_blames s at 5 1 _ f))
      (λ _ _ n. absurd (nothing_other s (at + 4) a _ n))))
      (λ _ _ w. absurd (whole_other (with_decider T (decider_at s at)) a _ w))

  -- "the offset of the first byte of the first wrong number, in layout order"
  pub judge_blames : judge s ≡ refused RANGE a b → Blames (head_of s) (steps_in s) (FieldBehind s) a b
  unfolding ops_from
  judge_blames e =
      then_refused _ _ (sym (judge_row s) ∙ e)
      head_blames
      (λ _ h e1.
      let ok = (head_ok s h).0 in
      onwards_refused _ _ e1
      (λ r.
      step_blames (head_of s) (steps_in s) (FieldBehind s) ok.len ok.counts ok.sets
      (fields_blames (ops_done (head_of s)) 4 size_at (wrong_at (head_of s)) op_at s 32 _ r))
      (behind_blames ok))

-- ---- a table handed over as numbers

module _ (N : Numbers) {a b : ℕ} where
  first_blames : numbers_test N ≡ refused RANGE a b → Blames (head_of_numbers N) (steps_of N) (HandedBehind N) a b
  first_blames e =
      then_refused _ _ (sym (numbers_row N) ∙ e)
      (len_blames (head_of_numbers N) (steps_of N) (HandedBehind N))
      (λ _ h1 e1.
      let len = range_passed _ 0 h1 in
      then_refused _ _ e1
      (counts_blames (head_of_numbers N) (steps_of N) (HandedBehind N) len)
      (λ _ h2 e2.
      let (_, _, e3) = behind _ _ (other_if (not (eqb (length N.follow) N.modes)) SIZE 11 0 (λ h. omega arith)) e2 in
      then_refused _ _ e3
      (sets_blames (head_of_numbers N) (steps_of N) (HandedBehind N) len (range_passed _ 5 h2))
      (λ _ _ e4. absurd (other_if (none_left N.ops N.holds) ORDER (ops_place N.modes) 0 (λ h. omega arith) a b e4))))

  pub numbers_blames : judge_numbers N ≡ refused RANGE a b → Blames (head_of_numbers N) (steps_of N) (HandedBehind N) a b
  numbers_blames e =
      then_refused _ _ (sym (judge_numbers_row N) ∙ e)
      first_blames
      (λ _ h e1.
      let ok = (numbers_ok N h).0 in
      onwards_refused _ _ e1
      (λ r. step_blames (head_of_numbers N) (steps_of N) (HandedBehind N) ok.len ok.counts ok.sets (ops_blames (head_of_numbers N) N.ops N.holds 32 _ r))
      (λ os come r.
      let T = with_ops (head_of_numbers N) os in
      let (passing, counted) = numbers_passing (head_of_numbers N) N.ops N.holds 32 _ os come in
      let fine = ops_fine (head_of_numbers N) N.ops N.holds 32 _ os come in
      then_refused _ _ (sym (judge_decider_row (decider_of N) T) ∙ r)
      (decider_blames (head_of_numbers N) (steps_of N) (HandedBehind N) ok.len ok.counts ok.sets (length os) (ops_end T) passing.few
      fine.each (sym fine.end) (decider_of N) (counted.six, counted.two, refl))
      (λ _ _ w. absurd (whole_other (with_decider T (decider_of N)) a b w))))

-- ---- a reply's bytes

module _ (s : List ℕ) {a b : ℕ} where
  period_blames : ranged (len_wrong (num16 s 3)) 0 ≡ refused RANGE a b → ReplyBlames (ticks (num16 s 3)) (row_there s) a b
  unfolding len_wrong
  period_blames e = let (place, names) = ranged_names (len_ranges (num16 s 3)) 0 e in period_wrong place names

  rows_blame : len_wrong (num16 s 3) ≡ 0 → rows_from (ticks (num16 s 3)) s 32 5 ≡ refused RANGE a b → ReplyBlames (ticks (num16 s 3)) (row_there s) a b
  unfolding rows_from row_wrong
  rows_blame len e =
      let q = ticks (num16 s 3) in
      let x = fields_blames at_end 18 (λ s at. 4) (λ s at. row_wrong q (row_at s at)) row_at s 32 5 e in
      let here = subst (λ (k : ℕ). ranged (row_wrong q (row_at s k)) k ≡ refused RANGE a b) (place_even 4 s 5 x.which) x.here in
      let (place, names) = ranged_names (row_ranges q (row_there s x.which)) (5 + 7 * x.which) here in
      row_wrong_lem len x.which x.few (λ j h. subst (λ (k : ℕ). row_wrong q (row_at s k) ≡ 0) (place_even 4 s 5 j) (x.before j h)) place names

  pub reply_blames : judge_reply s ≡ refused RANGE a b → ReplyBlames (ticks (num16 s 3)) (row_there s) a b
  reply_blames e =
      then_refused _ _ (sym (reply_row s) ∙ e)
      (λ h.
      then_refused _ _ h
      (λ f. period_blames (field_blames s 0 17 2 _ f))
      (λ _ _ n. absurd (needed_other s 5 a b n)))
      (λ _ h e1.
      onwards_refused _ _ e1
      (rows_blame (field_passed s 0 17 2 _ (then_first _ _ h).1).1)
      (λ rs _ r. never_refused (sym r)))

-- ---- two offsets that are named are one
pub names_one : (ns : List Number) (a b c : ℕ) → Names ns a b → Names ns a c → b ≡ c
names_one ns a b c x y = sym (told_first (a + 3) ns b x) ∙ told_first (a + 3) ns c y

-- ---- each number is the one that the bytes have where it begins

module _ (s : List ℕ) where
  -- field 01, and a reply's 11
  pub len_read : ReadFrom s 3 (len_ranges (num16 s 3))
  unfolding ReadFrom
  len_read = (refl, tt)

  pub counts_read : ReadFrom s 8 (count_ranges (head_of s).boards (head_of s).cells (head_of s).modes)
  unfolding head_of ReadFrom
  counts_read = (refl, (refl, (refl, tt)))

  words_read : (n at m : ℕ) → ReadFrom s at (set_ranges n (words s at m))
  unfolding words ReadFrom
  words_read n at zero = tt
  words_read n at (suc m) = (refl, words_read n (at + 4) m)

  pub sets_read : ReadFrom s 14 (set_ranges (head_of s).modes ((head_of s).first ∷ (head_of s).follow))
  unfolding head_of ReadFrom
  sets_read = (refl, words_read (num8 s 10) 18 (num8 s 10))

  -- an operation's numbers, in either form
  form_read : (T : Table) (held : Bool) (at : ℕ) → ReadFrom s (at + 3) (op_ranges T held (read_op held s at))
  unfolding ReadFrom
  form_read T false at = (
    refl,
    (
      ap (num16 s) (omega arith),
      (
        ap (num16 s) (omega arith),
        (ap (num32 s) (omega arith), (ap (num32 s) (omega arith), (ap (num32 s) (omega arith), tt))),
      ),
    ),
  )
  form_read T true at = (
    refl,
    (
      ap (num16 s) (omega arith),
      (
        ap (num16 s) (omega arith),
        (
          ap (num16 s) (omega arith),
          (ap (num32 s) (omega arith), (ap (num32 s) (omega arith), (ap (num32 s) (omega arith), tt))),
        ),
      ),
    ),
  )

  pub op_read : (T : Table) (at : ℕ) → ReadFrom s (at + 3) (op_ranges T (held_at s at) (op_at s at))
  unfolding op_at
  op_read T at = form_read T (held_at s at) at

  pub decider_read : (n at : ℕ) → ReadFrom s (at + 3) (decider_ranges n (decides (num8 s (at + 3))))
  unfolding ReadFrom
  decider_read n at = (refl, tt)

  pub row_read : (q : Ticks) (at : ℕ) → ReadFrom s (at + 3) (row_ranges q (row_at s at))
  unfolding ReadFrom
  row_read q at = (refl, (ap (num16 s) (omega arith), tt))

  -- number k, and so the one that is named, stands where it begins
  read_at : (k place : ℕ) (ns : List Number) → k < length ns → ReadFrom s place ns
      → (among ns k).value ≡ number_at (among ns k).bytes s (place + bytes_before k ns)
  unfolding ReadFrom bytes_before
  read_at k place [] h x = absurd (omega arith)
  read_at zero place (n ∷ ns) h x = x.0 ∙ ap (number_at n.bytes s) (omega arith)
  read_at (suc k) place (n ∷ ns) h x =
      read_at k (place + n.bytes) ns (omega arith) x.1 ∙ ap (number_at (among ns k).bytes s) (omega arith)

  -- "the offset of the first byte of the first wrong number", for each of the lists that `Blames` and `ReplyBlames` name
  pub named_read : (ns : List Number) (a b : ℕ) → ReadFrom s (a + 3) ns → (x : Names ns a b)
      → (among ns x.which).value ≡ number_at (among ns x.which).bytes s b
  named_read ns a b read x = read_at x.which (a + 3) ns x.there read ∙ ap (number_at (among ns x.which).bytes s) (sym x.begins)

  -- "an operation that ends after p blames its duration": no start is ever blamed in bytes, whatever it is
  start_fits : ((i : ℕ) → get_or s i 0 < 256) → (at : ℕ) → (op_at s at).start < 65536
  unfolding op_at
  start_fits bytes at = go (held_at s at)
    where
      go : (held : Bool) → (read_op held s at).start < 65536
      go false = omega (arith, bytes (at + 3), bytes (at + 3 + 1))
      go true = omega (arith, bytes (at + 3), bytes (at + 3 + 1))

  starts_fit : ((i : ℕ) → get_or s i 0 < 256) → (T : Table) (at a b : ℕ) → Names (op_ranges T (held_at s at) (op_at s at)) a b → a + 5 ≤ b
  unfolding bytes_before
  starts_fit bytes T at a b x = go x.which x.begins x.wrong
    where
      ns : List Number
      ns = op_ranges T (held_at s at) (op_at s at)

      go : (k : ℕ) → b ≡ a + 3 + bytes_before k ns → (among ns k).ok ≡ false → a + 5 ≤ b
      go zero e wrong = clash_bool (lt-ltb (op_at s at).start 65536 (start_fits bytes at)) wrong
      go (suc k) e wrong = omega arith

  unblamed : ((i : ℕ) → get_or s i 0 < 256) → {a b : ℕ} → 11 < a → Blames (head_of s) (steps_in s) (FieldBehind s) a b → (a + 5 ≤ b) ⊎ (num8 s a ≡ 5)
  unblamed bytes far (length_wrong e x) = absurd (omega arith)
  unblamed bytes far (count_wrong _ e x) = absurd (omega arith)
  unblamed bytes far (set_wrong _ _ e x) = absurd (omega arith)
  unblamed bytes {a} {b} far (step_wrong_lem _ _ _ k _ _ e x) = inl (starts_fit bytes (head_of s) (step_place s k) a b x)
  unblamed bytes {a} {b} far (decider_wrong_lem _ _ _ n _ _ e who is x) = inr (ap (num8 s) e ∙ is.0)

  -- behind field 03, which is at 11, stand the operations, and last the decider's field
  pub no_start_blamed : ((i : ℕ) → get_or s i 0 < 256) → {a b : ℕ} → judge s ≡ refused RANGE a b → 11 < a → (a + 5 ≤ b) ⊎ (num8 s a ≡ 5)
  no_start_blamed bytes e far = unblamed bytes far (judge_blames s e)

-- ---- document 02, No. 9: "a 20-byte field with hold 0 is RANGE and blames the hold; so does a hold that alone runs past p". The hold begins 7 bytes
-- behind the first of its field, and is blamed there exactly where the numbers before it are in their ranges and it is not.
module _ (T : Table) (o : Op) where
  pub hold_blamed : (op_wrong T true o ≡ 7) ↔ HoldWrong T o
  unfolding op_wrong bytes_before
  hold_blamed = (λ e. let x = first_told 3 (op_ranges T true o) 7 (omega arith) e in told x.which x.begins x.wrong x.before, blamed)
    where
      told : (k : ℕ) → 7 ≡ 3 + bytes_before k (op_ranges T true o) → (among (op_ranges T true o) k).ok ≡ false
          → ((j : ℕ) → j < k → (among (op_ranges T true o) j).ok ≡ true) → HoldWrong T o
      told zero e wrong before = absurd (omega arith)
      told (suc zero) e wrong before = absurd (omega arith)
      told (suc (suc zero)) e wrong before =
          let (lasts, ends) = (says_and _ _ (says_leb 1 o.dur) (says_leb (end_of o) T.len)).0 (before 1 (omega arith)) in
          record { fits = (says_ltb o.start 65536).0 (before 0 (omega arith)); lasts = lasts; ends = ends; wrong = past (known (leb 1 o.hold)) }
        where
          past : Known (leb 1 o.hold) → (o.hold < 1) ⊎ (T.len < held_to o)
          past (holds h) = inr (leb-false (held_to o) T.len (sym (ap (λ (x : Bool). x && leb (held_to o) T.len) h) ∙ wrong))
          past (fails h) = inl (leb-false 1 o.hold h)
      told (suc (suc (suc k))) e wrong before = absurd (omega arith)

      blamed : HoldWrong T o → op_wrong T true o ≡ 7
      blamed x = go x.wrong (known (leb 1 o.hold))
        where
          go : (o.hold < 1) ⊎ (T.len < held_to o) → Known (leb 1 o.hold) → op_wrong T true o ≡ 7
          go (inl h) _ = dates_no_hold T o x.fits x.lasts x.ends (used_ranges T o) h
          go (inr h) (fails n) = dates_no_hold T o x.fits x.lasts x.ends (used_ranges T o) (leb-false 1 o.hold n)
          go (inr h) (holds y) = dates_past T o x.fits x.lasts x.ends (used_ranges T o) (leb-true 1 o.hold y) h

  -- so of the field at a, b is a + 7 exactly there
  pub hold_named : (a b : ℕ) → Names (op_ranges T true o) a b → (b ≡ a + 7) ↔ HoldWrong T o
  unfolding op_wrong
  hold_named a b x =
      let told : op_wrong T true o ≡ b - a =
      told_first 3 (op_ranges T true o) (b - a)
      (record { which = x.which; there = x.there; begins = omega (arith, x.begins); wrong = x.wrong; before = x.before })
      in
      (λ e. hold_blamed.0 (told ∙ omega arith), λ h. omega (arith, x.begins, told, hold_blamed.1 h))
