-- A table handed over as numbers is judged as if first written in the layout and then read, also where numbers are missing; what is refused of
-- numbers, and where; an accepted table is read back as it was written.
-- Assumes nothing.
use Prim.Native.Nat.{ℕ, zero, suc, ◌+◌, ◌-◌, ◌*◌, ◌^◌, ◌<◌, ◌≤◌}
use mathlib.Core.Path.{◌≡◌, refl, sym, ap, subst, ◌∙◌}
use mathlib.Core.Bool.{Bool, true, false, not, cond}
use mathlib.Core.List.{List, [], ◌∷◌, ◌++◌, append_assoc}
use mathlib.Core.Logic.{◌⊎◌, inl, inr}
use native.Mathlib.Decide.{ℕ_discrete}
use native.Mathlib.Omega.{arith}
use lib.Dec.{eqb}
use lib.ListN.{length, get_or, take, drop, length-append, length-drop}
use lib.Pow.{pow_mono}
use lib.Seq.{drop-drop}
use borrow.Author.Tests.{le-leb, lt-leb, le-ltb, eq-eqb, ne_eqb}
use Rattle.rules.specs.Table.{Op, Decider, nobody, decides, Table, no_op, nops, op, SetOf, Accepted}
use Rattle.rules.specs.Verdicts.{Verdict, accepted, refused, SHORT, SIZE, ORDER, MANY, RANGE, Test, refuse_if, ◌then◌, onwards, more}
use Rattle.rules.specs.Bytes.{num8, num16, num32, words, be16, be32, joined, op_size, op_form, settles, op_bytes, head_bytes, decider_bytes, table_bytes, op_at}
use Rattle.rules.specs.Judge.{needed, not_many, ranged, field_test, fields_from, len_wrong, counts_wrong, sets_wrong, op_wrong, decider_wrong, judge_whole, head_of, with_ops, with_decider, ops_place, ops_size, ops_end, ops_done, size_at, wrong_at, ops_from, decider_at, decider_test, judge_behind, judge, Numbers, marked_of, op_of_numbers, head_of_numbers, decider_of, none_left, numbers_test, ops_of_numbers, judge_decider, judge_numbers}
use Rattle.theory.specs.Holds.{Plain, step_wrong}
use Rattle.theory.specs.Numbers.{op_numbers, hold_numbers, mark_of, number_of, numbers_of, Cut, cut_bytes, ops_bytes, numbers_bytes, CountsFit, SetsFit, OpFits, op_among, mark_among, place_among, NumbersFit}
use Rattle.theory.proofs.Says.{says_or, says_ltb}
use Rattle.theory.proofs.Verdicts.{never_refused, passes, refuses, then_first, then_rest, more_first, then_accepts, then_refuses, then_same, then_again, then_assoc, onwards_accepts, onwards_refuses, onwards_same, more_accepts, more_refuses}
use Rattle.theory.proofs.Ranges.{len_high, decider_high, range_passed, ranged_yes, ranged_no}
use Rattle.theory.proofs.Judging.{HeadOk, says_sets, own_plain, own_form, own_wrong, plain_handed, op_passed, op_passes, head_wrong, fields_end, fields_next, form_least, size_none, size_more, Counted, says_len, says_counts, says_decider, decider_there, whole_accepts, done_end, done_05, done_not, head_row, behind_row, judge_row, numbers_end, numbers_next, numbers_passing, numbers_row, judge_decider_row, judge_numbers_row}
use Rattle.theory.proofs.Bytes.{past8, past16, two_bytes, four_bytes, words_back, form_back, op_back, joined_length, words_length, head_length, field_size, field_whole, spare, no_more, repeat_cut, value_cut, field_many, field_more, field_order, no_field, decider_back, decider_tested, fields_of, fields_accepted, first_tag, first_whole, first_size, op_repeated}

-- ---- the operations' numbers

-- what is written of numbers that are there
some_bytes : (cut : Cut) (last ns hs : List ℕ) → 0 < length ns + length hs → 0 < length (ops_bytes cut last ns hs)
unfolding ops_bytes
some_bytes cut last [] [] h = omega arith
some_bytes cut last [] (k ∷ hs) h = omega arith
some_bytes cut last (t ∷ []) hs h = omega arith
some_bytes cut last (t ∷ d ∷ []) hs h = omega arith
some_bytes cut last (t ∷ d ∷ b ∷ []) hs h = omega arith
some_bytes cut last (t ∷ d ∷ b ∷ r ∷ []) hs h = omega arith
some_bytes cut last (t ∷ d ∷ b ∷ r ∷ w ∷ []) hs h = omega arith
some_bytes cut last (t ∷ d ∷ b ∷ r ∷ w ∷ m ∷ ns) [] h = omega arith
some_bytes cut last (t ∷ d ∷ b ∷ r ∷ w ∷ m ∷ ns) (k ∷ []) h = omega arith
some_bytes cut last (t ∷ d ∷ b ∷ r ∷ w ∷ m ∷ ns) (k ∷ h ∷ hs) some =
    some_form (marked_of (k ∷ [])) (op_of_numbers (t ∷ d ∷ b ∷ r ∷ w ∷ m ∷ []) (k ∷ h ∷ [])) (ops_bytes cut last ns hs)
  where
    some_form : (held : Bool) (o : Op) (post : List ℕ) → 0 < length (op_form held o ++ post)
    some_form false o post = omega arith
    some_form true o post = omega arith

no_bytes : (cut : Cut) (last ns hs : List ℕ) → length ns + length hs ≡ 0 → ops_bytes cut last ns hs ≡ last
unfolding ops_bytes
no_bytes cut last [] [] h = refl
no_bytes cut last [] (k ∷ hs) h = absurd (omega arith)
no_bytes cut last (t ∷ ns) hs h = absurd (omega arith)

module _ (H : Table) (ns hs : List ℕ) (at : ℕ) where
  -- something is left
  left_over : 0 < length ns + length hs → none_left ns hs ≡ false
  left_over some = ne_eqb (length ns + length hs) 0 (λ e. omega arith)

  -- the numbers of an operation, where no more may come and where one may
  many_numbers : 0 < length ns + length hs → ops_of_numbers H ns hs zero at ≡ refused MANY at 0
  unfolding not_many
  many_numbers some =
      numbers_end H ns hs at ∙ rw (left_over some) (then_refuses (accepted []) (refuses (eqb 0 0) MANY at 0 refl))

  short_numbers : (left : ℕ) → 0 < length ns + length hs → (length ns < 6) ⊎ (length hs < 2) → ops_of_numbers H ns hs (suc left) at ≡ refused SHORT at 0
  short_numbers left some few =
      numbers_next H ns hs left at
      ∙ rw (left_over some) (then_refuses _ (refuses _ SHORT at 0 ((says_or _ _ (says_ltb (length ns) 6) (says_ltb (length hs) 2)).1 few)))

  whole_numbers : (left : ℕ) → 6 ≤ length ns → 2 ≤ length hs
      → ops_of_numbers H ns hs (suc left) at
      ≡ (ranged (op_wrong H (marked_of hs) (op_of_numbers ns hs)) at
      then more (op_of_numbers ns hs) (ops_of_numbers H (drop 6 ns) (drop 2 hs) left (at + 3 + op_size (marked_of hs))))
  whole_numbers left six two =
      numbers_next H ns hs left at
      ∙ rw (left_over (omega arith)) (then_accepts _ (passes _ SHORT at 0 (rw (le-ltb (length ns) 6 six, le-ltb (length hs) 2 two))))

-- an operation with numbers missing: MANY where it is a 33rd, SHORT where it is not
cut_off : ℕ → ℕ → Verdict (List Op)
cut_off zero at = refused MANY at 0
cut_off (suc left) at = refused SHORT at 0

cut_numbers : (H : Table) (ns hs : List ℕ) (left at : ℕ) → 0 < length ns + length hs → (length ns < 6) ⊎ (length hs < 2)
    → ops_of_numbers H ns hs left at ≡ cut_off left at
unfolding cut_off
cut_numbers H ns hs zero at some few = many_numbers H ns hs at some
cut_numbers H ns hs (suc left) at some few = short_numbers H ns hs at left some few

-- the operations' fields from a place on
abbrev from : Table → List ℕ → ℕ → ℕ → Verdict (List Op)
from H s left n = fields_from (ops_done H) 4 size_at (wrong_at H) op_at s left n

module _ (H : Table) (pre there : List ℕ) (n : ℕ) (place : n ≡ length pre) where
  -- a header that says how long the value is, and fewer bytes behind it
  module _ (size : ℕ) (few : length there < size) (is : size_at (pre ++ (4 ∷ 0 ∷ size ∷ there)) n ≡ size) where
    abbrev cut_field : List ℕ
    cut_field = pre ++ (4 ∷ 0 ∷ size ∷ there)

    cut_size : length cut_field ≡ n + 3 + length there
    cut_size = omega (arith, length-append pre (4 ∷ 0 ∷ size ∷ there))

    cut_tag : num8 cut_field n ≡ 4
    cut_tag = past8 pre (4 ∷ 0 ∷ size ∷ there) n 0 (omega arith)

    cut_on : ops_done H cut_field n ≡ false
    cut_on = done_not H cut_field n (omega (arith, cut_size)) (λ _ e. omega (arith, cut_tag))

    cut_known : num16 cut_field (n + 1) ≡ size_at cut_field n
    cut_known =
        let low : num16 (4 ∷ 0 ∷ size ∷ there) 1 ≡ size = omega arith in
        past16 pre (4 ∷ 0 ∷ size ∷ there) (n + 1) 1 (omega arith) ∙ low ∙ sym is

    cut_bytes_lem : (left : ℕ) → from H cut_field left n ≡ cut_off left n
    unfolding cut_off
    cut_bytes_lem zero =
        fields_end (ops_done H) 4 size_at (wrong_at H) op_at cut_field n
        ∙ rw cut_on (then_refuses _ (repeat_cut cut_field n 4 (size_at cut_field n) (wrong_at H cut_field n) cut_tag (omega (arith, cut_size)) 0 ∙ then_refuses _ (no_more n)))
    cut_bytes_lem (suc left) =
        fields_next (ops_done H) 4 size_at (wrong_at H) op_at cut_field left n
        ∙ rw cut_on (then_refuses _
        (repeat_cut cut_field n 4 (size_at cut_field n) (wrong_at H cut_field n) cut_tag (omega (arith, cut_size)) (suc left)
        ∙ then_accepts _ (spare n left)
        ∙ value_cut cut_field n (size_at cut_field n) (wrong_at H cut_field n) cut_known (omega (arith, cut_size, is))))

  -- of either form
  form_cut : (form : Bool) → length there < op_size form → (left : ℕ) → from H (pre ++ (4 ∷ be16 (op_size form) ++ there)) left n ≡ cut_off left n
  form_cut false few left = cut_bytes_lem 18 few (ap (λ (x : ℕ). op_size (eqb x 20)) (past16 pre (4 ∷ 0 ∷ 18 ∷ there) (n + 1) 1 (omega arith))) left
  form_cut true few left = cut_bytes_lem 20 few (ap (λ (x : ℕ). op_size (eqb x 20)) (past16 pre (4 ∷ 0 ∷ 20 ∷ there) (n + 1) 1 (omega arith))) left

-- the operations behind the first
pub after_op : (ns hs : List ℕ) (j : ℕ) → op_among (drop 6 ns) (drop 2 hs) j ≡ op_among ns hs (suc j)
after_op ns hs j =
    let six : 6 + 6 * j ≡ 6 * suc j = omega arith in
    let two : 2 + 2 * j ≡ 2 * suc j = omega arith in
    ap (λ (l : List ℕ). op_of_numbers l (drop (2 * j) (drop 2 hs))) (drop-drop (6 * j) 6 ns ∙ ap (λ (i : ℕ). drop i ns) six)
    ∙ ap (op_of_numbers (drop (6 * suc j) ns)) (drop-drop (2 * j) 2 hs ∙ ap (λ (i : ℕ). drop i hs) two)

pub after_mark : (hs : List ℕ) (j : ℕ) → mark_among (drop 2 hs) j ≡ mark_among hs (suc j)
after_mark hs j =
    let two : 2 + 2 * j ≡ 2 * suc j = omega arith in
    ap marked_of (drop-drop (2 * j) 2 hs ∙ ap (λ (i : ℕ). drop i hs) two)

-- behind operations comes who decides: there they end
ops_last : (H : Table) (who : Decider) (pre : List ℕ) (n : ℕ) → n ≡ length pre → ops_place H.modes < n → ops_done H (pre ++ decider_bytes who) n ≡ true
ops_last H nobody pre n place some = done_end H (pre ++ []) n (omega (arith, length-append pre []))
ops_last H (decides d) pre n place some = done_05 H (pre ++ (5 ∷ 0 ∷ 1 ∷ d ∷ [])) n some (past8 pre (5 ∷ 0 ∷ 1 ∷ d ∷ []) n 0 (omega arith))

-- an operation's field, written behind some bytes: where no more may come, and where one may
module _ (H : Table) (held : Bool) (o : Op) (fits : OpFits o) (plain : Plain held o) (pre post : List ℕ) (n : ℕ) (place : n ≡ length pre) where
  abbrev written : List ℕ
  written = pre ++ (op_form held o ++ post)

  size_here : size_at written n ≡ op_size held
  size_here = ap op_size (form_back pre post n place held o)

  tag_here : num8 written n ≡ 4
  tag_here = first_tag (op_repeated held) o pre post n place

  whole_here : n + 3 + size_at written n ≤ length written
  whole_here = omega (arith, first_whole (op_repeated held) o pre post n place, size_here)

  length_here : num16 written (n + 1) ≡ size_at written n
  length_here = first_size (op_repeated held) o pre post n place ∙ sym size_here

  on_here : ops_done H written n ≡ false
  on_here = done_not H written n (omega (arith, whole_here)) (λ _ e. omega (arith, tag_here))

  field_33 : from H written 0 n ≡ refused MANY n 0
  field_33 = field_many (ops_done H) 4 size_at (wrong_at H) op_at written n on_here tag_here whole_here length_here

  field_on : (left : ℕ)
      → from H written (suc left) n ≡ (ranged (op_wrong H held o) n then more o (from H written left (n + 3 + op_size held)))
  field_on left =
      let back = op_back pre post n place held o fits plain in
      field_more (ops_done H) 4 size_at (wrong_at H) op_at written n on_here tag_here whole_here length_here left
      ∙ rw (form_back pre post n place held o, back)

-- where the whole operations fit, the numbers are judged as their bytes; there is one at least, here or before
module _ (H : Table) (cut : Cut) (who : Decider) where
  abbrev behind : List ℕ → List ℕ → List ℕ
  behind = ops_bytes cut (decider_bytes who)

  -- one with numbers missing
  cut_same : (ns hs pre : List ℕ) (left n : ℕ) → n ≡ length pre → 0 < length ns + length hs → (length ns < 6) ⊎ (length hs < 2)
      → from H (pre ++ cut_bytes cut) left n ≡ ops_of_numbers H ns hs left n
  cut_same ns hs pre left n place some few = form_cut H pre cut.there n place cut.form cut.few left ∙ sym (cut_numbers H ns hs left n some few)

  ops_written : (ns hs pre : List ℕ) (left n : ℕ) → n ≡ length pre → ops_place H.modes < n + length ns + length hs
      → ((k : ℕ) → 6 * k + 6 ≤ length ns → 2 * k + 2 ≤ length hs → OpFits (op_among ns hs k))
      → from H (pre ++ behind ns hs) left n ≡ ops_of_numbers H ns hs left n
  unfolding ops_bytes
  ops_written [] [] pre left n place some fit =
      no_field (ops_done H) 4 size_at (wrong_at H) op_at (pre ++ decider_bytes who) n left (ops_last H who pre n place (omega arith)) ∙ sym (none left)
    where
      none : (left : ℕ) → ops_of_numbers H [] [] left n ≡ accepted []
      none zero = numbers_end H [] [] n
      none (suc left) = numbers_next H [] [] left n
  ops_written [] (k ∷ hs) pre left n place some fit = cut_same [] (k ∷ hs) pre left n place (omega arith) (inl (omega arith))
  ops_written (t ∷ []) hs pre left n place some fit = cut_same (t ∷ []) hs pre left n place (omega arith) (inl (omega arith))
  ops_written (t ∷ d ∷ []) hs pre left n place some fit = cut_same (t ∷ d ∷ []) hs pre left n place (omega arith) (inl (omega arith))
  ops_written (t ∷ d ∷ b ∷ []) hs pre left n place some fit = cut_same (t ∷ d ∷ b ∷ []) hs pre left n place (omega arith) (inl (omega arith))
  ops_written (t ∷ d ∷ b ∷ r ∷ []) hs pre left n place some fit = cut_same (t ∷ d ∷ b ∷ r ∷ []) hs pre left n place (omega arith) (inl (omega arith))
  ops_written (t ∷ d ∷ b ∷ r ∷ w ∷ []) hs pre left n place some fit = cut_same (t ∷ d ∷ b ∷ r ∷ w ∷ []) hs pre left n place (omega arith) (inl (omega arith))
  ops_written (t ∷ d ∷ b ∷ r ∷ w ∷ m ∷ ns) [] pre left n place some fit =
      cut_same (t ∷ d ∷ b ∷ r ∷ w ∷ m ∷ ns) [] pre left n place (omega arith) (inr (omega arith))
  ops_written (t ∷ d ∷ b ∷ r ∷ w ∷ m ∷ ns) (k ∷ []) pre left n place some fit =
      cut_same (t ∷ d ∷ b ∷ r ∷ w ∷ m ∷ ns) (k ∷ []) pre left n place (omega arith) (inr (omega arith))
  ops_written (t ∷ d ∷ b ∷ r ∷ w ∷ m ∷ ns) (k ∷ h ∷ hs) pre left n place some fit =
      whole left
      (λ pre' left' n' place' some'.
      ops_written ns hs pre' left' n' place' some' (λ j x y. subst OpFits (sym (after_op all marks j)) (fit (suc j) (omega arith) (omega arith))))
    where
      all : List ℕ
      all = t ∷ d ∷ b ∷ r ∷ w ∷ m ∷ ns

      marks : List ℕ
      marks = k ∷ h ∷ hs

      held : Bool
      held = marked_of marks

      o : Op
      o = op_of_numbers all marks

      whole : (left : ℕ)
          → ((pre : List ℕ) (left n : ℕ) → n ≡ length pre → ops_place H.modes < n + length ns + length hs → from H (pre ++ behind ns hs) left n ≡ ops_of_numbers H ns hs left n)
          → from H (pre ++ (op_form held o ++ behind ns hs)) left n ≡ ops_of_numbers H all marks left n
      whole zero rest =
          field_33 H held o (fit 0 (omega arith) (omega arith)) (plain_handed all marks) pre (behind ns hs) n place
          ∙ sym (many_numbers H all marks n (omega arith))
      whole (suc left) rest =
          let place' : n + 3 + op_size held ≡ length (pre ++ op_form held o) = omega (arith, length-append pre (op_form held o), (op_repeated held).width o) in
          let more = rest (pre ++ op_form held o) left (n + 3 + op_size held) place' (omega (arith, form_least held)) in
          field_on H held o (fit 0 (omega arith) (omega arith)) (plain_handed all marks) pre (behind ns hs) n place left
          ∙ rw (← append_assoc, more) (sym (whole_numbers H all marks n left (omega arith) (omega arith)))

-- what is last comes behind whole operations that are accepted
module _ (H : Table) (cut : Cut) (last : List ℕ) where
  Front : List ℕ → List ℕ → List Op → Type 0
  Front ns hs os = (front : List ℕ) × (length front ≡ ops_size os) × (ops_bytes cut last ns hs ≡ front ++ last)

  none_front : (os : List Op) → length os ≡ 0 → Front [] [] os
  unfolding Front ops_bytes
  none_front [] e = ([], sym size_none, refl)
  none_front (o ∷ os) e = absurd (omega arith)

  -- of numbers that are accepted, the first operation in its form, and the rest
  first_accepted : (ns hs : List ℕ) (left at : ℕ) (os : List Op) → ops_of_numbers H ns hs (suc left) at ≡ accepted os → 6 ≤ length ns → 2 ≤ length hs
      → (us : List Op) × (ops_of_numbers H (drop 6 ns) (drop 2 hs) left (at + 3 + op_size (marked_of hs)) ≡ accepted us)
      × (marked_of hs ≡ settles (op_of_numbers ns hs)) × (os ≡ op_of_numbers ns hs ∷ us)
  first_accepted ns hs left at os come six two =
      let e = sym (whole_numbers H ns hs at left six two) ∙ come in
      let fine = range_passed _ at (then_first _ _ e).1 in
      let (us, rest, same) = more_first (op_of_numbers ns hs) _ (then_rest _ _ e) in
      (us, rest, own_form H (marked_of hs) (op_of_numbers ns hs) (plain_handed ns hs) fine, same)

  one_front : (held : Bool) (o : Op) (us os : List Op) (rest : List ℕ) → held ≡ settles o → os ≡ o ∷ us
      → (front : List ℕ) × (length front ≡ ops_size us) × (rest ≡ front ++ last)
      → (front : List ℕ) × (length front ≡ ops_size os) × (op_form held o ++ rest ≡ front ++ last)
  one_front held o us os rest form same (front, long, spelt) =
      let first = op_form held o in
      let size : ops_size os ≡ ops_size (o ∷ us) = ap ops_size same in (
        first ++ front,
        omega (arith, length-append first front, (op_repeated held).width o, long, size, size_more o us, ap op_size form),
        ap (λ (l : List ℕ). first ++ l) spelt ∙ sym (append_assoc first front last),
      )

  last_behind : (ns hs : List ℕ) (left at : ℕ) (os : List Op) → ops_of_numbers H ns hs left at ≡ accepted os → Counted ns hs os → Front ns hs os
  unfolding Front ops_bytes
  last_behind [] [] left at os come c = none_front os (omega (arith, c.six))
  last_behind [] (k ∷ hs) left at os come c = absurd (omega (arith, c.six, c.two))
  last_behind (t ∷ []) hs left at os come c = absurd (omega (arith, c.six))
  last_behind (t ∷ d ∷ []) hs left at os come c = absurd (omega (arith, c.six))
  last_behind (t ∷ d ∷ b ∷ []) hs left at os come c = absurd (omega (arith, c.six))
  last_behind (t ∷ d ∷ b ∷ r ∷ []) hs left at os come c = absurd (omega (arith, c.six))
  last_behind (t ∷ d ∷ b ∷ r ∷ w ∷ []) hs left at os come c = absurd (omega (arith, c.six))
  last_behind (t ∷ d ∷ b ∷ r ∷ w ∷ m ∷ ns) [] left at os come c = absurd (omega (arith, c.six, c.two))
  last_behind (t ∷ d ∷ b ∷ r ∷ w ∷ m ∷ ns) (k ∷ []) left at os come c = absurd (omega (arith, c.two))
  last_behind (t ∷ d ∷ b ∷ r ∷ w ∷ m ∷ ns) (k ∷ h ∷ hs) zero at os come c =
      never_refused (sym (many_numbers H (t ∷ d ∷ b ∷ r ∷ w ∷ m ∷ ns) (k ∷ h ∷ hs) at (omega arith)) ∙ come)
  last_behind (t ∷ d ∷ b ∷ r ∷ w ∷ m ∷ ns) (k ∷ h ∷ hs) (suc left) at os come c =
      let all = t ∷ d ∷ b ∷ r ∷ w ∷ m ∷ ns in
      let (us, rest, form, same) = first_accepted all (k ∷ h ∷ hs) left at os come (omega arith) (omega arith) in
      let behind = last_behind ns hs left _ us rest (numbers_passing H ns hs left _ us rest).1 in
      one_front (marked_of (k ∷ [])) (op_of_numbers (t ∷ d ∷ b ∷ r ∷ w ∷ m ∷ []) (k ∷ h ∷ [])) us os (ops_bytes cut last ns hs) form same behind

front_of : (H : Table) (cut : Cut) (last ns hs : List ℕ) (left at : ℕ) (os : List Op) → ops_of_numbers H ns hs left at ≡ accepted os
    → (front : List ℕ) × (length front ≡ ops_size os) × (ops_bytes cut last ns hs ≡ front ++ last)
unfolding Front
front_of H cut last ns hs left at os come = last_behind H cut last ns hs left at os come (numbers_passing H ns hs left at os come).1

-- a table's numbers are written as the table is: the mark and the hold of an operation say what it is
mark_back : (o : Op) → marked_of (hold_numbers o) ≡ settles o
mark_back o = go (settles o)
  where
    go : (held : Bool) → not (eqb (cond held 1 0) 0) ≡ held
    go false = refl
    go true = refl

hold_back : (o : Op) → cond (marked_of (hold_numbers o)) o.hold 0 ≡ o.hold
hold_back o = go (marked_of (hold_numbers o)) (λ e. own_plain o (sym (mark_back o) ∙ e))
  where
    go : (held : Bool) → Plain held o → cond held o.hold 0 ≡ o.hold
    go false plain = sym (plain refl)
    go true plain = refl

op_numbers_lem : (o : Op) (ns hs : List ℕ) → op_of_numbers (op_numbers o ++ ns) (hold_numbers o ++ hs) ≡ o
op_numbers_lem o ns hs =
    λ i.
    record {
      start = o.start;
      dur = o.dur;
      hold = hold_back o i;
      boards = o.boards;
      reads = o.reads;
      writes = o.writes;
      modes = o.modes;
    }

table_ops : (cut : Cut) (last : List ℕ) (os : List Op) → ops_bytes cut last (joined op_numbers os) (joined hold_numbers os) ≡ joined op_bytes os ++ last
unfolding ops_bytes op_bytes joined
table_ops cut last [] = refl
table_ops cut last (o ∷ os) =
    let here : op_form (marked_of (hold_numbers o)) (op_of_numbers (op_numbers o) (hold_numbers o)) ≡ op_bytes o =
    ap (λ (b : Bool). op_form b (op_of_numbers (op_numbers o) (hold_numbers o))) (mark_back o) ∙ ap (op_form (settles o)) (op_numbers_lem o [] [])
    in
    ap (λ (l : List ℕ). l ++ ops_bytes cut last (joined op_numbers os) (joined hold_numbers os)) here
    ∙ ap (λ (l : List ℕ). op_bytes o ++ l) (table_ops cut last os)
    ∙ sym (append_assoc (op_bytes o) (joined op_bytes os) last)

-- who decides, handed over
marked_back : (T : Table) → decider_of (numbers_of T) ≡ T.decider
unfolding numbers_of
marked_back T = go T.decider
  where
    go : (who : Decider) → cond (eqb (mark_of who) 0) nobody (decides (number_of who)) ≡ who
    go nobody = refl
    go (decides d) = refl

pub table_written : (cut : Cut) (T : Table) → numbers_bytes cut (numbers_of T) ≡ table_bytes T
unfolding numbers_bytes numbers_of table_bytes
table_written cut T =
    ap (λ (who : Decider). head_bytes T ++ ops_bytes cut (decider_bytes who) (joined op_numbers T.ops) (joined hold_numbers T.ops)) (marked_back T)
    ∙ ap (λ (l : List ℕ). head_bytes T ++ l) (table_ops cut (decider_bytes T.decider) T.ops)

-- ---- numbers that fit their fields

-- one row of tests, from the first to the last
module _ (s : List ℕ) where
  unfoldable flat_bytes : Verdict Table
  flat_bytes =
      field_test s 0 1 2 (len_wrong (head_of s).len)
      then field_test s 5 2 3 (counts_wrong (head_of s).boards (head_of s).cells (head_of s).modes)
      then field_test s 11 3 (4 + 4 * (head_of s).modes) (sets_wrong (head_of s).modes ((head_of s).first ∷ (head_of s).follow))
      then needed s (ops_place (head_of s).modes)
      then onwards (ops_from (head_of s) s 32 (ops_place (head_of s).modes)) (λ os. judge_behind s (with_ops (head_of s) os))

  judge_flat : judge s ≡ flat_bytes
  unfolding flat_bytes
  judge_flat =
      judge_row s ∙ rw (head_row s) (then_assoc _ _ _ ∙ then_again _ (then_assoc _ _ _ ∙ then_again _ (then_assoc _ _ _)))

module _ (N : Numbers) where
  unfoldable flat_numbers : Verdict Table
  flat_numbers =
      ranged (len_wrong N.len) 0
      then ranged (counts_wrong N.boards N.cells N.modes) 5
      then refuse_if (not (eqb (length N.follow) N.modes)) SIZE 11 0
      then ranged (sets_wrong N.modes (N.first ∷ N.follow)) 11
      then refuse_if (none_left N.ops N.holds) ORDER (ops_place N.modes) 0
      then onwards (ops_of_numbers (head_of_numbers N) N.ops N.holds 32 (ops_place N.modes)) (λ os. judge_decider (decider_of N) (with_ops (head_of_numbers N) os))

  numbers_flat : judge_numbers N ≡ flat_numbers
  unfolding flat_numbers
  numbers_flat =
      judge_numbers_row N
      ∙ rw (numbers_row N)
      (then_assoc _ _ _ ∙ then_again _ (then_assoc _ _ _ ∙ then_again _ (then_assoc _ _ _ ∙ then_again _ (then_assoc _ _ _))))

module _ (N : Numbers) (fits : NumbersFit N) (cut : Cut) where
  abbrev bytes : List ℕ
  bytes = numbers_bytes cut N

  abbrev H : Table
  H = head_of_numbers N

  abbrev ops : List ℕ
  ops = ops_bytes cut (decider_bytes (decider_of N)) N.ops N.holds

  abbrev place : ℕ
  place = ops_place N.modes

  bytes_length : length bytes ≡ 18 + 4 * length N.follow + length ops
  unfolding numbers_bytes
  bytes_length = omega (arith, length-append (head_bytes H) ops, head_length H)

  -- the numbers before the operations are read back
  len_back : num16 bytes 3 ≡ N.len
  unfolding numbers_bytes
  len_back = two_bytes N.len fits.len

  size_back : num16 bytes 12 ≡ 4 + 4 * length N.follow
  unfolding numbers_bytes
  size_back =
      let e = words_length N.follow in
      two_bytes (length (be32 N.first ++ joined be32 N.follow)) (omega arith) ∙ omega arith

  first_back : num32 bytes 14 ≡ N.first
  unfolding numbers_bytes
  first_back = four_bytes N.first fits.sets.first

  follow_back : words bytes 18 (length N.follow) ≡ N.follow
  unfolding numbers_bytes
  follow_back = words_back N.follow (take 18 bytes) ops 18 (omega arith) fits.sets.follow

  -- the test of the third field's sets
  abbrev sets : ℕ → List ℕ → ℕ
  sets first follow = sets_wrong N.modes (first ∷ follow)

  -- the two ways to go on behind the operations' numbers
  abbrev as_bytes : Table → Verdict Table
  as_bytes U = needed bytes (ops_place U.modes) then onwards (ops_from U bytes 32 (ops_place U.modes)) (λ os. judge_behind bytes (with_ops U os))

  abbrev as_numbers : Verdict Table
  as_numbers = refuse_if (none_left N.ops N.holds) ORDER place 0 then onwards (ops_of_numbers H N.ops N.holds 32 place) (λ os. judge_decider (decider_of N) (with_ops H os))

  -- with the right count of follower words
  module _ (count : length N.follow ≡ N.modes) where
    head_back : head_of bytes ≡ H
    unfolding head_of numbers_bytes
    head_back =
        let follow = ap (words bytes 18) (sym count) ∙ follow_back in
        λ i. record { len = len_back i; boards = N.boards; cells = N.cells; modes = N.modes; first = first_back i; follow = follow i; ops = []; decider = nobody }

    sets_back : sets (num32 bytes 14) (words bytes 18 N.modes) ≡ sets N.first N.follow
    sets_back = simp (first_back, ← count, follow_back)

    -- no operations: the input ends there, or a decider's field is not due
    none_order : (who : Decider) → length bytes ≡ place + length (decider_bytes who) → num8 bytes place ≡ num8 (decider_bytes who) 0
        → as_bytes H ≡ refused ORDER place 0
    unfolding needed ops_from
    none_order nobody long tag = then_refuses _ (refuses _ ORDER place 0 (le-leb (length bytes) place (omega arith)))
    none_order (decides d) long tag =
        then_accepts _ (passes _ ORDER place 0 (lt-leb (length bytes) place (omega arith)))
        ∙ onwards_refuses _
        (field_order (ops_done H) 4 size_at (wrong_at H) op_at bytes place 31 (done_not H bytes place (omega arith) (λ h _. omega arith)) (omega arith) (λ e. omega arith))

    none_same : length N.ops + length N.holds ≡ 0 → as_bytes H ≡ as_numbers
    unfolding numbers_bytes
    none_same none =
        let last = decider_bytes (decider_of N) in
        let there = no_bytes cut last N.ops N.holds none in
        let tag = past8 (head_bytes H) ops place 0 (omega (arith, head_length H)) ∙ ap (λ (l : List ℕ). num8 l 0) there in
        none_order (decider_of N) (omega (arith, bytes_length, ap (λ (l : List ℕ). length l) there)) tag
        ∙ sym (then_refuses _ (refuses _ ORDER place 0 (eq-eqb (length N.ops + length N.holds) 0 none)))

    -- who decides is judged alike behind the operations
    behind_same : (os : List Op) → ops_of_numbers H N.ops N.holds 32 place ≡ accepted os
        → judge_behind bytes (with_ops H os) ≡ judge_decider (decider_of N) (with_ops H os)
    unfolding numbers_bytes
    behind_same os come =
        let who = decider_of N in
        let T = with_ops H os in
        let (front, long, same) = front_of H cut (decider_bytes who) N.ops N.holds 32 place os come in
        let pre = head_bytes H ++ front in
        let there : bytes ≡ pre ++ decider_bytes who = ap (λ (l : List ℕ). head_bytes H ++ l) same ∙ sym (append_assoc (head_bytes H) front (decider_bytes who)) in
        let at : ops_end T ≡ length pre = omega (arith, length-append (head_bytes H) front, head_length H) in
        behind_row bytes T
        ∙ ap (λ (s : List ℕ). decider_test s (ops_end T) (nops T) then judge_whole (with_decider T (decider_at s (ops_end T)))) there
        ∙ ap (λ (v : Test). v then judge_whole (with_decider T (decider_at (pre ++ decider_bytes who) (ops_end T)))) (decider_tested pre (ops_end T) (nops T) at who)
        ∙ ap (λ (x : Decider). ranged (decider_wrong (nops T) who) (ops_end T) then judge_whole (with_decider T x)) (decider_back pre (ops_end T) (nops T) at who)
        ∙ sym (judge_decider_row who T)

    some_same : 0 < length N.ops + length N.holds → as_bytes H ≡ as_numbers
    unfolding needed numbers_bytes ops_from
    some_same some =
        let head : place ≡ length (head_bytes H) = omega (arith, head_length H) in
        then_accepts _ (passes _ ORDER place 0 (lt-leb (length bytes) place (omega (arith, bytes_length, some_bytes cut (decider_bytes (decider_of N)) N.ops N.holds some))))
        ∙ ap (λ v. onwards v (λ os. judge_behind bytes (with_ops H os))) (ops_written H cut (decider_of N) N.ops N.holds (head_bytes H) 32 place head (omega arith) fits.each)
        ∙ onwards_same (ops_of_numbers H N.ops N.holds 32 place) (λ os. judge_behind bytes (with_ops H os)) (λ os. judge_decider (decider_of N) (with_ops H os)) behind_same
        ∙ sym (then_accepts _ (passes _ ORDER place 0 (ne_eqb (length N.ops + length N.holds) 0 (λ e. omega arith))))

    tail_same : as_bytes (head_of bytes) ≡ as_numbers
    tail_same = ap as_bytes head_back ∙ go (ℕ_discrete (length N.ops + length N.holds) 0)
      where
        go : Dec (length N.ops + length N.holds ≡ 0) → as_bytes H ≡ as_numbers
        go (yes e) = none_same e
        go (no n) = some_same (omega (arith, n))

  first_field : field_test bytes 0 1 2 (len_wrong (num16 bytes 3)) ≡ ranged (len_wrong N.len) 0
  unfolding numbers_bytes
  first_field = field_whole bytes 0 1 2 _ refl (omega (arith, bytes_length)) refl ∙ ap (λ (p : ℕ). ranged (len_wrong p) 0) len_back

  second_field : (wrong : ℕ) → field_test bytes 5 2 3 wrong ≡ ranged wrong 5
  unfolding numbers_bytes
  second_field wrong = field_whole bytes 5 2 3 wrong refl (omega (arith, bytes_length)) refl

  third_tag : num8 bytes 11 ≡ 3
  unfolding numbers_bytes
  third_tag = refl

  -- the third field, with the right count and with a wrong one, and what comes after it
  third_field : {v w : Verdict Table} → (length N.follow ≡ N.modes → v ≡ w) → Dec (length N.follow ≡ N.modes)
      → (field_test bytes 11 3 (4 + 4 * N.modes) (sets (num32 bytes 14) (words bytes 18 N.modes)) then v)
      ≡ (refuse_if (not (eqb (length N.follow) N.modes)) SIZE 11 0 then ranged (sets N.first N.follow) 11 then w)
  unfolding refuse_if ◌then◌
  third_field rest (yes e) =
      then_same
      (field_whole bytes 11 3 (4 + 4 * N.modes) _ third_tag (omega (arith, bytes_length)) (omega (arith, size_back))
      ∙ ap (λ (w : ℕ). ranged w 11) (sets_back e))
      (λ _ _. rest e)
      ∙ sym (then_accepts _ (passes (not (eqb (length N.follow) N.modes)) SIZE 11 0 (simp (eq-eqb _ _ e))))
  third_field rest (no n) =
      let wrong = field_size bytes 11 3 (4 + 4 * N.modes) (sets (num32 bytes 14) (words bytes 18 N.modes)) third_tag (omega (arith, bytes_length)) (λ z. n (omega (arith, size_back))) in
      simp (wrong, ne_eqb (length N.follow) N.modes n)

  rows_same : flat_bytes bytes ≡ flat_numbers N
  unfolding flat_bytes flat_numbers head_of numbers_bytes
  rows_same =
      then_same first_field
      (λ _ _. then_same (second_field (counts_wrong N.boards N.cells N.modes))
      (λ _ _. third_field tail_same (ℕ_discrete (length N.follow) N.modes)))

  -- "judged as if first written in this layout and then read"
  pub as_written : judge_numbers N ≡ judge (numbers_bytes cut N)
  as_written = numbers_flat N ∙ sym rows_same ∙ sym (judge_flat bytes)

-- ---- numbers in their ranges fit their fields

-- a set within n is one within k
below : (k n s : ℕ) → n ≤ k → s < 2 ^ n → s < 2 ^ k
below k n s h b = let le : 2 ^ n ≤ 2 ^ k = pow_mono h in omega arith

counts_fit : (N : Numbers) → counts_wrong N.boards N.cells N.modes ≡ 0 → CountsFit N
counts_fit N ok =
    let (_, (boards, (cells, (_, modes)))) = (says_counts N.boards N.cells N.modes).0 ok in
    record { boards = omega arith; cells = omega arith; modes = omega arith }

sets_fit : (N : Numbers) → counts_wrong N.boards N.cells N.modes ≡ 0
    → sets_wrong N.modes (N.first ∷ N.follow) ≡ 0 → SetsFit N
sets_fit N ok sets =
    let (_, (_, (_, (_, few)))) = (says_counts N.boards N.cells N.modes).0 ok in
    let each = (says_sets N.modes (N.first ∷ N.follow)).0 sets in
    record {
      first = below 32 N.modes N.first few (each 0 (omega arith)).small;
      follow = λ a h. below 32 N.modes (get_or N.follow a 0) few (each (suc a) (omega arith)).small;
    }

op_fits : (H : Table) → len_wrong H.len ≡ 0 → counts_wrong H.boards H.cells H.modes ≡ 0 → (o : Op) → step_wrong H o ≡ 0 → OpFits o
op_fits H len counts o h =
    let (_, short) = (says_len H.len).0 len in
    let (_, (boards, (cells, (_, modes)))) = (says_counts H.boards H.cells H.modes).0 counts in
    let x = op_passed H o h in
    record {
      start = omega (arith, x.fits);
      dur = omega (arith, x.fits);
      hold = omega (arith, x.fits);
      boards = below 16 H.boards o.boards boards x.boards.small;
      reads = below 32 H.cells o.reads cells x.reads;
      writes = below 32 H.cells o.writes cells x.writes;
      modes = below 32 H.modes o.modes modes x.modes.small;
    }

-- one that has nothing behind its header
cut_bare : Cut
cut_bare = record { form = false; there = []; few = omega arith }

-- ---- what is refused, and where

module _ (N : Numbers) where
  abbrev LenGood : Type 0
  LenGood = len_wrong N.len ≡ 0

  abbrev CountsGood : Type 0
  CountsGood = counts_wrong N.boards N.cells N.modes ≡ 0

  -- a refusal before the operations is the verdict
  head_refused : {n a b : ℕ} → numbers_test N ≡ refused n a b → judge_numbers N ≡ refused n a b
  head_refused e = judge_numbers_row N ∙ then_refuses _ e

  -- "A number too large for its field": p
  pub len_too_large : 65536 ≤ N.len → judge_numbers N ≡ refused RANGE 0 3
  len_too_large large =
      let wrong = len_high N.len (omega arith) in
      let place : 0 + len_wrong N.len ≡ 3 = omega (arith, wrong) in
      head_refused (numbers_row N ∙ then_refuses _ (ranged_no _ 0 (λ e. omega (arith, wrong)) ∙ ap (refused RANGE 0) place))

  -- one of the counts
  pub counts_too_large : LenGood → (CountsFit N → ⊥) → judge_numbers N ≡ refused RANGE 5 (5 + counts_wrong N.boards N.cells N.modes)
  counts_too_large len large =
      head_refused
      (numbers_row N
      ∙ then_accepts _ (ranged_yes _ 0 len)
      ∙ then_refuses _ (ranged_no _ 5 (λ e. large (counts_fit N e))))

  -- "A wrong count of follower words is SIZE"
  pub words_size : LenGood → CountsGood → (length N.follow ≡ N.modes → ⊥) → judge_numbers N ≡ refused SIZE 11 0
  words_size len counts wrong =
      head_refused
      (numbers_row N
      ∙ then_accepts _ (ranged_yes _ 0 len)
      ∙ then_accepts _ (ranged_yes _ 5 counts)
      ∙ then_refuses _ (refuses _ SIZE 11 0 (rw (ne_eqb (length N.follow) N.modes wrong))))

  -- as of the bytes with that many words
  pub words_written : NumbersFit N → LenGood → CountsGood → (length N.follow ≡ N.modes → ⊥) → (cut : Cut) → judge (numbers_bytes cut N) ≡ refused SIZE 11 0
  words_written fits len counts wrong cut = sym (as_written N fits cut) ∙ words_size len counts wrong

  -- the first modes, or a follower word
  pub sets_too_large : LenGood → CountsGood → length N.follow ≡ N.modes → (SetsFit N → ⊥) → judge_numbers N ≡ refused RANGE 11 (11 + sets_wrong N.modes (N.first ∷ N.follow))
  sets_too_large len counts count large =
      head_refused
      (numbers_row N
      ∙ then_accepts _ (ranged_yes _ 0 len)
      ∙ then_accepts _ (ranged_yes _ 5 counts)
      ∙ then_accepts _ (passes _ SIZE 11 0 (rw (eq-eqb (length N.follow) N.modes count)))
      ∙ then_refuses _ (ranged_no _ 11 (λ e. large (sets_fit N counts e))))

  -- what stands before the operations passes
  head_passes : HeadOk (head_of_numbers N) → 0 < length N.ops + length N.holds → numbers_test N ≡ accepted tt
  head_passes head some =
      numbers_row N
      ∙ then_accepts _ (ranged_yes _ 0 head.len)
      ∙ then_accepts _ (ranged_yes _ 5 head.counts)
      ∙ then_accepts _ (passes _ SIZE 11 0 (rw (eq-eqb (length N.follow) N.modes head.words)))
      ∙ then_accepts _ (ranged_yes _ 11 head.sets)
      ∙ passes _ ORDER _ 0 (ne_eqb (length N.ops + length N.holds) 0 (λ e. omega arith))

-- the numbers of operation k, in the form that its mark says, are in their ranges
abbrev AmongFine : Table → List ℕ → List ℕ → ℕ → Type 0
AmongFine H ns hs k = op_wrong H (mark_among hs k) (op_among ns hs k) ≡ 0

-- so are those behind the first
fine_behind : (H : Table) (ns hs : List ℕ) (j : ℕ) → AmongFine H ns hs (suc j) → AmongFine H (drop 6 ns) (drop 2 hs) j
fine_behind H ns hs j e =
    ap (λ (b : Bool). op_wrong H b (op_among (drop 6 ns) (drop 2 hs) j)) (after_mark hs j) ∙ ap (op_wrong H (mark_among hs (suc j))) (after_op ns hs j) ∙ e

-- the first k operations in their ranges, a refusal of what comes behind them is the verdict
ops_behind_lem : (H : Table) (k : ℕ) (ns hs : List ℕ) (left all at : ℕ) {n a b : ℕ} → all ≡ k + left → 6 * k ≤ length ns → 2 * k ≤ length hs
    → ((j : ℕ) → j < k → AmongFine H ns hs j)
    → ops_of_numbers H (drop (6 * k) ns) (drop (2 * k) hs) left (place_among hs at k) ≡ refused n a b → ops_of_numbers H ns hs all at ≡ refused n a b
unfolding place_among
ops_behind_lem H zero ns hs left all at count six two good e =
    let same : all ≡ left = omega arith in
    ap (λ (m : ℕ). ops_of_numbers H ns hs m at) same ∙ e
ops_behind_lem H (suc k) ns hs left zero at count six two good e = absurd (omega arith)
ops_behind_lem H (suc k) ns hs left (suc all) at {n} {a} {b} count six two good e =
    let there = place_among (drop 2 hs) (at + 3 + op_size (marked_of hs)) k in
    let sixth : 6 + 6 * k ≡ 6 * suc k = omega arith in
    let second : 2 + 2 * k ≡ 2 * suc k = omega arith in
    let sixes : drop (6 * k) (drop 6 ns) ≡ drop (6 * suc k) ns = drop-drop (6 * k) 6 ns ∙ ap (λ (i : ℕ). drop i ns) sixth in
    let twos : drop (2 * k) (drop 2 hs) ≡ drop (2 * suc k) hs = drop-drop (2 * k) 2 hs ∙ ap (λ (i : ℕ). drop i hs) second in
    let rest : ops_of_numbers H (drop (6 * k) (drop 6 ns)) (drop (2 * k) (drop 2 hs)) left there ≡ refused n a b =
    ap (λ (l : List ℕ). ops_of_numbers H l (drop (2 * k) (drop 2 hs)) left there) sixes
    ∙ ap (λ (l : List ℕ). ops_of_numbers H (drop (6 * suc k) ns) l left there) twos
    ∙ e
    in
    whole_numbers H ns hs at all (omega arith) (omega arith)
    ∙ then_accepts _ (ranged_yes _ at (good 0 (omega arith)))
    ∙ more_refuses _
    (ops_behind_lem H k (drop 6 ns) (drop 2 hs) left all _ (omega arith) (omega (arith, length-drop 6 ns)) (omega (arith, length-drop 2 hs))
    (λ j h. fine_behind H ns hs j (good (suc j) (omega arith)))
    rest)

-- what stands before the operations in its ranges, and the first k operations in theirs, k below 32; the next would be written at its place
module _ (N : Numbers) (head : HeadOk (head_of_numbers N)) (k : ℕ) (few : k < 32) (sixes : 6 * k ≤ length N.ops) (twos : 2 * k ≤ length N.holds)
    (good : (j : ℕ) → j < k → AmongFine (head_of_numbers N) N.ops N.holds j) where
  abbrev next : ℕ
  next = place_among N.holds (ops_place N.modes) k

  behind_refused : {n a b : ℕ} → 0 < length N.ops + length N.holds
      → ((left : ℕ) → ops_of_numbers (head_of_numbers N) (drop (6 * k) N.ops) (drop (2 * k) N.holds) (suc left) next ≡ refused n a b)
      → judge_numbers N ≡ refused n a b
  behind_refused some e =
      judge_numbers_row N
      ∙ then_accepts _ (head_passes N head some)
      ∙ onwards_refuses _ (ops_behind_lem (head_of_numbers N) k N.ops N.holds (suc (31 - k)) 32 _ (omega arith) sixes twos good (e (31 - k)))

  -- "an operation with numbers missing SHORT": one of the six, or its mark or its hold, or all of either
  pub numbers_missing : 6 * k + 2 * k < length N.ops + length N.holds → (length N.ops < 6 * k + 6) ⊎ (length N.holds < 2 * k + 2)
      → judge_numbers N ≡ refused SHORT next 0
  numbers_missing some short =
      let six = length-drop (6 * k) N.ops in
      let two = length-drop (2 * k) N.holds in
      behind_refused (omega arith)
      (λ left. short_numbers (head_of_numbers N) (drop (6 * k) N.ops) (drop (2 * k) N.holds) _ left (omega arith) (less six two short))
    where
      less : length (drop (6 * k) N.ops) ≡ length N.ops - 6 * k → length (drop (2 * k) N.holds) ≡ length N.holds - 2 * k
          → (length N.ops < 6 * k + 6) ⊎ (length N.holds < 2 * k + 2)
          → (length (drop (6 * k) N.ops) < 6) ⊎ (length (drop (2 * k) N.holds) < 2)
      less six two (inl h) = inl (omega arith)
      less six two (inr h) = inr (omega arith)

  -- a number of operation k that is too large for its field
  pub op_too_large : 6 * k + 6 ≤ length N.ops → 2 * k + 2 ≤ length N.holds → (OpFits (op_among N.ops N.holds k) → ⊥)
      → judge_numbers N
      ≡ refused RANGE next (next + op_wrong (head_of_numbers N) (mark_among N.holds k) (op_among N.ops N.holds k))
  op_too_large six two large =
      let ns = drop (6 * k) N.ops in
      let hs = drop (2 * k) N.holds in
      let H = head_of_numbers N in
      let sixth = length-drop (6 * k) N.ops in
      let second = length-drop (2 * k) N.holds in
      behind_refused (omega arith)
      (λ left.
      whole_numbers H ns hs _ left (omega arith) (omega arith)
      ∙ then_refuses _
      (ranged_no _ _ (λ e. large (op_fits H head.len head.counts (op_of_numbers ns hs) (own_wrong H (marked_of hs) (op_of_numbers ns hs) (plain_handed ns hs) e)))))

-- whole operations in their ranges are accepted
ops_good : (H : Table) (k : ℕ) (ns hs : List ℕ) (left at : ℕ) → length ns ≡ 6 * k → length hs ≡ 2 * k → k ≤ left
    → ((j : ℕ) → j < k → AmongFine H ns hs j)
    → (os : List Op) × (ops_of_numbers H ns hs left at ≡ accepted os) × (length os ≡ k) × (at + ops_size os ≡ place_among hs at k)
unfolding place_among
ops_good H zero ns hs zero at six two few good = ([], numbers_end H ns hs at ∙ rw (eq-eqb (length ns + length hs) 0 (omega arith)), refl, omega (arith, size_none))
ops_good H zero ns hs (suc left) at six two few good = ([], numbers_next H ns hs left at ∙ rw (eq-eqb (length ns + length hs) 0 (omega arith)), refl, omega (arith, size_none))
ops_good H (suc k) ns hs zero at six two few good = absurd (omega arith)
ops_good H (suc k) ns hs (suc left) at six two few good =
    let o = op_of_numbers ns hs in
    let held = marked_of hs in
    let (os, come, count, place) = ops_good H k (drop 6 ns) (drop 2 hs) left (at + 3 + op_size held) (omega (arith, length-drop 6 ns)) (omega (arith, length-drop 2 hs)) (omega arith)
    (λ j h. fine_behind H ns hs j (good (suc j) (omega arith)))
    in
    let form : held ≡ settles o = own_form H held o (plain_handed ns hs) (good 0 (omega arith)) in (
      o ∷ os,
      whole_numbers H ns hs at left (omega arith) (omega arith) ∙ then_accepts _ (ranged_yes _ at (good 0 (omega arith))) ∙ more_accepts o come,
      ap suc count,
      omega (arith, place, size_more o os, ap op_size form),
    )

-- a decider that is marked and is none of the k operations, too large for its byte or not
pub decider_too_large : (N : Numbers) (k : ℕ) → HeadOk (head_of_numbers N) → length N.ops ≡ 6 * k → length N.holds ≡ 2 * k → 1 ≤ k → k ≤ 32
    → ((j : ℕ) → j < k → AmongFine (head_of_numbers N) N.ops N.holds j) → (N.mark ≡ 0 → ⊥) → k ≤ N.decider
    → judge_numbers N ≡ refused RANGE (place_among N.holds (ops_place N.modes) k) (place_among N.holds (ops_place N.modes) k + 3)
decider_too_large N k head six two some few good set large =
    let H = head_of_numbers N in
    let (os, come, count, place) = ops_good H k N.ops N.holds 32 (ops_place N.modes) six two few good in
    let who : decider_of N ≡ decides N.decider = rw (ne_eqb N.mark 0 set) in
    let wrong = decider_high (length os) N.decider (omega arith) in
    judge_numbers_row N
    ∙ then_accepts _ (head_passes N head (omega arith))
    ∙ onwards_accepts _ come
    ∙ ap (λ (x : Decider). judge_decider x (with_ops H os)) who
    ∙ judge_decider_row (decides N.decider) (with_ops H os)
    ∙ then_refuses _ (ap (λ (w : ℕ). ranged w (ops_end (with_ops H os))) wrong ∙ ranged_no 3 (ops_end (with_ops H os)) (λ e. omega arith))
    ∙ ap (λ (p : ℕ). refused RANGE p (p + 3)) place

-- ---- an accepted table

-- its operations, as its numbers have them
table_op : (os : List Op) (k : ℕ) → k < length os → op_among (joined op_numbers os) (joined hold_numbers os) k ≡ get_or os k no_op
unfolding joined
table_op [] k h = absurd (omega arith)
table_op (o ∷ os) zero h = op_numbers_lem o (joined op_numbers os) (joined hold_numbers os)
table_op (o ∷ os) (suc k) h = sym (after_op (joined op_numbers (o ∷ os)) (joined hold_numbers (o ∷ os)) k) ∙ table_op os k (omega arith)

numbers_length : (os : List Op) → length (joined op_numbers os) ≡ 6 * length os
numbers_length = joined_length op_numbers 6 (λ o. refl)

holds_length : (os : List Op) → length (joined hold_numbers os) ≡ 2 * length os
holds_length = joined_length hold_numbers 2 (λ o. refl)

-- they are judged by what they are
ops_numbers : (H : Table) (os : List Op) (left at : ℕ)
    → ops_of_numbers H (joined op_numbers os) (joined hold_numbers os) left at ≡ fields_of (λ o. op_size (settles o)) (step_wrong H) os left at
unfolding joined fields_of
ops_numbers H [] zero at = numbers_end H [] [] at
ops_numbers H [] (suc left) at = numbers_next H [] [] left at
ops_numbers H (o ∷ os) zero at = many_numbers H (joined op_numbers (o ∷ os)) (joined hold_numbers (o ∷ os)) at (omega arith)
ops_numbers H (o ∷ os) (suc left) at =
    let ns = joined op_numbers os in
    let hs = joined hold_numbers os in
    whole_numbers H (op_numbers o ++ ns) (hold_numbers o ++ hs) at left (omega arith) (omega arith)
    ∙ ap (λ (u : Op). ranged (op_wrong H (marked_of (hold_numbers o)) u) at then more u (ops_of_numbers H ns hs left (at + 3 + op_size (marked_of (hold_numbers o))))) (op_numbers_lem o ns hs)
    ∙ ap (λ (b : Bool). ranged (op_wrong H b o) at then more o (ops_of_numbers H ns hs left (at + 3 + op_size b))) (mark_back o)
    ∙ ap (λ v. ranged (step_wrong H o) at then more o v) (ops_numbers H os left (at + 3 + op_size (settles o)))

-- a table in its ranges is judged as a whole, handed over and written
module _ (T : Table) (head : HeadOk T) (some : 1 ≤ nops T) (few : nops T ≤ 32) (good : (i : ℕ) → i < nops T → step_wrong T (op T i) ≡ 0)
    (decider : decider_wrong (nops T) T.decider ≡ 0) where
  ranges_fit : NumbersFit (numbers_of T)
  unfolding numbers_of
  ranges_fit =
      let (_, short) = (says_len T.len).0 head.len in
      let (_, (_, (_, (_, modes)))) = (says_counts T.boards T.cells T.modes).0 head.counts in
      record {
        len = omega arith;
        counts = counts_fit (numbers_of T) head.counts;
        sets = sets_fit (numbers_of T) head.counts head.sets;
        size = omega (arith, head.words);
        each =
            λ k h _.
            let inside : k < nops T = omega (arith, numbers_length T.ops) in
            subst OpFits (sym (table_op T.ops k inside)) (op_fits T head.len head.counts (op T k) (good k inside));
        decider = λ d e. omega (arith, few, (says_decider (nops T) T.decider).0 decider d (sym (marked_back T) ∙ e));
      }

  -- who decides, behind the operations
  ranges_decider : (who : Decider) → who ≡ T.decider → judge_decider who (with_ops (head_of_numbers (numbers_of T)) T.ops) ≡ judge_whole T
  unfolding numbers_of
  ranges_decider who e =
      let U = with_ops (head_of_numbers (numbers_of T)) T.ops in
      ap (λ (x : Decider). judge_decider x U) e ∙ judge_decider_row T.decider U ∙ then_accepts _ (ranged_yes _ (ops_end U) decider)

  ranges_numbers : judge_numbers (numbers_of T) ≡ judge_whole T
  unfolding numbers_of
  ranges_numbers =
      let H = head_of_numbers (numbers_of T) in
      judge_numbers_row (numbers_of T)
      ∙ then_accepts _
      (head_passes (numbers_of T) (record { len = head.len; counts = head.counts; words = head.words; sets = head.sets })
      (omega (arith, numbers_length T.ops, holds_length T.ops)))
      ∙ onwards_accepts (λ os. judge_decider (decider_of (numbers_of T)) (with_ops H os))
      (ops_numbers H T.ops 32 (ops_place T.modes)
      ∙ fields_accepted no_op _ (step_wrong H) T.ops 32 (ops_place T.modes) few (λ i h. head_wrong T [] nobody _ _ ∙ good i h))
      ∙ ranges_decider (decider_of (numbers_of T)) (marked_back T)

  pub ranges_written : judge (table_bytes T) ≡ judge_whole T
  ranges_written = ap judge (sym (table_written cut_bare T)) ∙ sym (as_written (numbers_of T) ranges_fit cut_bare) ∙ ranges_numbers

module _ (T : Table) (ok : Accepted T) where
  accepted_head : HeadOk T
  accepted_head =
      record {
        len = (says_len T.len).1 (ok.len_low, ok.len_high);
        counts = (says_counts _ _ _).1 (ok.boards_low, (ok.boards_high, (ok.cells_high, (ok.modes_low, ok.modes_high))));
        words = ok.words;
        sets = (says_sets T.modes (T.first ∷ T.follow)).1 (λ a h. set a h);
      }
    where
      set : (a : ℕ) → a < length (T.first ∷ T.follow) → SetOf T.modes (get_or (T.first ∷ T.follow) a 0)
      set zero h = ok.firsts
      set (suc a) h = ok.follows a (omega (arith, ok.words))

  accepted_ops : (i : ℕ) → i < nops T → step_wrong T (op T i) ≡ 0
  accepted_ops i h = op_passes T (op T i) ok.len_high (ok.each i h)

  accepted_decider : decider_wrong (nops T) T.decider ≡ 0
  accepted_decider = (says_decider (nops T) T.decider).1 (decider_there T T.decider ok.decided)

  pub accepted_numbers : judge_numbers (numbers_of T) ≡ accepted T
  accepted_numbers = ranges_numbers T accepted_head ok.ops_low ok.ops_high accepted_ops accepted_decider ∙ whole_accepts T ok

  pub write_read : judge (table_bytes T) ≡ accepted T
  write_read = ranges_written T accepted_head ok.ops_low ok.ops_high accepted_ops accepted_decider ∙ whole_accepts T ok
