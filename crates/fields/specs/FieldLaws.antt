-- When each test of a field refuses and when it passes, what the rows of tests come to, and repeated fields one after the other.
-- Assumes nothing.
use Rattle.std.specs.Prelude.{ℕ, zero, suc, ◌+◌, ◌-◌, ◌^◌, ◌<◌, ◌≤◌, ◌≡◌, refl, Bool, true, false, not, List, [], eqb, length, Option, Some, None, IfSome}
use Rattle.std.proofs.Math.Path.{sym}
use Rattle.std.proofs.Common.{ap, ◌∙◌, arith}
use borrow.Author.Tests.{le-leb, lt-leb, lt-ltb, le-ltb, eq-eqb, ne_eqb, ltb-false, eqb-false}
use Rattle.rules.specs.Verdicts.{Verdict, accepted, refused, SHORT, ORDER, SIZE, MANY, Test, ◌then◌, onwards, more}
use Rattle.rules.specs.Bytes.{num8, num16}
use Rattle.rules.specs.Judge.{needed, header, due, not_many, sized, complete, ranged, field_test, repeat_test, fields_from}
use Rattle.theory.proofs.Verdicts.{never_refused, passes, refuses, passed, then_accepts, then_refuses, then_first, then_rest, then_assoc}
use Rattle.theory.proofs.Judging.{field_row, repeat_row, fields_end, fields_next}
use Rattle.fields.specs.declared.Refusal.{Refusal}
use Rattle.fields.specs.Verdicts.{refusal_of}
use Rattle.fields.specs.RefusalLaws.{then_refusal}
use Rattle.theory.proofs.Ranges.{ranged_no}
use Rattle.fields.specs.Fields.{sized_of, field_of, repeat_of, IsPlace}

-- a fault that is not there, and one that is
unequal : (a b : ℕ) → (a ≡ b → ⊥) → not (eqb a b) ≡ true
unequal a b h = ap not (ne_eqb a b h)

equal : (a b : ℕ) → a ≡ b → not (eqb a b) ≡ false
equal a b h = ap not (eq-eqb a b h)

module _ (s : List ℕ) (at : ℕ) where
  pub needed_no : length s ≤ at → needed s at ≡ refused ORDER at 0
  unfolding needed
  needed_no h = refuses _ ORDER at 0 (le-leb (length s) at h)

  pub needed_yes : at < length s → needed s at ≡ accepted tt
  unfolding needed
  needed_yes h = passes _ ORDER at 0 (lt-leb (length s) at h)

  header_no : length s < at + 3 → header s at ≡ refused SHORT at 0
  unfolding header
  header_no h = refuses _ SHORT at 0 (lt-ltb (length s) (at + 3) h)

  header_yes : at + 3 ≤ length s → header s at ≡ accepted tt
  unfolding header
  header_yes h = passes _ SHORT at 0 (le-ltb (length s) (at + 3) h)

  due_no : (tag : ℕ) → (num8 s at ≡ tag → ⊥) → due s at tag ≡ refused ORDER at 0
  unfolding due
  due_no tag h = refuses _ ORDER at 0 (unequal (num8 s at) tag h)

  due_yes : (tag : ℕ) → num8 s at ≡ tag → due s at tag ≡ accepted tt
  unfolding due
  due_yes tag h = passes _ ORDER at 0 (equal (num8 s at) tag h)

  many_no : (left : ℕ) → left ≡ 0 → not_many at left ≡ refused MANY at 0
  unfolding not_many
  many_no left h = refuses _ MANY at 0 (eq-eqb left 0 h)

  many_yes : (left : ℕ) → (left ≡ 0 → ⊥) → not_many at left ≡ accepted tt
  unfolding not_many
  many_yes left h = passes _ MANY at 0 (ne_eqb left 0 h)

  sized_no : (size : ℕ) → (num16 s (at + 1) ≡ size → ⊥) → sized s at size ≡ refused SIZE at 0
  unfolding sized
  sized_no size h = refuses _ SIZE at 0 (unequal (num16 s (at + 1)) size h)

  sized_yes : (size : ℕ) → num16 s (at + 1) ≡ size → sized s at size ≡ accepted tt
  unfolding sized
  sized_yes size h = passes _ SIZE at 0 (equal (num16 s (at + 1)) size h)

  complete_no : (size : ℕ) → length s < at + 3 + size → complete s at size ≡ refused SHORT at 0
  unfolding complete
  complete_no size h = refuses _ SHORT at 0 (lt-ltb (length s) (at + 3 + size) h)

  complete_yes : (size : ℕ) → at + 3 + size ≤ length s → complete s at size ≡ accepted tt
  unfolding complete
  complete_yes size h = passes _ SHORT at 0 (le-ltb (length s) (at + 3 + size) h)

-- ---- the whole row is these tests and then the ranges
module _ (s : List ℕ) (at tag size wrong : ℕ) where
  field_split : field_test s at tag size wrong ≡ (field_of s at tag size then ranged wrong at)
  unfolding field_of sized_of
  field_split =
      field_row s at tag size wrong
      ∙ sym (simp then_assoc)

  pub repeat_split : (left : ℕ) → repeat_test s at left tag size wrong ≡ (repeat_of s at left tag size then ranged wrong at)
  unfolding repeat_of sized_of
  repeat_split left = repeat_row s at tag size wrong left ∙ sym (simp then_assoc)

-- ---- what the rows come to, test by test
module _ (s : List ℕ) (at size : ℕ) where
  pub sized_other : (num16 s (at + 1) ≡ size → ⊥) → sized_of s at size ≡ refused SIZE at 0
  unfolding sized_of
  sized_other h = then_refuses _ (sized_no s at size h)

  pub sized_short : num16 s (at + 1) ≡ size → length s < at + 3 + size → sized_of s at size ≡ refused SHORT at 0
  unfolding sized_of
  sized_short e h = then_accepts _ (sized_yes s at size e) ∙ complete_no s at size h

  pub sized_whole : num16 s (at + 1) ≡ size → at + 3 + size ≤ length s → sized_of s at size ≡ accepted tt
  unfolding sized_of
  sized_whole e h = then_accepts _ (sized_yes s at size e) ∙ complete_yes s at size h

  -- a field that passes is whole
  pub sized_passed : sized_of s at size ≡ accepted tt → at + 3 + size ≤ length s
  unfolding sized_of complete
  sized_passed e = ltb-false (length s) (at + 3 + size) (passed _ SHORT at 0 (then_rest (sized s at size) (complete s at size) e))

module _ (s : List ℕ) (at tag size : ℕ) where
  pub field_missing : length s ≤ at → field_of s at tag size ≡ refused ORDER at 0
  unfolding field_of
  field_missing h = then_refuses _ (needed_no s at h)

  pub field_cut : at < length s → length s < at + 3 → field_of s at tag size ≡ refused SHORT at 0
  unfolding field_of
  field_cut h l = then_accepts _ (needed_yes s at h) ∙ then_refuses _ (header_no s at l)

  pub field_other : at + 3 ≤ length s → (num8 s at ≡ tag → ⊥) → field_of s at tag size ≡ refused ORDER at 0
  unfolding field_of
  field_other h e =
      then_accepts _ (needed_yes s at (omega arith)) ∙ then_accepts _ (header_yes s at h) ∙ then_refuses _ (due_no s at tag e)

  pub field_due : at + 3 ≤ length s → num8 s at ≡ tag → field_of s at tag size ≡ sized_of s at size
  unfolding field_of
  field_due h e =
      then_accepts _ (needed_yes s at (omega arith)) ∙ then_accepts _ (header_yes s at h) ∙ then_accepts _ (due_yes s at tag e)

  pub field_passed : field_of s at tag size ≡ accepted tt → at + 3 + size ≤ length s
  unfolding field_of
  field_passed e = sized_passed s at size (then_rest (due s at tag) _ (then_rest (header s at) _ (then_rest (needed s at) _ e)))

  pub repeat_cut : (left : ℕ) → length s < at + 3 → repeat_of s at left tag size ≡ refused SHORT at 0
  unfolding repeat_of
  repeat_cut left l = then_refuses _ (header_no s at l)

  pub repeat_other : (left : ℕ) → at + 3 ≤ length s → (num8 s at ≡ tag → ⊥) → repeat_of s at left tag size ≡ refused ORDER at 0
  unfolding repeat_of
  repeat_other left h e = then_accepts _ (header_yes s at h) ∙ then_refuses _ (due_no s at tag e)

  pub repeat_many : (left : ℕ) → at + 3 ≤ length s → num8 s at ≡ tag → left ≡ 0 → repeat_of s at left tag size ≡ refused MANY at 0
  unfolding repeat_of
  repeat_many left h e m =
      then_accepts _ (header_yes s at h) ∙ then_accepts _ (due_yes s at tag e) ∙ then_refuses _ (many_no s at left m)

  pub repeat_due : (left : ℕ) → at + 3 ≤ length s → num8 s at ≡ tag → (left ≡ 0 → ⊥) → repeat_of s at left tag size ≡ sized_of s at size
  unfolding repeat_of
  repeat_due left h e m =
      then_accepts _ (header_yes s at h) ∙ then_accepts _ (due_yes s at tag e) ∙ then_accepts _ (many_yes s at left m)

  -- a repeated field that passes is whole, and was allowed to come
  pub repeat_passed : (left : ℕ) → repeat_of s at left tag size ≡ accepted tt → (at + 3 + size ≤ length s) × (left ≡ 0 → ⊥)
  unfolding repeat_of not_many
  repeat_passed left e =
      let rest = then_rest (due s at tag) _ (then_rest (header s at) _ e) in (
        sized_passed s at size (then_rest (not_many at left) _ rest),
        eqb-false left 0 (passed _ MANY at 0 (then_first (not_many at left) _ rest).1),
      )

-- ---- the tests before the ranges, and the ranges

module _ (s : List ℕ) (at tag size wrong : ℕ) where
  -- a field is refused where its tests before the ranges refuse
  pub field_bad : (r : Refusal) → refusal_of r ≡ field_of s at tag size → refusal_of r ≡ field_test s at tag size wrong
  field_bad r e = sym (field_split s at tag size wrong ∙ then_refusal r _ (sym e))

  -- and where they pass, the ranges decide
  pub field_ranged : (w : ℕ) → accepted tt ≡ field_of s at tag size → w ≡ wrong → ranged w at ≡ field_test s at tag size wrong
  field_ranged w e h = ap (λ (x : ℕ). ranged x at) h ∙ sym (field_split s at tag size wrong ∙ then_accepts _ (sym e))

  -- likewise a field that may be repeated
  pub repeat_bad : (left : ℕ) (r : Refusal) → refusal_of r ≡ repeat_of s at left tag size → refusal_of r ≡ repeat_test s at left tag size wrong
  repeat_bad left r e = sym (repeat_split s at tag size wrong left ∙ then_refusal r _ (sym e))

  pub repeat_ranged : (left w : ℕ) → accepted tt ≡ repeat_of s at left tag size → w ≡ wrong → ranged w at ≡ repeat_test s at left tag size wrong
  repeat_ranged left w e h = ap (λ (x : ℕ). ranged x at) h ∙ sym (repeat_split s at tag size wrong left ∙ then_accepts _ (sym e))

-- where the range test passes nothing is wrong
pub ranged_fine : (n at : ℕ) → accepted tt ≡ ranged n at → n ≡ 0
ranged_fine zero at e = refl
ranged_fine (suc n) at e = never_refused (sym (ranged_no (suc n) at (λ z. omega arith)) ∙ sym e)

-- the place of the first wrong number is no farther than the rules tell
pub place_fits : (wrong : Option ℕ) (at n : ℕ) → IsPlace wrong n → at + n < 2 ^ 64 → IfSome wrong (λ w. at + w < 2 ^ 64)
place_fits None at n is h = tt
place_fits (Some w) at n is h = omega (arith, is.0)

-- ---- repeated fields, one after the other

-- a test, and what follows where it passes
test_onwards : {A B : Type 0} (v : Test) (w : Verdict B) (x : A) (f : A → Verdict B) → (v ≡ accepted tt → w ≡ f x)
    → (v then w) ≡ onwards (v then accepted x) f
unfolding ◌then◌ onwards
test_onwards (accepted y) w x f e = e refl
test_onwards (refused n a b) w x f e = refl

module _ (tag : ℕ) {A : Type 0} (size wrong : List ℕ → ℕ → ℕ) (value : List ℕ → ℕ → A) (s : List ℕ) where
  -- a repeated field that passes is whole, and was allowed to come
  pub repeat_whole : (left at : ℕ) → repeat_test s at left tag (size s at) (wrong s at) ≡ accepted tt → (at + 3 + size s at ≤ length s) × (left ≡ 0 → ⊥)
  repeat_whole left at e =
      repeat_passed s at tag (size s at) left
      (then_first (repeat_of s at left tag (size s at)) _ (sym (repeat_split s at tag (size s at) (wrong s at) left) ∙ e)).1

  -- the field at a place where they do not end, and those behind it
  pub from_next : (ends : List ℕ → ℕ → Bool) (left at : ℕ) → ends s at ≡ false
      → fields_from ends tag size wrong value s left at
      ≡ onwards (repeat_test s at left tag (size s at) (wrong s at) then accepted (value s at))
      (λ x. more x (fields_from ends tag size wrong value s (left - 1) (at + (3 + size s at))))
  from_next ends zero at h =
      fields_end ends tag size wrong value s at
      ∙ rw h
      (test_onwards (repeat_test s at 0 tag (size s at) (wrong s at)) (accepted []) (value s at) _ (λ e. absurd ((repeat_whole 0 at e).1 refl)))
  from_next ends (suc left) at h =
      let p : at + 3 + size s at ≡ at + (3 + size s at) = omega arith in
      let l : suc left - 1 ≡ left = omega arith in
      fields_next ends tag size wrong value s left at
      ∙ rw h
      (test_onwards (repeat_test s at (suc left) tag (size s at) (wrong s at)) _ (value s at)
      (λ x. more x (fields_from ends tag size wrong value s (suc left - 1) (at + (3 + size s at))))
      (λ e. rw (l, p)))
