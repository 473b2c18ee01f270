-- The figures of a refusal of a table's bytes, of a table handed over as numbers and of a reply's bytes: its number is 1 to 10, and a and b
-- are places up to 889 or numbers of operations.
-- Assumes nothing.
use Prim.Native.Nat.{ℕ, zero, suc, ◌+◌, ◌-◌, ◌*◌, ◌<◌, ◌≤◌}
use mathlib.Core.Path.{◌≡◌, refl, subst}
use mathlib.Core.Bool.{Bool, true, false, not, cond, ◌||◌}
use mathlib.Core.List.{List, [], ◌∷◌}
use native.Mathlib.Omega.{arith}
use lib.Dec.{leb, ltb, eqb}
use lib.ListN.{length, drop}
use borrow.Author.Tests.{eqb-true, eqb-false, not-false}
use Rattle.rules.specs.Table.{Op, Decider, nobody, decides, Table, nops, op}
use Rattle.rules.specs.Verdicts.{Verdict, accepted, refused, SHORT, ORDER, SIZE, RANGE, MANY, CLASH, RACE, EARLY, Test, refuse_if, ◌then◌, onwards, more, each}
use Rattle.rules.specs.Rows.{ticks}
use Rattle.rules.specs.Bytes.{num8, num16, op_size, held_at, op_at, row_at, farthest}
use Rattle.rules.specs.Judge.{needed, header, due, sized, complete, ranged, not_many, field_test, repeat_test, at_end, fields_from, len_wrong, counts_wrong, sets_wrong, op_wrong, decider_wrong, clashes, races, pairs_test, always, early, early_test, judge_whole, head_of, with_ops, with_decider, ops_place, ops_end, head_test, ops_done, size_at, wrong_at, ops_from, nothing_due, decider_at, decider_test, judge_behind, judge, Numbers, marked_of, op_of_numbers, head_of_numbers, decider_of, none_left, numbers_test, ops_of_numbers, judge_numbers, row_wrong, rows_from, judge_reply}
use Rattle.theory.proofs.Verdicts.{passed}
use Rattle.theory.proofs.Ranges.{len_within, counts_within, sets_within, op_within, decider_within, row_within, range_passed}
use Rattle.theory.proofs.Judging.{field_row, repeat_row, fields_end, fields_next, field_passed, says_decider, whole_row, head_row, head_ok, judge_row, behind_row, decider_row, nothing_row, form_most, size_most, ops_passing, ops_ended, decider_passed, numbers_end, numbers_next, numbers_passing, numbers_row, judge_decider_row, judge_numbers_row, numbers_ok, length_words}
use Rattle.theory.proofs.Lengths.{modes_few}
use Rattle.theory.proofs.Replies.{reply_row}

pub record Small (n a b : ℕ) : Type 0 where
  pub low : 1 ≤ n
  pub high : n ≤ 10
  pub first : a ≤ farthest
  pub second : b ≤ farthest

-- v is no refusal, or one of the documents' numbers with figures of at most 889
unfoldable pub Bounded : {A : Type 0} → Verdict A → Type 0
Bounded (accepted x) = Unit {0}
Bounded (refused n a b) = Small n a b

-- ---- one test after the other

bounded_if : (fault : Bool) (n a b : ℕ) → Small n a b → Bounded (refuse_if fault n a b)
unfolding Bounded refuse_if
bounded_if true n a b h = h
bounded_if false n a b h = tt

module _ {A B : Type 0} where
  bounded_then : (v : Verdict A) (w : Verdict B) → Bounded v → ((x : A) → v ≡ accepted x → Bounded w) → Bounded (v then w)
  unfolding Bounded ◌then◌
  bounded_then (accepted x) w h g = g x refl
  bounded_then (refused n a b) w h g = h

  bounded_onwards : (v : Verdict A) (f : A → Verdict B) → Bounded v → ((x : A) → v ≡ accepted x → Bounded (f x)) → Bounded (onwards v f)
  unfolding Bounded onwards
  bounded_onwards (accepted x) f h g = g x refl
  bounded_onwards (refused n a b) f h g = h

bounded_accepted : {A : Type 0} (x : A) → Bounded (accepted x)
unfolding Bounded
bounded_accepted x = tt

bounded_refused : (n a b : ℕ) → Small n a b → Bounded {A = Unit {0}} (refused n a b)
unfolding Bounded
bounded_refused n a b h = h

bounded_more : {A : Type 0} (x : A) (v : Verdict (List A)) → Bounded v → Bounded (more x v)
unfolding Bounded more
bounded_more x (accepted xs) h = tt
bounded_more x (refused n a b) h = h

bounded_cond : {A : Type 0} (c : Bool) (v w : Verdict A) → Bounded v → Bounded w → Bounded (cond c v w)
bounded_cond true v w h g = h
bounded_cond false v w h g = g

bounded_each : (f : ℕ → Test) (i n : ℕ) → ((k : ℕ) → i ≤ k → k < i + n → Bounded (f k)) → Bounded (each f i n)
unfolding each
bounded_each f i zero h = bounded_accepted tt
bounded_each f i (suc n) h = bounded_then (f i) (each f (suc i) n) (h i (omega arith) (omega arith)) (λ _ _. bounded_each f (suc i) n (λ k a b. h k (omega arith) (omega arith)))

-- ---- fields: the figure is the field's place

module _ (at : ℕ) (h : at ≤ farthest) where
  place_bounded : (fault : Bool) (n : ℕ) → 1 ≤ n → n ≤ 10 → Bounded (refuse_if fault n at 0)
  place_bounded fault n low high = bounded_if fault n at 0 (record { low = low; high = high; first = h; second = omega arith })

  many_bounded : (left : ℕ) → Bounded (not_many at left)
  unfolding not_many
  many_bounded left = place_bounded (eqb left 0) MANY (omega arith) (omega arith)

-- RANGE has the number's place too
ranged_bounded : (wrong at : ℕ) → at + wrong ≤ farthest → Bounded (ranged wrong at)
unfolding ranged
ranged_bounded wrong at h =
    bounded_if (not (eqb wrong 0)) RANGE at (at + wrong) (record { low = omega arith; high = omega arith; first = omega arith; second = h })

module _ (s : List ℕ) (at : ℕ) (h : at ≤ farthest) where
  needed_bounded : Bounded (needed s at)
  unfolding needed
  needed_bounded = place_bounded at h (leb (length s) at) ORDER (omega arith) (omega arith)

  header_bounded : Bounded (header s at)
  unfolding header
  header_bounded = place_bounded at h (ltb (length s) (at + 3)) SHORT (omega arith) (omega arith)

  due_bounded : (tag : ℕ) → Bounded (due s at tag)
  unfolding due
  due_bounded tag = place_bounded at h (not (eqb (num8 s at) tag)) ORDER (omega arith) (omega arith)

  sized_bounded : (size : ℕ) → Bounded (sized s at size)
  unfolding sized
  sized_bounded size = place_bounded at h (not (eqb (num16 s (at + 1)) size)) SIZE (omega arith) (omega arith)

  complete_bounded : (size : ℕ) → Bounded (complete s at size)
  unfolding complete
  complete_bounded size = place_bounded at h (ltb (length s) (at + 3 + size)) SHORT (omega arith) (omega arith)

  module _ (tag size wrong : ℕ) where
    value_bounded : at + wrong ≤ farthest → Bounded (sized s at size then complete s at size then ranged wrong at)
    value_bounded g = bounded_then _ _ (sized_bounded size) (λ _ _. bounded_then _ _ (complete_bounded size) (λ _ _. ranged_bounded wrong at g))

    field_bounded : at + wrong ≤ farthest → Bounded (field_test s at tag size wrong)
    field_bounded g =
        rw (field_row s at tag size wrong)
        (bounded_then _ _ needed_bounded (λ _ _. bounded_then _ _ header_bounded (λ _ _. bounded_then _ _ (due_bounded tag) (λ _ _. value_bounded g))))

    repeat_bounded : (left : ℕ) → (0 < left → at + wrong ≤ farthest) → Bounded (repeat_test s at left tag size wrong)
    unfolding not_many
    repeat_bounded left g =
        rw (repeat_row s at tag size wrong left)
        (bounded_then _ _ header_bounded
        (λ _ _. bounded_then _ _ (due_bounded tag)
        (λ _ _. bounded_then _ _ (many_bounded at h left) (λ _ e. value_bounded (g (omega (arith, eqb-false left 0 (passed _ MANY at 0 e))))))))

-- repeated fields, each of at most so many bytes
module _ {A : Type 0} (ends : List ℕ → ℕ → Bool) (tag : ℕ) (size wrong : List ℕ → ℕ → ℕ) (value : List ℕ → ℕ → A) (s : List ℕ) (most : ℕ)
    (less : (at : ℕ) → size s at ≤ most) (within : (at : ℕ) → wrong s at ≤ 3 + size s at) where
  -- one field, and what comes behind it
  next_bounded : (left at : ℕ) (rest : Verdict (List A)) → at ≤ farthest → (0 < left → at + (3 + most) ≤ farthest) → Bounded rest
      → Bounded (cond (ends s at) (accepted []) (repeat_test s at left tag (size s at) (wrong s at) then rest))
  next_bounded left at rest h k g =
      bounded_cond (ends s at) (accepted []) (repeat_test s at left tag (size s at) (wrong s at) then rest) (bounded_accepted [])
      (bounded_then _ rest
      (repeat_bounded s at h tag (size s at) (wrong s at) left (λ m. omega (arith, k m, within at, less at)))
      (λ _ _. g))

  fields_bounded : (left at : ℕ) → at + left * (3 + most) ≤ farthest → Bounded (fields_from ends tag size wrong value s left at)
  fields_bounded zero at h =
      rw (fields_end ends tag size wrong value s at) (next_bounded 0 at (accepted []) (omega arith) (λ m. absurd (omega arith)) (bounded_accepted []))
  fields_bounded (suc left) at h =
      rw (fields_next ends tag size wrong value s left at)
      (next_bounded (suc left) at (more (value s at) (fields_from ends tag size wrong value s left (at + 3 + size s at))) (omega arith) (λ m. omega arith)
      (bounded_more (value s at) _ (fields_bounded left (at + 3 + size s at) (omega (arith, less at)))))

-- ---- CLASH and RACE: the figures are numbers of operations

-- the test of operations i and j
abbrev pair : (Op → Op → Bool) → ℕ → Table → ℕ → ℕ → Test
pair hit n T i j = refuse_if (hit (op T i) (op T j)) n i j

pairs_bounded : (hit : Op → Op → Bool) (n : ℕ) (T : Table) → 1 ≤ n → n ≤ 10 → nops T ≤ 32 → Bounded (pairs_test hit n T)
unfolding pairs_test
pairs_bounded hit n T low high few =
    bounded_each (λ i. each (pair hit n T i) (suc i) (nops T - suc i)) 0 (nops T)
    (λ i _ b. bounded_each (pair hit n T i) (suc i) (nops T - suc i) (λ j _ d. bounded_if (hit (op T i) (op T j)) n i j (record { low = low; high = high; first = omega arith; second = omega arith })))

-- EARLY: so are these, where the decider is one of them
early_bounded : (T : Table) (who : Decider) → nops T ≤ 32 → ((d : ℕ) → who ≡ decides d → d < nops T) → Bounded (early_test T who)
unfolding early_test
early_bounded T nobody few there = bounded_accepted tt
early_bounded T (decides d) few there =
    let low = there d refl in
    bounded_then (refuse_if (not (always T (op T d))) EARLY d d) (each (λ i. refuse_if (early T (op T d) (op T i)) EARLY d i) 0 (nops T))
    (bounded_if (not (always T (op T d))) EARLY d d (record { low = omega arith; high = omega arith; first = omega arith; second = omega arith }))
    (λ _ _.
    bounded_each (λ i. refuse_if (early T (op T d) (op T i)) EARLY d i) 0 (nops T)
    (λ i _ h. bounded_if (early T (op T d) (op T i)) EARLY d i (record { low = omega arith; high = omega arith; first = omega arith; second = omega arith })))

whole_bounded : (T : Table) → nops T ≤ 32 → decider_wrong (nops T) T.decider ≡ 0 → Bounded (judge_whole T)
whole_bounded T few decider =
    rw (whole_row T)
    (bounded_then _ _ (pairs_bounded clashes CLASH T (omega arith) (omega arith) few)
    (λ _ _. bounded_then _ _ (pairs_bounded races RACE T (omega arith) (omega arith) few)
    (λ _ _. bounded_then _ _ (early_bounded T T.decider few ((says_decider (nops T) T.decider).0 decider)) (λ _ _. bounded_accepted T))))

-- ---- a table's bytes

module _ (s : List ℕ) where
  words : length (head_of s).follow ≡ (head_of s).modes
  unfolding head_of
  words = length_words s 18 _

  head_bounded : Bounded (head_test s)
  head_bounded =
      rw (head_row s)
      (bounded_then _ _ (field_bounded s 0 (omega arith) 1 2 _ (omega (arith, len_within (head_of s).len refl)))
      (λ _ _. bounded_then _ _
      (field_bounded s 5 (omega arith) 2 3 _ (omega (arith, counts_within (head_of s).boards (head_of s).cells (head_of s).modes refl)))
      (λ _ e.
      let few = modes_few (head_of s) (field_passed s 5 2 3 _ e).1 in
      let sets = sets_within (head_of s).modes ((head_of s).first ∷ (head_of s).follow) refl in
      bounded_then _ _ (field_bounded s 11 (omega arith) 3 _ _ (omega (arith, sets, words))) (λ _ _. needed_bounded s (ops_place (head_of s).modes) (omega arith)))))

  nothing_bounded : (at : ℕ) → at ≤ farthest → Bounded (nothing_due s at)
  nothing_bounded at h =
      rw (nothing_row s at)
      (bounded_cond (leb (length s) at) (accepted (tt {0})) (header s at then refused ORDER at 0) (bounded_accepted (tt {0}))
      (bounded_then (header s at) (refused ORDER at 0) (header_bounded s at h)
      (λ _ _. bounded_refused ORDER at 0 (record { low = omega arith; high = omega arith; first = h; second = omega arith }))))

  decider_bounded : (at n : ℕ) → at + 4 ≤ farthest → Bounded (decider_test s at n)
  decider_bounded at n h =
      rw (decider_row s at n)
      (bounded_cond (leb (length s) at) (accepted tt) (field_test s at 5 1 (decider_wrong n (decider_at s at)) then nothing_due s (at + 4)) (bounded_accepted tt)
      (bounded_then _ _ (field_bounded s at (omega arith) 5 1 _ (omega (arith, decider_within n (decider_at s at) refl)))
      (λ _ _. nothing_bounded (at + 4) h)))

  behind_bounded : (T : Table) → nops T ≤ 32 → ops_end T ≤ length s → ops_end T + 4 ≤ farthest → Bounded (judge_behind s T)
  behind_bounded T few inside h =
      rw (behind_row s T)
      (bounded_then _ _ (decider_bounded (ops_end T) (nops T) h)
      (λ _ e. whole_bounded (with_decider T (decider_at s (ops_end T))) few (decider_passed s (ops_end T) (nops T) e inside).0))

  pub judge_bounded : Bounded (judge s)
  unfolding ops_from
  judge_bounded =
      rw (judge_row s)
      (bounded_then _ _ head_bounded
      (λ _ e.
      let few = modes_few (head_of s) (head_ok s e).0.counts in
      let H = head_of s in
      bounded_onwards _ _ (fields_bounded (ops_done H) 4 size_at (wrong_at H) op_at s 20 (λ i. form_most (held_at s i)) (λ i. op_within H (held_at s i) (op_at s i) refl) 32 (ops_place H.modes) (omega arith))
      (λ os come.
      let less = (ops_passing s H _ os come).few in
      let inside = (ops_ended s H _ os come).inside (omega (arith, (head_ok s e).1)) in
      behind_bounded (with_ops H os) less (omega arith) (omega (arith, size_most os)))))

-- ---- a table handed over as numbers

ops_bounded : (T : Table) (ns hs : List ℕ) (left at : ℕ) → at + left * 23 ≤ farthest → Bounded (ops_of_numbers T ns hs left at)
ops_bounded T ns hs zero at h =
    rw (numbers_end T ns hs at)
    (bounded_cond (none_left ns hs) (accepted []) (not_many at 0 then accepted []) (bounded_accepted [])
    (bounded_then _ _ (many_bounded at (omega arith) 0) (λ _ _. bounded_accepted [])))
ops_bounded T ns hs (suc left) at h =
    let most = form_most (marked_of hs) in
    rw (numbers_next T ns hs left at)
    (bounded_cond (none_left ns hs) (accepted []) _ (bounded_accepted [])
    (bounded_then _ _ (place_bounded at (omega arith) (ltb (length ns) 6 || ltb (length hs) 2) SHORT (omega arith) (omega arith))
    (λ _ _. bounded_then _ _
    (ranged_bounded (op_wrong T (marked_of hs) (op_of_numbers ns hs)) at (omega (arith, op_within T (marked_of hs) (op_of_numbers ns hs) refl, most)))
    (λ _ _. bounded_more (op_of_numbers ns hs) _ (ops_bounded T (drop 6 ns) (drop 2 hs) left (at + 3 + op_size (marked_of hs)) (omega (arith, most)))))))

module _ (N : Numbers) where
  first_bounded : Bounded (numbers_test N)
  first_bounded =
      rw (numbers_row N)
      (bounded_then _ _ (ranged_bounded (len_wrong N.len) 0 (omega (arith, len_within N.len refl)))
      (λ _ _. bounded_then _ _
      (ranged_bounded (counts_wrong N.boards N.cells N.modes) 5 (omega (arith, counts_within N.boards N.cells N.modes refl)))
      (λ _ e.
      let few = modes_few (head_of_numbers N) (range_passed _ 5 e) in
      bounded_then _ _ (place_bounded 11 (omega arith) (not (eqb (length N.follow) N.modes)) SIZE (omega arith) (omega arith))
      (λ _ c.
      let count : length N.follow ≡ N.modes = eqb-true _ _ (not-false _ (passed _ SIZE 11 0 c)) in
      let sets = sets_within N.modes (N.first ∷ N.follow) refl in
      bounded_then _ _ (ranged_bounded (sets_wrong N.modes (N.first ∷ N.follow)) 11 (omega (arith, sets, count)))
      (λ _ _. place_bounded (ops_place N.modes) (omega arith) (none_left N.ops N.holds) ORDER (omega arith) (omega arith))))))

  pub numbers_bounded : Bounded (judge_numbers N)
  numbers_bounded =
      rw (judge_numbers_row N)
      (bounded_then _ _ first_bounded
      (λ _ e.
      let few = modes_few (head_of_numbers N) (numbers_ok N e).0.counts in
      bounded_onwards _ _ (ops_bounded (head_of_numbers N) N.ops N.holds 32 (ops_place N.modes) (omega arith))
      (λ os come.
      let T = with_ops (head_of_numbers N) os in
      let less = (numbers_passing _ N.ops N.holds 32 _ os come).0.few in
      rw (judge_decider_row (decider_of N) T)
      (bounded_then _ _ (ranged_bounded (decider_wrong (nops T) (decider_of N)) (ops_end T) (omega (arith, decider_within (nops T) (decider_of N) refl, size_most os)))
      (λ _ f. whole_bounded (with_decider T (decider_of N)) less (range_passed _ (ops_end T) f))))))

-- ---- a reply's bytes

pub reply_bounded : (s : List ℕ) → Bounded (judge_reply s)
unfolding rows_from
reply_bounded s =
    rw (reply_row s)
    (bounded_then _ _ (bounded_then _ _ (field_bounded s 0 (omega arith) 17 2 _ (omega (arith, len_within (num16 s 3) refl))) (λ _ _. needed_bounded s 5 (omega arith)))
    (λ _ _. bounded_onwards _ _ (fields_bounded at_end 18 (λ s at. 4) (λ s at. row_wrong (ticks (num16 s 3)) (row_at s at)) row_at s 4 (λ i. omega arith) (λ i. row_within (ticks (num16 s 3)) (row_at s i) refl) 32 5 (omega arith)) (λ rs _. bounded_accepted _)))

-- a refusal of a table's bytes
pub figures_small : (s : List ℕ) (n a b : ℕ) → judge s ≡ refused n a b → Small n a b
unfolding Bounded
figures_small s n a b e = subst (λ (v : Verdict Table). Bounded v) e (judge_bounded s)
