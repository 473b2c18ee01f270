-- Document 02, No. 12, tried on the bench tables: each fact follows from the definitions alone, by computing. The must-fail edits of `Renamed` are
-- refused here.
-- Assumes nothing.
use Prim.Native.Nat.{ℕ, zero, suc, ◌^◌, ◌<◌, ◌≤◌}
use mathlib.Core.Path.{◌≡◌, refl, sym, ap, ◌∙◌}
use mathlib.Core.Bool.{Bool, true, false, cond, ◌&&◌, false≢true}
use mathlib.Core.List.{List, [], ◌∷◌, ◌++◌}
use native.Mathlib.Decide.{dec_lt, ℕ_discrete}
use native.Mathlib.Omega.{arith}
use lib.Dec.{eqb, ltb}
use lib.ListN.{length, get_or}
use borrow.Author.Tests.{ltb-true, eqb-true}
use Rattle.rules.specs.Sets.{has, In}
use Rattle.rules.specs.Table.{Op, Decider, nobody, decides, Table, nops, op, followers}
use Rattle.rules.specs.Rows.{Ticks, Row, ticks, reply_of}
use Rattle.rules.specs.Renamed.{Names, OneToOne, Below, RenamedSet, InUse, OpRenamed, following, Renamed, in_order, boards_by, modes_by, no_row, Moved}
use Rattle.rules.specs.Verdicts.{accepted, refused}
use Rattle.rules.specs.Bytes.{table_bytes}
use Rattle.rules.specs.Judge.{judge}
use Rattle.rules.specs.Bench.{opn, held, one_mode, row, k1, k2, k3, k5, k6, k7, k10, by_row, turned_round, k2_turned, other_boards, k3_renamed, exchanged, k5_exchanged, k7_exchanged, sorted_before, all_three, sorted, k10_turned, k10_behind, k10_before, no_such_board}
use Rattle.rules.proofs.Tried.{in_small}

-- ---- not renamed: each of these differs in one thing from `sorted`, which is (`sorted_is_renamed`), or from a table like it

-- a table by its parts
abbrev resorted : (len boards cells modes first : ℕ) → List ℕ → List Op → Decider → Table
resorted len boards cells modes first follow os who =
    record { len = len; boards = boards; cells = cells; modes = modes; first = first; follow = follow; ops = os; decider = who }

-- all three at once, but for first modes, turns and decider
abbrev sorted_head : ℕ → List ℕ → Decider → Table
sorted_head first follow who = resorted 6 5 1 2 first follow sorted.ops who

-- but for operation 1, which stands first: [2,5) on board 4 reads c0 in the cold, now mode 1
abbrev sorted_op : Op → Table
sorted_op o = resorted 6 5 1 2 2 (2 ∷ 3 ∷ []) (o ∷ opn 4 1 1 1 0 1 ∷ held 0 2 1 2 0 1 3 ∷ []) (decides 2)

Sorted : Table → Type 0
Sorted T = Renamed all_three sorted_before T

-- another length, another number of cells, of modes, of operations, of words; a count of boards that does not cover the new names; one beyond 16
len_not : Sorted (resorted 7 5 1 2 2 (2 ∷ 3 ∷ []) sorted.ops (decides 2)) → ⊥
unfolding Sorted
len_not x = omega (arith, x.len)

cells_not : Sorted (resorted 6 5 2 2 2 (2 ∷ 3 ∷ []) sorted.ops (decides 2)) → ⊥
unfolding Sorted
cells_not x = omega (arith, x.cells)

mode_more_not : Sorted (resorted 6 5 1 3 2 (2 ∷ 3 ∷ []) sorted.ops (decides 2)) → ⊥
unfolding Sorted
mode_more_not x = omega (arith, x.modes)

op_more_not : Sorted (resorted 6 5 1 2 2 (2 ∷ 3 ∷ []) (sorted.ops ++ (opn 5 1 8 0 0 1 ∷ [])) (decides 2)) → ⊥
unfolding Sorted
op_more_not x = omega (arith, x.count)

word_more_not : Sorted (sorted_head 2 (2 ∷ 3 ∷ 1 ∷ []) (decides 2)) → ⊥
unfolding Sorted
word_more_not x = omega (arith, x.words)

not_covered : Sorted (resorted 6 4 1 2 2 (2 ∷ 3 ∷ []) sorted.ops (decides 2)) → ⊥
unfolding Sorted has
not_covered x = omega (arith, x.boards.there 1 (1, omega arith, refl))

boards_17_not : Sorted (resorted 6 17 1 2 2 (2 ∷ 3 ∷ []) sorted.ops (decides 2)) → ⊥
unfolding Sorted
boards_17_not x = omega (arith, x.boards_high)

-- what is in a set with one member, 0, is taken to 1 by the exchange of cold and warm
not_zero : (a : ℕ) → In a 1 → all_three.mode a ≡ 0 → ⊥
not_zero zero x e = omega arith
not_zero (suc a) x e = in_small 1 1 (suc a) (omega arith) (omega arith) x

-- first modes left behind; one more; turns left behind; one more; one less
first_left_not : Sorted (sorted_head 1 (2 ∷ 3 ∷ []) (decides 2)) → ⊥
unfolding Sorted has
first_left_not x = false≢true ((x.firsts 1).1 (0, refl, refl))

first_more_not : Sorted (sorted_head 3 (2 ∷ 3 ∷ []) (decides 2)) → ⊥
unfolding Sorted has
first_more_not x = let (a, is, to) = (x.firsts 0).0 refl in not_zero a is to

turns_left_not : Sorted (sorted_head 2 (3 ∷ 1 ∷ []) (decides 2)) → ⊥
unfolding Sorted has
turns_left_not x = false≢true ((x.turns 0 (omega arith) 1).1 (0, refl, refl))

turn_more_not : Sorted (sorted_head 2 (3 ∷ 3 ∷ []) (decides 2)) → ⊥
unfolding Sorted has
turn_more_not x = let (a, is, to) = (x.turns 1 (omega arith) 0).0 refl in not_zero a is to

turn_less_not : Sorted (sorted_head 2 (2 ∷ 2 ∷ []) (decides 2)) → ⊥
unfolding Sorted has
turn_less_not x = false≢true ((x.turns 0 (omega arith) 0).1 (1, refl, refl))

-- the decider's number left behind; nobody
decider_left_not : Sorted (sorted_head 2 (2 ∷ 3 ∷ []) (decides 0)) → ⊥
unfolding Sorted
decider_left_not x = let e = x.decider in let z : ◌≡◌ {A = ℕ} 0 2 = cc in omega arith

decider_none_not : Sorted (sorted_head 2 (2 ∷ 3 ∷ []) nobody) → ⊥
unfolding Sorted
decider_none_not x = let e = x.decider in let z : ◌≡◌ {A = ℕ} 1 0 = cc in omega arith

-- the operations where they were; a date, a hold, a cell more or less; boards and modes left behind, one more
order_left_not : Sorted (resorted 6 5 1 2 2 (2 ∷ 3 ∷ []) (held 0 2 1 2 0 1 3 ∷ opn 2 3 16 1 0 2 ∷ opn 4 1 1 1 0 1 ∷ []) (decides 2)) → ⊥
unfolding Sorted
order_left_not x = omega (arith, (x.each 0 (omega arith)).start)

start_not : Sorted (sorted_op (opn 3 3 16 1 0 2)) → ⊥
unfolding Sorted
start_not x = omega (arith, (x.each 1 (omega arith)).start)

dur_not : Sorted (sorted_op (opn 2 2 16 1 0 2)) → ⊥
unfolding Sorted
dur_not x = omega (arith, (x.each 1 (omega arith)).dur)

hold_not : Sorted (sorted_op (held 2 3 1 16 1 0 2)) → ⊥
unfolding Sorted
hold_not x = omega (arith, (x.each 1 (omega arith)).hold)

reads_not : Sorted (sorted_op (opn 2 3 16 0 0 2)) → ⊥
unfolding Sorted
reads_not x = omega (arith, (x.each 1 (omega arith)).reads)

writes_not : Sorted (sorted_op (opn 2 3 16 1 1 2)) → ⊥
unfolding Sorted
writes_not x = omega (arith, (x.each 1 (omega arith)).writes)

boards_left_not : Sorted (sorted_op (opn 2 3 2 1 0 2)) → ⊥
unfolding Sorted has
boards_left_not x = false≢true (((x.each 1 (omega arith)).boards 4).1 (1, refl, refl))

board_more_not : Sorted (sorted_op (opn 2 3 24 1 0 2)) → ⊥
unfolding Sorted has
board_more_not x = let (b, is, to) = ((x.each 1 (omega arith)).boards 3).0 refl in go b is to
  where
    go : (b : ℕ) → In b 2 → all_three.board b ≡ 3 → ⊥
    go zero is to = omega arith
    go (suc zero) is to = omega arith
    go (suc (suc b)) is to = in_small 2 2 (suc (suc b)) (omega arith) (omega arith) is

modes_left_not : Sorted (sorted_op (opn 2 3 16 1 0 1)) → ⊥
unfolding Sorted has
modes_left_not x = false≢true (((x.each 1 (omega arith)).modes 1).1 (0, refl, refl))

mode_set_more_not : Sorted (sorted_op (opn 2 3 16 1 0 3)) → ⊥
unfolding Sorted has
mode_set_more_not x = let (a, is, to) = ((x.each 1 (omega arith)).modes 0).0 refl in not_zero a is to

-- the same of the other two, and less where it was more: a date, a hold, a cell; boards and modes one less. Behind operation 1 stands 2, [4,5) on board
-- 0 in the warm, and then 0, with the hold.
abbrev sorted_others : Op → Op → Table
sorted_others o u = resorted 6 5 1 2 2 (2 ∷ 3 ∷ []) (opn 2 3 16 1 0 2 ∷ o ∷ u ∷ []) (decides 2)

start_less_not : Sorted (sorted_others (opn 3 1 1 1 0 1) (held 0 2 1 2 0 1 3)) → ⊥
unfolding Sorted
start_less_not x = omega (arith, (x.each 2 (omega arith)).start)

dur_more_not : Sorted (sorted_others (opn 4 2 1 1 0 1) (held 0 2 1 2 0 1 3)) → ⊥
unfolding Sorted
dur_more_not x = omega (arith, (x.each 2 (omega arith)).dur)

hold_less_not : Sorted (sorted_others (opn 4 1 1 1 0 1) (held 0 2 0 2 0 1 3)) → ⊥
unfolding Sorted
hold_less_not x = omega (arith, (x.each 0 (omega arith)).hold)

reads_more_not : Sorted (sorted_others (opn 4 1 1 1 0 1) (held 0 2 1 2 1 1 3)) → ⊥
unfolding Sorted
reads_more_not x = omega (arith, (x.each 0 (omega arith)).reads)

writes_less_not : Sorted (sorted_others (opn 4 1 1 1 0 1) (held 0 2 1 2 0 0 3)) → ⊥
unfolding Sorted
writes_less_not x = omega (arith, (x.each 0 (omega arith)).writes)

board_less_not : Sorted (sorted_others (opn 4 1 0 1 0 1) (held 0 2 1 2 0 1 3)) → ⊥
unfolding Sorted has
board_less_not x = false≢true (((x.each 2 (omega arith)).boards 0).1 (2, refl, refl))

mode_set_less_not : Sorted (sorted_others (opn 4 1 1 1 0 1) (held 0 2 1 2 0 1 1)) → ⊥
unfolding Sorted has
mode_set_less_not x = false≢true (((x.each 0 (omega arith)).modes 1).1 (0, refl, refl))

-- a shorter length, a cell less, a word less; no first mode; a decider where nobody decided
len_less_not : Sorted (resorted 5 5 1 2 2 (2 ∷ 3 ∷ []) sorted.ops (decides 2)) → ⊥
unfolding Sorted
len_less_not x = omega (arith, x.len)

cells_less_not : Sorted (resorted 6 5 0 2 2 (2 ∷ 3 ∷ []) sorted.ops (decides 2)) → ⊥
unfolding Sorted
cells_less_not x = omega (arith, x.cells)

word_less_not : Renamed (in_order (λ i. i)) (resorted 5 1 0 1 1 (1 ∷ 0 ∷ []) k1.ops nobody) k1 → ⊥
word_less_not x = omega (arith, x.words)

first_less_not : Sorted (sorted_head 0 (2 ∷ 3 ∷ []) (decides 2)) → ⊥
unfolding Sorted has
first_less_not x = false≢true ((x.firsts 1).1 (0, refl, refl))

decider_other_not : Sorted (sorted_head 2 (2 ∷ 3 ∷ []) (decides 1)) → ⊥
unfolding Sorted
decider_other_not x = let e = x.decider in let z : ◌≡◌ {A = ℕ} 1 2 = cc in omega arith

decider_new_not : Renamed turned_round k2 (resorted 6 3 2 1 1 (1 ∷ []) k2_turned.ops (decides 2)) → ⊥
decider_new_not x = let e = x.decider in let z : ◌≡◌ {A = ℕ} 1 0 = cc in omega arith

-- a member beyond every count
member_beyond_not : RenamedSet (λ a. a) 0 (2 ^ 32) → ⊥
unfolding has
member_beyond_not x = let (a, is, to) = (x 32).0 refl in in_small 0 0 a (omega arith) (omega arith) is

-- ---- maps that are not one to one: two boards, two modes, two operations to one; a name beyond the count

-- K4 on two boards, and on one
two_boards_not : Renamed (boards_by (by_row (0 ∷ 0 ∷ []))) (one_mode 4 2 0 (opn 0 1 1 0 0 1 ∷ opn 3 1 2 0 0 1 ∷ [])) (one_mode 4 2 0 (opn 0 1 1 0 0 1 ∷ opn 3 1 1 0 0 1 ∷ [])) → ⊥
unfolding has
two_boards_not x = omega (arith, x.boards.apart 0 1 (0, omega arith, refl) (1, omega arith, refl) refl)

-- K6 with its modes, or its operations, made one
two_modes_not : (T : Table) → Renamed (modes_by (by_row (0 ∷ 0 ∷ []))) k6 T → ⊥
two_modes_not T x = omega (arith, x.numbers.apart 0 1 (omega arith) (omega arith) refl)

two_places_not : (T : Table) → Renamed (in_order (by_row (0 ∷ 0 ∷ []))) k6 T → ⊥
two_places_not T x = omega (arith, x.places.apart 0 1 (omega arith) (omega arith) refl)

mode_beyond_not : Renamed (modes_by (by_row (1 ∷ []))) (one_mode 5 1 0 (opn 1 3 1 0 0 1 ∷ [])) (resorted 5 1 0 1 2 (1 ∷ []) (opn 1 3 1 0 0 2 ∷ []) nobody) → ⊥
mode_beyond_not x = omega (arith, x.numbers.there 0 (omega arith))

place_beyond_not : (T : Table) → Renamed (in_order (by_row (2 ∷ 1 ∷ []))) k6 T → ⊥
place_beyond_not T x = omega (arith, x.places.there 0 (omega arith), x.count)

-- and where nothing else is wrong with it: two operations that do not differ, an operation like none, a mode that none follows. Such tables are
-- refused: of one that is accepted these would follow from the rest.
same_operations_not : Renamed (in_order (by_row (0 ∷ 0 ∷ []))) (one_mode 4 1 0 (opn 0 1 1 0 0 1 ∷ opn 0 1 1 0 0 1 ∷ [])) (one_mode 4 1 0 (opn 0 1 1 0 0 1 ∷ opn 0 1 1 0 0 1 ∷ [])) → ⊥
same_operations_not x = omega (arith, x.places.apart 0 1 (omega arith) (omega arith) refl)

no_operation_not : Renamed (in_order (by_row (1 ∷ []))) (one_mode 4 1 0 (opn 0 0 0 0 0 0 ∷ [])) (one_mode 4 1 0 (opn 3 1 1 0 0 1 ∷ [])) → ⊥
no_operation_not x = omega (arith, x.places.there 0 (omega arith))

none_follows_not : Renamed (modes_by (by_row (1 ∷ []))) (resorted 5 1 0 1 1 (0 ∷ []) (opn 1 3 1 0 0 1 ∷ []) nobody) (resorted 5 1 0 1 2 (1 ∷ []) (opn 1 3 1 0 0 2 ∷ []) nobody) → ⊥
none_follows_not x = omega (arith, x.numbers.there 0 (omega arith))

-- two modes in which no operation runs, with the same turns, are two
idle_modes_not : Renamed (modes_by (by_row (0 ∷ 1 ∷ 1 ∷ []))) (resorted 5 1 0 3 1 (6 ∷ 1 ∷ 1 ∷ []) k1.ops nobody) (resorted 5 1 0 3 1 (2 ∷ 1 ∷ 1 ∷ []) k1.ops nobody) → ⊥
idle_modes_not x = omega (arith, x.numbers.apart 1 2 (omega arith) (omega arith) refl)

-- a board beyond the count that is in use needs a name within the new count too
no_such_name_not : Renamed (boards_by (by_row (9 ∷ 1 ∷ []))) no_such_board no_such_board → ⊥
unfolding has
no_such_name_not x = omega (arith, x.boards.there 1 (0, omega arith, refl))

-- ---- tests of every number below n

both : (t u : Bool) → (t && u) ≡ true → (t ≡ true) × (u ≡ true)
both true u e = (refl, e)
both false u e = absurd (false≢true e)

below : (ℕ → Bool) → ℕ → Bool
below f zero = true
below f (suc n) = f n && below f n

below_all : (f : ℕ → Bool) (n : ℕ) → below f n ≡ true → (a : ℕ) → a < n → f a ≡ true
unfolding below
below_all f zero e a h = absurd (omega arith)
below_all f (suc n) e a h = go (ℕ_discrete a n) (below_all f n (both (f n) (below f n) e).1 a)
  where
    go : Dec (a ≡ n) → (a < n → f a ≡ true) → f a ≡ true
    go (yes s) rest = ap f s ∙ (both (f n) (below f n) e).0
    go (no s) rest = rest (omega arith)

-- where the first test passes the second does
wherever : (t u : Bool) → cond t u true ≡ true → t ≡ true → u ≡ true
wherever true u e h = e
wherever false u e h = absurd (false≢true h)

-- a member of a set below 2 ^ n is below n
member : (n s a : ℕ) → ltb s (2 ^ n) ≡ true → In a s → a < n
member n s a h x = go (dec_lt a n)
  where
    go : Dec (a < n) → a < n
    go (yes l) = l
    go (no l) = absurd (in_small n s a (ltb-true s (2 ^ n) h) (omega arith) x)

-- ---- one to one, by a map that takes back

-- the new name of a is below m, and g takes it back to a
backed : (f g : ℕ → ℕ) → ℕ → ℕ → Bool
backed f g m a = ltb (f a) m && eqb (g (f a)) a

one_to_one : (P : ℕ → Type 0) (f g : ℕ → ℕ) (m : ℕ) → ((a : ℕ) → P a → backed f g m a ≡ true) → OneToOne P (Below m) f
unfolding backed
one_to_one P f g m e =
    record {
      there = λ a x. ltb-true (f a) m (both (ltb (f a) m) (eqb (g (f a)) a) (e a x)).0;
      apart = λ a b x y same. omega (arith, back a x, back b y, ap g same);
    }
  where
    back : (a : ℕ) → P a → g (f a) ≡ a
    back a x = eqb-true (g (f a)) a (both (ltb (f a) m) (eqb (g (f a)) a) (e a x)).1

-- ---- a set renamed

-- the new name of a is in t where a is in s; and b is the new name of a member of s where it is in t
into : (ℕ → ℕ) → ℕ → ℕ → ℕ → Bool
into f s t a = cond (has s a) (has t (f a)) true

from : (f g : ℕ → ℕ) → ℕ → ℕ → ℕ → Bool
from f g s t b = cond (has t b) (has s (g b) && eqb (f (g b)) b) true

-- for sets below 2 ^ n and 2 ^ m
renames : (f g : ℕ → ℕ) → ℕ → ℕ → ℕ → ℕ → Bool
unfolding into from below
renames f g n m s t = (ltb s (2 ^ n) && ltb t (2 ^ m)) && (below (into f s t) n && below (from f g s t) m)

renamed_set : (f g : ℕ → ℕ) (n m s t : ℕ) → renames f g n m s t ≡ true → RenamedSet f s t
unfolding renames into from
renamed_set f g n m s t e b =
    let (small, all) = both (ltb s (2 ^ n) && ltb t (2 ^ m)) (below (into f s t) n && below (from f g s t) m) e in
    let (low, high) = both (ltb s (2 ^ n)) (ltb t (2 ^ m)) small in
    let (go, come) = both (below (into f s t) n) (below (from f g s t) m) all in (
      λ x.
          let met = wherever (has t b) (has s (g b) && eqb (f (g b)) b) (below_all (from f g s t) m come b (member m t b high x)) x in
          let (is, same) = both (has s (g b)) (eqb (f (g b)) b) met in
          (g b, is, eqb-true (f (g b)) b same),
      λ (a, x, same). ap (has t) (sym same) ∙ wherever (has s a) (has t (f a)) (below_all (into f s t) n go a (member n s a low x)) x,
    )

-- ---- whole tables: what a renaming asks, as tests, by maps that `back` takes back; boards are below n and then below m

numbersb : Op → Op → Bool
numbersb o u =
    eqb u.start o.start && (eqb u.dur o.dur && (eqb u.hold o.hold && (eqb u.reads o.reads && eqb u.writes o.writes)))

same_numbers : (o u : Op) → numbersb o u ≡ true
    → (u.start ≡ o.start) × (u.dur ≡ o.dur) × (u.hold ≡ o.hold) × (u.reads ≡ o.reads) × (u.writes ≡ o.writes)
unfolding numbersb
same_numbers o u e =
    let (start, rest) = both _ _ e in
    let (dur, rest) = both _ _ rest in
    let (hold, rest) = both _ _ rest in
    let (reads, writes) = both _ _ rest in
    (eqb-true _ _ start, eqb-true _ _ dur, eqb-true _ _ hold, eqb-true _ _ reads, eqb-true _ _ writes)

module _ (by back : Names) (n m : ℕ) (S T : Table) where
  mode_set : ℕ → ℕ → Bool
  unfolding renames
  mode_set = renames by.mode back.mode S.modes T.modes

  -- operation i, its place, and its boards
  opb : ℕ → Bool
  unfolding numbersb backed renames mode_set below
  opb i =
      let o = op S i in
      let u = op T (by.place i) in
      (numbersb o u && backed by.place back.place (nops T) i)
      && ((renames by.board back.board n m o.boards u.boards && mode_set o.modes u.modes)
      && below (λ b. cond (has o.boards b) (backed by.board back.board T.boards b) true) n)

  modeb : ℕ → Bool
  unfolding backed mode_set
  modeb a = backed by.mode back.mode T.modes a && mode_set (followers S a) (followers T (by.mode a))

  module _ (ops : below opb (nops S) ≡ true) (modes : below modeb S.modes ≡ true) where
    -- the tests of operation i, one by one
    op_parts : (i : ℕ) → i < nops S → (numbersb (op S i) (op T (by.place i)) ≡ true) × (backed by.place back.place (nops T) i ≡ true)
        × (renames by.board back.board n m (op S i).boards (op T (by.place i)).boards ≡ true)
        × (mode_set (op S i).modes (op T (by.place i)).modes ≡ true)
        × (below (λ b. cond (has (op S i).boards b) (backed by.board back.board T.boards b) true) n ≡ true)
    unfolding opb
    op_parts i h =
        let (a, b) = both _ _ (below_all opb (nops S) ops i h) in
        let (c, d) = both _ _ a in
        let (e, f) = both _ _ b in
        let (g, j) = both _ _ e in (c, d, g, j, f)

    each_op : (i : ℕ) → i < nops S → OpRenamed by (op S i) (op T (by.place i))
    unfolding mode_set
    each_op i h =
        let (numbers, placed, boards, modes, named) = op_parts i h in
        let (start, dur, hold, reads, writes) = same_numbers (op S i) (op T (by.place i)) numbers in
        record {
          start = omega arith;
          dur = omega arith;
          hold = omega arith;
          boards = renamed_set by.board back.board n m _ _ boards;
          reads = omega arith;
          writes = omega arith;
          modes = renamed_set by.mode back.mode S.modes T.modes _ _ modes;
        }

    used : (b : ℕ) → InUse S b → backed by.board back.board T.boards b ≡ true
    unfolding renames
    used b (i, is_op, x) =
        let (numbers, placed, boards, modes, named) = op_parts i is_op in
        let (small, rest) = both _ _ boards in
        let (low, high) = both (ltb (op S i).boards (2 ^ n)) _ small in
        wherever (has (op S i).boards b) _ (below_all _ n named b (member n (op S i).boards b low x)) x

    turned : (a : ℕ) → a < S.modes → RenamedSet by.mode (followers S a) (followers T (by.mode a))
    unfolding modeb mode_set
    turned a h = renamed_set by.mode back.mode S.modes T.modes _ _ (both (backed by.mode back.mode T.modes a) _ (below_all modeb S.modes modes a h)).1

    numbered : (a : ℕ) → a < S.modes → backed by.mode back.mode T.modes a ≡ true
    unfolding modeb mode_set
    numbered a h = (both (backed by.mode back.mode T.modes a) _ (below_all modeb S.modes modes a h)).0

    -- what stands before the operations, and who decides
    renamed_by : T.len ≡ S.len → T.cells ≡ S.cells → nops T ≡ nops S → T.boards ≤ 16 → T.modes ≡ S.modes → length T.follow ≡ length S.follow
        → mode_set S.first T.first ≡ true → T.decider ≡ following by.place S.decider → Renamed by S T
    unfolding mode_set
    renamed_by len cells count high same words first who =
        record {
          len = len;
          cells = cells;
          count = count;
          places = one_to_one (Below (nops S)) by.place back.place (nops T) (λ i h. (op_parts i h).1);
          each = each_op;
          boards = one_to_one (InUse S) by.board back.board T.boards used;
          boards_high = omega (arith, high);
          modes = same;
          words = words;
          numbers = one_to_one (Below S.modes) by.mode back.mode T.modes numbered;
          firsts = renamed_set by.mode back.mode S.modes T.modes _ _ first;
          turns = turned;
          decider = who;
        }

-- ---- the bench tables: K2 with its operations turned round, K3 with its boards renamed, K5 and K7 with modes exchanged; and all at once, with a hold
-- and a decider. The maps that come second take back what the first do; 9 is for boards that nothing has.

k2_is_turned : Renamed turned_round k2 k2_turned
unfolding has opb modeb mode_set below backed numbersb renames into from
k2_is_turned = renamed_by turned_round turned_round 3 3 k2 k2_turned refl refl refl refl refl (omega arith) refl refl refl refl

k3_is_renamed : Renamed other_boards k3 k3_renamed
unfolding has opb modeb mode_set below backed numbersb renames into from
k3_is_renamed =
    renamed_by other_boards (boards_by (by_row (1 ∷ 9 ∷ 9 ∷ 2 ∷ 9 ∷ 0 ∷ []))) 3 6 k3 k3_renamed refl refl refl refl refl (omega arith) refl refl refl refl

k3_is_renamed_back : Renamed (boards_by (by_row (1 ∷ 9 ∷ 9 ∷ 2 ∷ 9 ∷ 0 ∷ []))) k3_renamed k3
unfolding has opb modeb mode_set below backed numbersb renames into from
k3_is_renamed_back = renamed_by (boards_by (by_row (1 ∷ 9 ∷ 9 ∷ 2 ∷ 9 ∷ 0 ∷ []))) other_boards 6 3 k3_renamed k3 refl refl refl refl refl (omega arith) refl refl refl refl

k5_is_exchanged : Renamed exchanged k5 k5_exchanged
unfolding has opb modeb mode_set below backed numbersb renames into from
k5_is_exchanged = renamed_by exchanged exchanged 2 2 k5 k5_exchanged refl refl refl refl refl (omega arith) refl refl refl refl

k7_is_exchanged : Renamed exchanged k7 k7_exchanged
unfolding has opb modeb mode_set below backed numbersb renames into from
k7_is_exchanged = renamed_by exchanged exchanged 2 2 k7 k7_exchanged refl refl refl refl refl (omega arith) refl refl refl refl

sorted_is_renamed : Renamed all_three sorted_before sorted
unfolding has opb modeb mode_set below backed numbersb renames into from
sorted_is_renamed =
    renamed_by all_three (record { place = by_row (1 ∷ 2 ∷ 0 ∷ []); board = by_row (2 ∷ 0 ∷ 9 ∷ 9 ∷ 1 ∷ []); mode = by_row (1 ∷ 0 ∷ []) }) 3 5 sorted_before sorted
    refl refl refl refl refl (omega arith) refl refl refl refl

-- modes that go round, 0 to 1 to 2 to 0, by a map that does not take itself back: first modes, turns and mode sets all go its way
abbrev round_modes : (first : ℕ) → List ℕ → (m n : ℕ) → Table
round_modes first follow m n =
    record { len = 4; boards = 2; cells = 0; modes = 3; first = first; follow = follow; ops = opn 0 4 1 0 0 m ∷ opn 0 4 2 0 0 n ∷ []; decider = nobody }

modes_go_round : Renamed (modes_by (by_row (1 ∷ 2 ∷ 0 ∷ []))) (round_modes 3 (2 ∷ 6 ∷ 1 ∷ []) 1 6) (round_modes 6 (2 ∷ 4 ∷ 5 ∷ []) 2 5)
unfolding has opb modeb mode_set below backed numbersb renames into from
modes_go_round =
    renamed_by (modes_by (by_row (1 ∷ 2 ∷ 0 ∷ []))) (modes_by (by_row (2 ∷ 0 ∷ 1 ∷ []))) 2 2 (round_modes 3 (2 ∷ 6 ∷ 1 ∷ []) 1 6) (round_modes 6 (2 ∷ 4 ∷ 5 ∷ []) 2 5)
    refl refl refl refl refl (omega arith) refl refl refl refl

-- operations in another order, and boards renamed, leave two modes as they are
k5_with : List Op → Table
k5_with os = record { len = 4; boards = 2; cells = 0; modes = 2; first = 1; follow = 2 ∷ 1 ∷ []; ops = os; decider = nobody }

k5_is_turned : Renamed (in_order (by_row (1 ∷ 0 ∷ []))) k5 (k5_with (opn 0 4 2 0 0 2 ∷ opn 0 4 1 0 0 1 ∷ []))
unfolding k5_with has opb modeb mode_set below backed numbersb renames into from
k5_is_turned =
    renamed_by (in_order (by_row (1 ∷ 0 ∷ []))) (in_order (by_row (1 ∷ 0 ∷ []))) 2 2 k5 (k5_with (opn 0 4 2 0 0 2 ∷ opn 0 4 1 0 0 1 ∷ []))
    refl refl refl refl refl (omega arith) refl refl refl refl

k5_other_boards : Renamed (boards_by (by_row (1 ∷ 0 ∷ []))) k5 (k5_with (opn 0 4 2 0 0 1 ∷ opn 0 4 1 0 0 2 ∷ []))
unfolding k5_with has opb modeb mode_set below backed numbersb renames into from
k5_other_boards =
    renamed_by (boards_by (by_row (1 ∷ 0 ∷ []))) (boards_by (by_row (1 ∷ 0 ∷ []))) 2 2 k5 (k5_with (opn 0 4 2 0 0 1 ∷ opn 0 4 1 0 0 2 ∷ []))
    refl refl refl refl refl (omega arith) refl refl refl refl

-- K1 on two boards, named 15 and 2, of sixteen
sixteen_boards : Renamed (boards_by (by_row (15 ∷ 2 ∷ []))) (one_mode 5 2 0 (opn 1 3 3 0 0 1 ∷ [])) (one_mode 5 16 0 (opn 1 3 32772 0 0 1 ∷ []))
unfolding has opb modeb mode_set below backed numbersb renames into from
sixteen_boards =
    renamed_by (boards_by (by_row (15 ∷ 2 ∷ []))) (boards_by (λ b. cond (eqb b 2) 1 0)) 2 16 (one_mode 5 2 0 (opn 1 3 3 0 0 1 ∷ [])) (one_mode 5 16 0 (opn 1 3 32772 0 0 1 ∷ []))
    refl refl refl refl refl (omega arith) refl refl refl refl

-- ---- rows that did not move with their operations: left where they were, with another period, one more
rows_left_not : Moved turned_round.place (reply_of k2 2) (reply_of k2 2) → ⊥
unfolding reply_of
rows_left_not x = omega (arith, ap (λ (r : Row). r.fst.number) (x.each 0 (omega arith)))

period_not : Moved turned_round.place (reply_of k2 2) (record { period = ticks 3; rows = (reply_of k2_turned 2).rows }) → ⊥
unfolding reply_of
period_not x = omega (arith, ap (λ (t : Ticks). t.number) x.period)

row_more_not : Moved turned_round.place (reply_of k2 2) (record { period = ticks 2; rows = (reply_of k2_turned 2).rows ++ (no_row ∷ []) }) → ⊥
unfolding reply_of
row_more_not x = omega (arith, x.count)

period_less_not : Moved turned_round.place (reply_of k2 2) (record { period = ticks 1; rows = (reply_of k2_turned 2).rows }) → ⊥
unfolding reply_of
period_less_not x = omega (arith, ap (λ (t : Ticks). t.number) x.period)

-- a row less, where the one that is gone is like what stands past the last; the last row, a row's start
row_less_not : Moved turned_round.place (reply_of k2 2) (record { period = ticks 2; rows = row 0 2 ∷ row 0 1 ∷ [] }) → ⊥
unfolding reply_of
row_less_not x = omega (arith, x.count)

last_row_not : Moved turned_round.place (reply_of k2 2) (record { period = ticks 2; rows = row 0 1 ∷ row 0 1 ∷ row 0 0 ∷ [] }) → ⊥
unfolding reply_of
last_row_not x = omega (arith, ap (λ (r : Row). r.fst.number) (x.each 2 (omega arith)))

first_row_not : Moved turned_round.place (reply_of k2 2) (record { period = ticks 2; rows = row 0 2 ∷ row 0 1 ∷ row 1 0 ∷ [] }) → ⊥
unfolding reply_of
first_row_not x = omega (arith, ap (λ (r : Row). r.start.number) (x.each 0 (omega arith)))

-- a row at the place of another that it is like; a row past the end
two_rows_not : Moved (λ i. 0) (record { period = ticks 2; rows = row 1 0 ∷ row 1 0 ∷ [] }) (record { period = ticks 2; rows = row 1 0 ∷ row 0 1 ∷ [] }) → ⊥
two_rows_not x = omega (arith, x.places.apart 0 1 (omega arith) (omega arith) refl)

row_beyond_not : Moved (λ i. 9) (record { period = ticks 2; rows = row 0 0 ∷ [] }) (record { period = ticks 2; rows = row 1 1 ∷ [] }) → ⊥
row_beyond_not x = omega (arith, x.places.there 0 (omega arith))

-- and rows that did
k2_rows_moved : Moved turned_round.place (reply_of k2 2) (reply_of k2_turned 2)
unfolding reply_of
k2_rows_moved = record { period = refl; count = refl; places = k2_is_turned.places; each = rows }
  where
    rows : (i : ℕ) → i < 3 → get_or (reply_of k2_turned 2).rows (turned_round.place i) no_row ≡ get_or (reply_of k2 2).rows i no_row
    rows zero h = refl
    rows (suc zero) h = refl
    rows (suc (suc zero)) h = refl
    rows (suc (suc (suc i))) h = absurd (omega arith)

sorted_rows_moved : Moved all_three.place (reply_of sorted_before 3) (reply_of sorted 3)
unfolding reply_of
sorted_rows_moved = record { period = refl; count = refl; places = sorted_is_renamed.places; each = rows }
  where
    rows : (i : ℕ) → i < 3 → get_or (reply_of sorted 3).rows (all_three.place i) no_row ≡ get_or (reply_of sorted_before 3).rows i no_row
    rows zero h = refl
    rows (suc zero) h = refl
    rows (suc (suc zero)) h = refl
    rows (suc (suc (suc i))) h = absurd (omega arith)

-- ---- "Nothing is claimed for refused tables": nothing could be

-- CLASH names the lower operation first: with K10's two turned round the figures stay, and do not move with the operations
k10_is_turned : Renamed (in_order (by_row (1 ∷ 0 ∷ []))) k10 k10_turned
unfolding has opb modeb mode_set below backed numbersb renames into from
k10_is_turned =
    renamed_by (in_order (by_row (1 ∷ 0 ∷ []))) (in_order (by_row (1 ∷ 0 ∷ []))) 1 1 k10 k10_turned refl refl refl refl refl (omega arith) refl refl refl refl

figures_not_moved : (judge (table_bytes k10) ≡ refused 6 0 1) × (judge (table_bytes k10_turned) ≡ refused 6 0 1)
unfolding judge table_bytes
figures_not_moved = (refl, refl)

-- and with the same two behind another, that is then moved to the end, the figures do not stay
k10_is_before : Renamed (in_order (by_row (2 ∷ 0 ∷ 1 ∷ []))) k10_behind k10_before
unfolding has opb modeb mode_set below backed numbersb renames into from
k10_is_before =
    renamed_by (in_order (by_row (2 ∷ 0 ∷ 1 ∷ []))) (in_order (by_row (1 ∷ 2 ∷ 0 ∷ []))) 2 2 k10_behind k10_before
    refl refl refl refl refl (omega arith) refl refl refl refl

figures_not_kept : (judge (table_bytes k10_behind) ≡ refused 6 1 2) × (judge (table_bytes k10_before) ≡ refused 6 0 1)
unfolding judge table_bytes
figures_not_kept = (refl, refl)

-- an operation on board 1 of one board is refused, and renamed to board 0 it is accepted
abbrev such_a_board : Table
such_a_board = one_mode 3 1 0 (opn 0 2 1 0 0 1 ∷ [])

no_such_is_renamed : Renamed (boards_by (by_row (9 ∷ 0 ∷ []))) no_such_board such_a_board
unfolding has opb modeb mode_set below backed numbersb renames into from
no_such_is_renamed =
    renamed_by (boards_by (by_row (9 ∷ 0 ∷ []))) (boards_by (by_row (1 ∷ []))) 2 1 no_such_board such_a_board refl refl refl refl refl (omega arith) refl refl refl refl

refusal_not_kept : (judge (table_bytes no_such_board) ≡ refused 4 22 29) × (judge (table_bytes such_a_board) ≡ accepted such_a_board)
unfolding judge table_bytes
refusal_not_kept = (refl, refl)
