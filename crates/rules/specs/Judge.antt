-- Document 01, "Numbers of refusal": the verdict on a table's bytes, on a table handed over as numbers, and on a reply's bytes. Document 02,
-- No. 7: which number of a field RANGE blames; No. 4: the decider's field, and EARLY; No. 9: an operation's field with a hold.
-- Assumes nothing.
use Prim.Native.Nat.{ℕ, zero, suc, ◌+◌, ◌-◌, ◌*◌, ◌^◌}
use Rattle.std.specs.Prelude.{Bool, true, false, not, ◌&&◌, ◌||◌, List, [], ◌∷◌, ◌++◌, map, leb, ltb, eqb, length, get_or, drop}
use Rattle.std.proofs.Math.Bool.{cond}
use Rattle.std.specs.Int.Bits.{bit_or}
use Rattle.rules.specs.Sets.{shares, overlaps}
use Rattle.rules.specs.Table.{Op, Decider, nobody, decides, Table, nops, op, end_of, held_to}
use Rattle.rules.specs.Rows.{Ticks, Row, Reply, ticks, cycles, unfold_at}
use Rattle.rules.specs.Verdicts.{Verdict, accepted, refused, SHORT, ORDER, SIZE, RANGE, MANY, CLASH, RACE, EARLY, Test, refuse_if, ◌then◌, onwards, more, each}
use Rattle.rules.specs.Bytes.{num8, num16, num32, words, joined, op_size, op_bytes, held_at, op_at, row_at}

-- ---- one field. "Within one: header complete, tag due, not a 33rd, length, value complete, ranges."

-- ORDER: "input ends with a needed field missing"
unfoldable pub needed : List ℕ → ℕ → Test
unfolding refuse_if
needed s at = refuse_if (leb (length s) at) ORDER at 0

-- SHORT: "input ends inside a field's header or value"
unfoldable pub header : List ℕ → ℕ → Test
unfolding refuse_if
header s at = refuse_if (ltb (length s) (at + 3)) SHORT at 0

-- ORDER: "a tag that is not due"
unfoldable pub due : List ℕ → ℕ → ℕ → Test
unfolding refuse_if
due s at tag = refuse_if (not (eqb (num8 s at) tag)) ORDER at 0

-- MANY: "a 33rd operation"; `left` more may come
unfoldable pub not_many : ℕ → ℕ → Test
unfolding refuse_if
not_many at left = refuse_if (eqb left 0) MANY at 0

-- SIZE: "length is not the tag's length"
unfoldable pub sized : List ℕ → ℕ → ℕ → Test
unfolding refuse_if
sized s at size = refuse_if (not (eqb (num16 s (at + 1)) size)) SIZE at 0

-- SHORT again, for the value
unfoldable pub complete : List ℕ → ℕ → ℕ → Test
unfolding refuse_if
complete s at size = refuse_if (ltb (length s) (at + 3 + size)) SHORT at 0

-- RANGE: "a number or set outside its range above". "In RANGE, let b be the offset of the first byte of the first wrong number": `wrong` is
-- how far behind the field's first byte that number begins, and 0 where none is wrong, since the tag stands there.
unfoldable pub ranged : ℕ → ℕ → Test
unfolding refuse_if
ranged wrong at = refuse_if (not (eqb wrong 0)) RANGE at (at + wrong)

-- a field that is there once
unfoldable pub field_test : List ℕ → ℕ → ℕ → ℕ → ℕ → Test
unfolding needed header due sized complete ranged ◌then◌
field_test s at tag size wrong =
    needed s at then header s at then due s at tag then sized s at size then complete s at size then ranged wrong at

-- a field that may be repeated
unfoldable pub repeat_test : List ℕ → ℕ → ℕ → ℕ → ℕ → ℕ → Test
unfolding header due not_many sized complete ranged ◌then◌
repeat_test s at left tag size wrong =
    header s at then due s at tag then not_many at left then sized s at size then complete s at size then ranged wrong at

-- the input ends at or before a place
abbrev pub at_end : List ℕ → ℕ → Bool
at_end s at = leb (length s) at

-- the repeated fields from a place to where they end, when `left` more may come. At a place in the input: how long the value of a field there has to
-- be, which of its numbers is wrong first, and what it is.
module _ {A : Type 0} (ends : List ℕ → ℕ → Bool) (tag : ℕ) (size wrong : List ℕ → ℕ → ℕ) (value : List ℕ → ℕ → A) where
  unfoldable pub fields_from : List ℕ → ℕ → ℕ → Verdict (List A)
  unfolding repeat_test ◌then◌ more
  fields_from s zero at =
      cond (ends s at) (accepted []) (repeat_test s at 0 tag (size s at) (wrong s at) then accepted [])
  fields_from s (suc left) at =
      cond (ends s at) (accepted [])
      (repeat_test s at (suc left) tag (size s at) (wrong s at) then more (value s at) (fields_from s left (at + 3 + size s at)))

-- ---- ranges: the numbers of a field one after the other, and which of them is wrong first

-- a number of a field: how many bytes it has there, the number, and whether it is in its range
pub record Number : Type 0 where
  pub bytes : ℕ
  pub value : ℕ
  pub ok : Bool

-- a number and the test of its range
abbrev pub number : ℕ → ℕ → (ℕ → Bool) → Number
number bytes value test = record { bytes = bytes; value = value; ok = test value }

-- "the first wrong number, in layout order". The numbers stand one behind the other, the first at a place: where the first wrong one begins,
-- or 0 where none is wrong
unfoldable pub wrong_from : ℕ → List Number → ℕ
wrong_from place [] = 0
wrong_from place (n ∷ ns) = let rest = wrong_from (place + n.bytes) ns in cond n.ok rest place

-- in a field the first number stands behind the tag and the length
unfoldable pub first_wrong : List Number → ℕ
unfolding wrong_from
first_wrong = wrong_from 3

-- field 01, and a reply's 11: "table length p, in ticks | 1 to 1000"
abbrev pub len_ranges : ℕ → List Number
len_ranges len = number 2 len (λ p. leb 1 p && leb p 1000) ∷ []

unfoldable pub len_wrong : ℕ → ℕ
unfolding first_wrong
len_wrong len = first_wrong (len_ranges len)

-- field 02: "boards | 1 to 16", "cells | 0 to 32", "modes | 1 to 32"
abbrev pub count_ranges : ℕ → ℕ → ℕ → List Number
count_ranges boards cells modes =
    number 1 boards (λ b. leb 1 b && leb b 16) ∷ number 1 cells (λ c. leb c 32) ∷ number 1 modes (λ m. leb 1 m && leb m 32) ∷ []

unfoldable pub counts_wrong : ℕ → ℕ → ℕ → ℕ
unfolding first_wrong
counts_wrong boards cells modes = first_wrong (count_ranges boards cells modes)

-- "not empty", and "A set names nothing beyond the table's counts."
unfoldable pub set_ok : ℕ → ℕ → Bool
set_ok n s = ltb 0 s && ltb s (2 ^ n)

-- field 03: the first modes and the followers of each mode
abbrev pub set_ranges : ℕ → List ℕ → List Number
set_ranges n ss = map (λ (s : ℕ). number 4 s (set_ok n)) ss

unfoldable pub sets_wrong : ℕ → List ℕ → ℕ
unfolding first_wrong set_ok
sets_wrong n ss = first_wrong (set_ranges n ss)

-- field 04, with the length and the counts of T: "a duration d of at least 1, with t + d at most p; a set of boards, not empty; cells it reads;
-- cells it writes ..; a set of modes, not empty". "An operation that ends after p blames its duration": a start has no range of its own, and is
-- only asked to fit its field, as it always does in bytes.
abbrev pub date_ranges : Table → Op → List Number
date_ranges T o = number 2 o.start (λ t. ltb t 65536) ∷ number 2 o.dur (λ d. leb 1 d && leb (o.start + d) T.len) ∷ []

-- document 02, No. 9: "a 20-byte field with hold 0 is RANGE and blames the hold; so does a hold that alone runs past p": one behind a duration that
-- does not
abbrev pub hold_ranges : Table → Bool → Op → List Number
hold_ranges T false o = []
hold_ranges T true o = number 2 o.hold (λ h. leb 1 h && leb (o.start + o.dur + h) T.len) ∷ []

abbrev pub used_ranges : Table → Op → List Number
used_ranges T o =
    number 2 o.boards (set_ok T.boards)
    ∷ number 4 o.reads (λ r. ltb r (2 ^ T.cells))
    ∷ number 4 o.writes (λ w. ltb w (2 ^ T.cells))
    ∷ number 4 o.modes (set_ok T.modes)
    ∷ []

-- an operation of either form: "a 16-bit hold after the duration", or none
abbrev pub op_ranges : Table → Bool → Op → List Number
op_ranges T held o = date_ranges T o ++ (hold_ranges T held o ++ used_ranges T o)

unfoldable pub op_wrong : Table → Bool → Op → ℕ
unfolding first_wrong set_ok
op_wrong T held o = first_wrong (op_ranges T held o)

-- field 05, behind n operations: "a number that is no operation is RANGE"
abbrev pub decider_ranges : ℕ → Decider → List Number
decider_ranges n nobody = []
decider_ranges n (decides d) = number 1 d (λ i. ltb i n) ∷ []

unfoldable pub decider_wrong : ℕ → Decider → ℕ
unfolding first_wrong
decider_wrong n who = first_wrong (decider_ranges n who)

-- ---- CLASH and RACE

-- the tests of Clash and Race
unfoldable pub clashes : Op → Op → Bool
unfolding shares overlaps
clashes o u =
    shares o.boards u.boards
    && (shares o.modes u.modes && overlaps o.start (held_to o) u.start (held_to u))

unfoldable pub races : Op → Op → Bool
unfolding shares overlaps
races o u =
    shares o.modes u.modes
    && (overlaps o.start (end_of o) u.start (end_of u)
    && (shares o.writes (bit_or u.reads u.writes) || shares o.reads u.writes))

-- "over all pairs, by lower number and then higher"; a, b: "lower and higher operation number"
unfoldable pub pairs_test : (Op → Op → Bool) → ℕ → Table → Test
unfolding each refuse_if
pairs_test hit number T =
    each (λ i. each (λ j. refuse_if (hit (op T i) (op T j)) number i j) (suc i) (nops T - suc i)) 0 (nops T)

-- ---- EARLY

-- the test of Always: the set of all n modes is 2 ^ n - 1, and none that names nothing beyond them is larger
unfoldable pub always : Table → Op → Bool
always T o = eqb (o.modes + 1) (2 ^ T.modes)

-- o "doesn't run in every mode", and starts before the end of the decider u
unfoldable pub early : Table → Op → Op → Bool
unfolding always
early T u o = not (always T o) && ltb o.start (end_of u)

-- "10 EARLY .. with a the decider and b the lowest operation that starts too early, or b the decider itself where it doesn't run in every mode,
-- which is tested first": such a decider would be too early for itself, but not always the lowest
unfoldable pub early_test : Table → Decider → Test
unfolding always early each refuse_if ◌then◌
early_test T nobody = accepted tt
early_test T (decides d) =
    refuse_if (not (always T (op T d))) EARLY d d then each (λ i. refuse_if (early T (op T d) (op T i)) EARLY d i) 0 (nops T)

-- "Then CLASH over all pairs ..; then RACE likewise"; "EARLY comes after RACE"
unfoldable pub judge_whole : Table → Verdict Table
unfolding pairs_test clashes races early_test ◌then◌
judge_whole T = pairs_test clashes CLASH T then pairs_test races RACE T then early_test T T.decider then accepted T

-- ---- a table's bytes

-- what stands before the operations, as the bytes have it
unfoldable pub head_of : List ℕ → Table
unfolding words
head_of s =
    record {
      len = num16 s 3;
      boards = num8 s 8;
      cells = num8 s 9;
      modes = num8 s 10;
      first = num32 s 14;
      follow = words s 18 (num8 s 10);
      ops = [];
      decider = nobody;
    }

-- a head with its operations; nobody decides yet
abbrev pub with_ops : Table → List Op → Table
with_ops T os =
    record {
      len = T.len;
      boards = T.boards;
      cells = T.cells;
      modes = T.modes;
      first = T.first;
      follow = T.follow;
      ops = os;
      decider = T.decider;
    }

-- a table with its decider
abbrev pub with_decider : Table → Decider → Table
with_decider T who =
    record {
      len = T.len;
      boards = T.boards;
      cells = T.cells;
      modes = T.modes;
      first = T.first;
      follow = T.follow;
      ops = T.ops;
      decider = who;
    }

-- where the operations begin: behind the fields 01 (5 bytes), 02 (6) and 03 (7, and 4 for each mode)
abbrev pub ops_place : ℕ → ℕ
ops_place modes = 18 + 4 * modes

-- and where they end: behind the bytes of each, by its own form
unfoldable pub ops_size : List Op → ℕ
unfolding joined op_bytes
ops_size os = length (joined op_bytes os)

abbrev pub ops_end : Table → ℕ
ops_end T = ops_place T.modes + ops_size T.ops

-- "Table fields, in this order and no other"
unfoldable pub head_test : List ℕ → Test
unfolding head_of field_test len_wrong counts_wrong sets_wrong needed ◌then◌
head_test s =
    let T = head_of s in
    field_test s 0 1 2 (len_wrong T.len)
    then field_test s 5 2 3 (counts_wrong T.boards T.cells T.modes)
    then field_test s 11 3 (4 + 4 * T.modes) (sets_wrong T.modes (T.first ∷ T.follow))
    then needed s (ops_place T.modes)

-- the operations end with the input, or at a field 05, which is due behind the first of them
unfoldable pub ops_done : Table → List ℕ → ℕ → Bool
ops_done T s at = at_end s at || (ltb (ops_place T.modes) at && eqb (num8 s at) 5)

-- document 02, No. 9: "SIZE now admits 18 and 20": what has neither length has not the one it would need
abbrev pub size_at : List ℕ → ℕ → ℕ
size_at s at = op_size (held_at s at)

-- which number of the operation at a place is wrong first
abbrev pub wrong_at : Table → List ℕ → ℕ → ℕ
wrong_at T s at = op_wrong T (held_at s at) (op_at s at)

-- the operations' fields from a place on, when so many more may come
unfoldable pub ops_from : Table → List ℕ → ℕ → ℕ → Verdict (List Op)
unfolding ops_done fields_from op_wrong op_at
ops_from T = fields_from (ops_done T) 4 size_at (wrong_at T) op_at

-- "a field after 05 is ORDER": at a place behind it nothing is due, but a header is read before its tag is looked at
unfoldable pub nothing_due : List ℕ → ℕ → Test
unfolding header ◌then◌
nothing_due s at = cond (at_end s at) (accepted tt) (header s at then refused ORDER at 0)

-- the decider of operations that end at a place: nobody where the input ends there too, else the byte behind the header
abbrev pub decider_at : List ℕ → ℕ → Decider
decider_at s at = cond (at_end s at) nobody (decides (num8 s (at + 3)))

-- "An optional last field 05, length 1", at a place behind n operations
unfoldable pub decider_test : List ℕ → ℕ → ℕ → Test
unfolding field_test decider_wrong nothing_due ◌then◌
decider_test s at n =
    cond (at_end s at) (accepted tt) (field_test s at 5 1 (decider_wrong n (decider_at s at)) then nothing_due s (at + 4))

-- the decider's field behind a table's operations, and then the table as a whole
unfoldable pub judge_behind : List ℕ → Table → Verdict Table
unfolding decider_test judge_whole ops_size ◌then◌
judge_behind s T = decider_test s (ops_end T) (nops T) then judge_whole (with_decider T (decider_at s (ops_end T)))

unfoldable pub judge : List ℕ → Verdict Table
unfolding head_test head_of ops_from judge_behind onwards ◌then◌
judge s =
    head_test s
    then onwards (ops_from (head_of s) s 32 (ops_place (head_of s).modes)) (λ os. judge_behind s (with_ops (head_of s) os))

-- ---- a table handed over as numbers: "six for each operation, in layout order". "Where a request adds an optional field or number, it is handed over
-- beside these with a mark that says whether it is there, and is written exactly when it is": for each operation a mark and its hold, and the
-- decider with its mark. A mark is 0 where there is none.
pub record Numbers : Type 0 where
  pub len : ℕ
  pub boards : ℕ
  pub cells : ℕ
  pub modes : ℕ
  pub first : ℕ
  pub follow : List ℕ
  pub ops : List ℕ
  pub holds : List ℕ
  pub mark : ℕ
  pub decider : ℕ

-- whether the operation whose mark stands first has a hold
abbrev pub marked_of : List ℕ → Bool
marked_of hs = not (eqb (get_or hs 0 0) 0)

-- the operation whose six numbers stand first, and its mark and its hold; with the mark unset the hold is ignored
abbrev pub op_of_numbers : List ℕ → List ℕ → Op
op_of_numbers ns hs =
    record {
      start = get_or ns 0 0;
      dur = get_or ns 1 0;
      hold = cond (marked_of hs) (get_or hs 1 0) 0;
      boards = get_or ns 2 0;
      reads = get_or ns 3 0;
      writes = get_or ns 4 0;
      modes = get_or ns 5 0;
    }

-- what stands before the operations
abbrev pub head_of_numbers : Numbers → Table
head_of_numbers N =
    record {
      len = N.len;
      boards = N.boards;
      cells = N.cells;
      modes = N.modes;
      first = N.first;
      follow = N.follow;
      ops = [];
      decider = nobody;
    }

-- who decides: with the mark unset the number is ignored
abbrev pub decider_of : Numbers → Decider
decider_of N = cond (eqb N.mark 0) nobody (decides N.decider)

-- no number of an operation is left, neither of the six nor a mark or a hold
abbrev pub none_left : List ℕ → List ℕ → Bool
none_left ns hs = eqb (length ns + length hs) 0

-- "judged as if first written in this layout and then read": each field at the offset that it would have. "A wrong count of follower words
-- is SIZE, a number too large for its field RANGE, an operation with numbers missing SHORT." A number that is too large for its field is
-- outside its range too, since every range fits its field, and a start is tested for that alone; RANGE blames it at the place that it would
-- have.
unfoldable pub numbers_test : Numbers → Test
unfolding ranged len_wrong counts_wrong sets_wrong refuse_if ◌then◌
numbers_test N =
    ranged (len_wrong N.len) 0
    then ranged (counts_wrong N.boards N.cells N.modes) 5
    then refuse_if (not (eqb (length N.follow) N.modes)) SIZE 11 0
    then ranged (sets_wrong N.modes (N.first ∷ N.follow)) 11
    then refuse_if (none_left N.ops N.holds) ORDER (ops_place N.modes) 0

-- the operations' numbers, and their marks and holds, when `left` more operations may come and the next would be written at a place. One whose mark or
-- hold is missing, or that has only these, is an operation with numbers missing too.
unfoldable pub ops_of_numbers : Table → List ℕ → List ℕ → ℕ → ℕ → Verdict (List Op)
unfolding not_many refuse_if ranged op_wrong ◌then◌ more
ops_of_numbers T ns hs zero at = cond (none_left ns hs) (accepted []) (not_many at 0 then accepted [])
ops_of_numbers T ns hs (suc left) at =
    cond (none_left ns hs) (accepted [])
    (refuse_if (ltb (length ns) 6 || ltb (length hs) 2) SHORT at 0
    then ranged (op_wrong T (marked_of hs) (op_of_numbers ns hs)) at
    then more (op_of_numbers ns hs) (ops_of_numbers T (drop 6 ns) (drop 2 hs) left (at + 3 + op_size (marked_of hs))))

-- the decider, at the place that its field would have, and then the table as a whole. Every operation's number fits a byte, so a number that is too
-- large for it is none.
unfoldable pub judge_decider : Decider → Table → Verdict Table
unfolding ranged decider_wrong judge_whole ops_size ◌then◌
judge_decider who T = ranged (decider_wrong (nops T) who) (ops_end T) then judge_whole (with_decider T who)

unfoldable pub judge_numbers : Numbers → Verdict Table
unfolding numbers_test ops_of_numbers judge_decider onwards ◌then◌
judge_numbers N =
    numbers_test N
    then onwards
    (ops_of_numbers (head_of_numbers N) N.ops N.holds 32 (ops_place N.modes))
    (λ os. judge_decider (decider_of N) (with_ops (head_of_numbers N) os))

-- ---- a reply's bytes: "the period is 1 to 1000, each folded start is below it, each unfolded start is at most 999, and there are 1 to 32
-- operations"; "a reply's unfolded start above 999" blames "its start index"
abbrev pub row_ranges : Ticks → Row → List Number
row_ranges q r =
    number 2 r.start.number (λ s. ltb s q.number)
    ∷ number 2 r.fst.number (λ f. leb (unfold_at q (record { start = r.start; fst = cycles f })).number 999)
    ∷ []

unfoldable pub row_wrong : Ticks → Row → ℕ
unfolding first_wrong
row_wrong q r = first_wrong (row_ranges q r)

unfoldable pub reply_test : List ℕ → Test
unfolding field_test len_wrong needed ◌then◌
reply_test s = field_test s 0 17 2 (len_wrong (num16 s 3)) then needed s 5

unfoldable pub rows_from : Ticks → List ℕ → ℕ → ℕ → Verdict (List Row)
unfolding fields_from row_wrong
rows_from q = fields_from at_end 18 (λ s at. 4) (λ s at. row_wrong q (row_at s at)) row_at

unfoldable pub judge_reply : List ℕ → Verdict Reply
unfolding reply_test rows_from onwards ◌then◌
judge_reply s =
    reply_test s
    then onwards (rows_from (ticks (num16 s 3)) s 32 5) (λ rs. accepted (record { period = ticks (num16 s 3); rows = rs }))
