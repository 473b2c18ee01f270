-- The first wrong number of a field: none is wrong exactly where each is in its range, and where one is, the first begins where it says; which
-- one that is, field by field; and the test of ranges.
-- Assumes nothing.
use Prim.Native.Nat.{ℕ, zero, suc, ◌+◌, ◌*◌, ◌<◌, ◌≤◌}
use mathlib.Core.Path.{◌≡◌, refl, sym, ap, ◌∙◌}
use mathlib.Core.Bool.{Bool, true, false, not}
use mathlib.Core.List.{List, [], ◌∷◌, ◌++◌}
use mathlib.Core.Logic.{◌↔◌}
use native.Mathlib.Numerals.{add-one}
use native.Mathlib.Omega.{arith}
use lib.Dec.{eqb}
use lib.ListN.{length, get_or, drop, drop_of_length-le}
use lib.Seq.{drop-cons}
use borrow.Author.Tests.{lt-leb, le-leb, lt-ltb, le-ltb, eq-eqb, ne_eqb, eqb-true, not-false}
use Rattle.rules.specs.Table.{Op, Decider, nobody, decides, Table, held_to}
use Rattle.rules.specs.Rows.{Ticks, Row, unfold_at}
use Rattle.rules.specs.Verdicts.{accepted, refused, RANGE}
use Rattle.rules.specs.Bytes.{op_size}
use Rattle.rules.specs.Judge.{Number, number, wrong_from, first_wrong, ranged, len_ranges, len_wrong, count_ranges, counts_wrong, set_ok, set_ranges, sets_wrong, date_ranges, hold_ranges, op_ranges, op_wrong, decider_ranges, decider_wrong, row_ranges, row_wrong}
use Rattle.rules.specs.Bench.{All}
use Rattle.theory.specs.Blamed.{bytes_before, among, FirstFrom}
use Rattle.theory.proofs.Says.{Known, holds, fails, known}
use Rattle.theory.proofs.Verdicts.{passes, passed, refuses}

-- ---- one number after the other

module _ (place : ℕ) (n : Number) (ns : List Number) where
  pub wrong_here : n.ok ≡ false → wrong_from place (n ∷ ns) ≡ place
  unfolding wrong_from
  wrong_here e = rw e

  pub wrong_later : n.ok ≡ true → wrong_from place (n ∷ ns) ≡ wrong_from (place + n.bytes) ns
  unfolding wrong_from
  wrong_later e = rw e

-- a number in its range
abbrev pub Fine : Number → Type 0
Fine n = n.ok ≡ true

-- none is wrong exactly where each is in its range; no number begins at 0
none_from : (place : ℕ) (ns : List Number) → 0 < place → (wrong_from place ns ≡ 0) ↔ All Fine ns
unfolding wrong_from All
none_from place [] some = (λ e. tt, λ x. refl)
none_from place (n ∷ ns) some =
    let rest = none_from (place + n.bytes) ns (omega arith) in
    (λ e. there rest e (known n.ok), λ x. wrong_later place n ns x.0 ∙ rest.1 x.1)
  where
    there : (wrong_from (place + n.bytes) ns ≡ 0) ↔ All Fine ns → wrong_from place (n ∷ ns) ≡ 0 → Known n.ok → Fine n × All Fine ns
    there rest e (holds h) = (h, rest.0 (sym (wrong_later place n ns h) ∙ e))
    there rest e (fails h) = absurd (omega (arith, e, wrong_here place n ns h))

pub none_wrong : (ns : List Number) → (first_wrong ns ≡ 0) ↔ All Fine ns
unfolding first_wrong
none_wrong ns = none_from 3 ns (omega arith)

-- ---- the first that is wrong

-- where one is told, it is the first
pub first_told : (place : ℕ) (ns : List Number) (w : ℕ) → 0 < w → wrong_from place ns ≡ w → FirstFrom place ns w
unfolding wrong_from bytes_before
first_told place [] w some e = absurd (omega arith)
first_told place (n ∷ ns) w some e = go (known n.ok) (first_told (place + n.bytes) ns w some)
  where
    go : Known n.ok → (wrong_from (place + n.bytes) ns ≡ w → FirstFrom (place + n.bytes) ns w) → FirstFrom place (n ∷ ns) w
    go (fails h) rest =
        record {
          which = 0;
          there = omega arith;
          begins = omega (arith, e, wrong_here place n ns h);
          wrong = h;
          before = λ j l. absurd (omega arith);
        }
    go (holds h) rest =
        let x = rest (sym (wrong_later place n ns h) ∙ e) in
        record {
          which = suc x.which;
          there = omega (arith, x.there);
          begins = omega (arith, x.begins);
          wrong = x.wrong;
          before = earlier x;
        }
      where
        earlier : (x : FirstFrom (place + n.bytes) ns w) (j : ℕ) → j < suc x.which → (among (n ∷ ns) j).ok ≡ true
        earlier x zero l = h
        earlier x (suc j) l = x.before j (omega arith)

-- and the first is told
told_at : (k place : ℕ) (ns : List Number) (w : ℕ) → k < length ns → w ≡ place + bytes_before k ns → (among ns k).ok ≡ false
    → ((j : ℕ) → j < k → (among ns j).ok ≡ true) → wrong_from place ns ≡ w
unfolding bytes_before
told_at k place [] w there begins wrong before = absurd (omega arith)
told_at zero place (n ∷ ns) w there begins wrong before = wrong_here place n ns wrong ∙ omega arith
told_at (suc k) place (n ∷ ns) w there begins wrong before =
    wrong_later place n ns (before 0 (omega arith))
    ∙ told_at k (place + n.bytes) ns w (omega arith) (omega arith) wrong (λ j l. before (suc j) (omega arith))

pub told_first : (place : ℕ) (ns : List Number) (w : ℕ) → FirstFrom place ns w → wrong_from place ns ≡ w
told_first place ns w x = told_at x.which place ns w x.there x.begins x.wrong x.before

-- what is told is no farther than the end of the numbers
wrong_within : (place : ℕ) (ns : List Number) → wrong_from place ns ≤ place + bytes_before (length ns) ns
unfolding wrong_from bytes_before
wrong_within place [] = omega arith
wrong_within place (n ∷ ns) = go (known n.ok) (wrong_within (place + n.bytes) ns)
  where
    go : Known n.ok → wrong_from (place + n.bytes) ns ≤ place + n.bytes + bytes_before (length ns) ns
        → wrong_from place (n ∷ ns) ≤ place + bytes_before (length (n ∷ ns)) (n ∷ ns)
    go (holds h) rest = omega (arith, wrong_later place n ns h)
    go (fails h) rest = omega (arith, wrong_here place n ns h)

-- so what is told lies in its field, or just behind it

pub len_within : (p : ℕ) {w : ℕ} → w ≡ len_wrong p → w ≤ 5
unfolding len_wrong bytes_before
len_within p e = omega (arith, e, wrong_within 3 (len_ranges p))

pub counts_within : (boards cells modes : ℕ) {w : ℕ} → w ≡ counts_wrong boards cells modes → w ≤ 6
unfolding counts_wrong bytes_before
counts_within boards cells modes e = omega (arith, e, wrong_within 3 (count_ranges boards cells modes))

-- each set has four bytes
sets_bytes : (n : ℕ) (ss : List ℕ) → bytes_before (length (set_ranges n ss)) (set_ranges n ss) ≡ 4 * length ss
unfolding bytes_before
sets_bytes n [] = refl
sets_bytes n (s ∷ ss) = omega (arith, sets_bytes n ss)

pub sets_within : (n : ℕ) (ss : List ℕ) {w : ℕ} → w ≡ sets_wrong n ss → w ≤ 3 + 4 * length ss
unfolding sets_wrong first_wrong
sets_within n ss e = omega (arith, e, wrong_within 3 (set_ranges n ss), sets_bytes n ss)

pub op_within : (T : Table) (held : Bool) (o : Op) {w : ℕ} → w ≡ op_wrong T held o → w ≤ 3 + op_size held
unfolding op_wrong bytes_before
op_within T false o e = omega (arith, e, wrong_within 3 (op_ranges T false o))
op_within T true o e = omega (arith, e, wrong_within 3 (op_ranges T true o))

pub decider_within : (n : ℕ) (who : Decider) {w : ℕ} → w ≡ decider_wrong n who → w ≤ 4
unfolding decider_wrong bytes_before
decider_within n nobody e = omega (arith, e, wrong_within 3 (decider_ranges n nobody))
decider_within n (decides d) e = omega (arith, e, wrong_within 3 (decider_ranges n (decides d)))

pub row_within : (q : Ticks) (r : Row) {w : ℕ} → w ≡ row_wrong q r → w ≤ 7
unfolding row_wrong bytes_before
row_within q r e = omega (arith, e, wrong_within 3 (row_ranges q r))

-- ---- sets one after the other: which is wrong first from set i on, when the first of all begins at a place

abbrev pub sets_from : ℕ → ℕ → List ℕ → ℕ → ℕ
sets_from place n ss i = wrong_from (place + 4 * i) (set_ranges n (drop i ss))

pub sets_start : (n : ℕ) (ss : List ℕ) → sets_wrong n ss ≡ sets_from 3 n ss 0
unfolding sets_wrong
sets_start n ss = refl

module _ (place n : ℕ) (ss : List ℕ) (i : ℕ) where
  module _ (h : i < length ss) where
    set_next : set_ranges n (drop i ss) ≡ number 4 (get_or ss i 0) (set_ok n) ∷ set_ranges n (drop (i + 1) ss)
    set_next = rw (drop-cons ss i 0 h, add-one)

    pub set_wrong : set_ok n (get_or ss i 0) ≡ false → sets_from place n ss i ≡ place + 4 * i
    set_wrong e = ap (wrong_from (place + 4 * i)) set_next ∙ wrong_here (place + 4 * i) _ _ e

    pub set_fine : set_ok n (get_or ss i 0) ≡ true → sets_from place n ss i ≡ sets_from place n ss (i + 1)
    set_fine e =
        let next : place + 4 * i + 4 ≡ place + 4 * (i + 1) = omega arith in
        ap (wrong_from (place + 4 * i)) set_next ∙ wrong_later (place + 4 * i) _ _ e ∙ rw next

  pub sets_end : length ss ≤ i → sets_from place n ss i ≡ 0
  unfolding wrong_from
  sets_end h = rw (drop_of_length-le ss h)

-- ---- the request's sentences: which number is blamed

-- a length that is out of its range is the only number of its field
pub len_low : (p : ℕ) → p < 1 → len_wrong p ≡ 3
unfolding len_wrong
len_low p h = rw (lt-leb 1 p h)

pub len_high : (p : ℕ) → 1000 < p → len_wrong p ≡ 3
unfolding len_wrong
len_high p h = let low : 1 ≤ p = omega arith in rw (le-leb 1 p low, lt-leb p 1000 h)

-- nobody is never wrong; a decider that is one of n operations, and one that is none
pub decider_none : (n : ℕ) → decider_wrong n nobody ≡ 0
unfolding decider_wrong
decider_none n = refl

pub decider_low : (n d : ℕ) → d < n → decider_wrong n (decides d) ≡ 0
unfolding decider_wrong
decider_low n d h = rw (lt-ltb d n h)

pub decider_high : (n d : ℕ) → n ≤ d → decider_wrong n (decides d) ≡ 3
unfolding decider_wrong
decider_high n d h = rw (le-ltb d n h)

-- an operation's dates, whatever numbers stand behind them
module _ (T : Table) (o : Op) (fits : o.start < 65536) where
  -- "a duration d of at least 1"
  pub dates_no_time : (behind : List Number) → o.dur < 1 → first_wrong (date_ranges T o ++ behind) ≡ 5
  unfolding first_wrong
  dates_no_time behind h = rw (lt-ltb o.start 65536 fits, lt-leb 1 o.dur h)

  -- "an operation that ends after p blames its duration", whatever its hold
  pub dates_late : (behind : List Number) → 1 ≤ o.dur → T.len < o.start + o.dur → first_wrong (date_ranges T o ++ behind) ≡ 5
  unfolding first_wrong
  dates_late behind h l = rw (lt-ltb o.start 65536 fits, le-leb 1 o.dur h, lt-leb (o.start + o.dur) T.len l)

  module _ (lasts : 1 ≤ o.dur) (ends : o.start + o.dur ≤ T.len) where
    -- document 02, No. 9: "a 20-byte field with hold 0 is RANGE and blames the hold"
    pub dates_no_hold : (behind : List Number) → o.hold < 1 → first_wrong (date_ranges T o ++ (hold_ranges T true o ++ behind)) ≡ 7
    unfolding first_wrong
    dates_no_hold behind h =
        rw (lt-ltb o.start 65536 fits, le-leb 1 o.dur lasts, le-leb (o.start + o.dur) T.len ends, lt-leb 1 o.hold h)

    -- "so does a hold that alone runs past p"
    pub dates_past : (behind : List Number) → 1 ≤ o.hold → T.len < held_to o → first_wrong (date_ranges T o ++ (hold_ranges T true o ++ behind)) ≡ 7
    unfolding first_wrong
    dates_past behind h l =
        rw (
          lt-ltb o.start 65536 fits,
          le-leb 1 o.dur lasts,
          le-leb (o.start + o.dur) T.len ends,
          le-leb 1 o.hold h,
          lt-leb (held_to o) T.len l,
        )

module _ (q : Ticks) (r : Row) where
  -- a folded start that is not below the period
  pub row_start : q.number ≤ r.start.number → row_wrong q r ≡ 3
  unfolding row_wrong
  row_start h = rw (le-ltb r.start.number q.number h)

  module _ (below : r.start.number < q.number) where
    -- "a reply's unfolded start above 999 its start index"
    pub row_index : 999 < (unfold_at q r).number → row_wrong q r ≡ 5
    unfolding row_wrong
    row_index h = rw (lt-ltb r.start.number q.number below, lt-leb (unfold_at q r).number 999 h)

    pub row_fine : (unfold_at q r).number ≤ 999 → row_wrong q r ≡ 0
    unfolding row_wrong
    row_fine h = rw (lt-ltb r.start.number q.number below, le-leb (unfold_at q r).number 999 h)

-- ---- the range test

-- a field that passes has no wrong number, and one that has none passes
pub range_passed : (wrong at : ℕ) → ranged wrong at ≡ accepted tt → wrong ≡ 0
unfolding ranged
range_passed wrong at e = eqb-true wrong 0 (not-false (eqb wrong 0) (passed _ RANGE at _ e))

pub ranged_yes : (wrong at : ℕ) → wrong ≡ 0 → ranged wrong at ≡ accepted tt
unfolding ranged
ranged_yes wrong at h = passes _ RANGE at _ (ap not (eq-eqb wrong 0 h))

-- one that has one is refused, with the field's place and the number's
pub ranged_no : (wrong at : ℕ) → (wrong ≡ 0 → ⊥) → ranged wrong at ≡ refused RANGE at (at + wrong)
unfolding ranged
ranged_no wrong at h = refuses _ RANGE at _ (ap not (ne_eqb wrong 0 h))
