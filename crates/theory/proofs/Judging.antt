-- What a verdict of the judge means: what it accepts is an accepted table, and a refused pair is the first that is hit.
-- Assumes nothing.
use Prim.Native.Nat.{ℕ, zero, suc, ◌+◌, ◌-◌, ◌*◌, ◌^◌, ◌<◌, ◌≤◌}
use mathlib.Core.Path.{◌≡◌, refl, sym, ap, subst, ◌∙◌}
use mathlib.Core.Bool.{Bool, true, false, not, cond, ◌&&◌, ◌||◌}
use mathlib.Core.List.{List, [], ◌∷◌}
use mathlib.Core.Logic.{◌↔◌, ◌⊎◌, inl, inr}
use native.Mathlib.Omega.{arith}
use lib.Dec.{leb, ltb, eqb}
use lib.Bits.{bit_or}
use lib.ListN.{length, get_or, drop, length-append, length-drop}
use borrow.Author.Tests.{lt-ltb, ltb-false, leb-false, leb-true, eq-eqb, ne_eqb, eqb-true, eqb-false, not-true, not-false}
use Rattle.rules.specs.Sets.{Share}
use Rattle.rules.specs.Table.{Op, Decider, nobody, decides, Table, nops, op, no_op, held_to, SetOf, OpOk, Clash, Race, Contest, Decided, Accepted}
use Rattle.rules.specs.Verdicts.{accepted, refused, SHORT, ORDER, SIZE, MANY, CLASH, RACE, Test, refuse_if, ◌then◌, onwards, more, each}
use Rattle.rules.specs.Bytes.{num8, words, joined, op_size, op_form, settles, op_bytes, held_at, read_op, op_at, decider_bytes}
use Rattle.rules.specs.Judge.{needed, header, due, sized, complete, ranged, not_many, field_test, repeat_test, fields_from, len_ranges, len_wrong, count_ranges, counts_wrong, set_ok, set_ranges, sets_wrong, used_ranges, op_ranges, op_wrong, decider_ranges, decider_wrong, clashes, races, pairs_test, early_test, judge_whole, head_of, with_ops, with_decider, ops_place, ops_size, ops_end, head_test, ops_done, size_at, wrong_at, ops_from, nothing_due, decider_at, decider_test, judge_behind, judge, Numbers, marked_of, op_of_numbers, head_of_numbers, decider_of, none_left, numbers_test, ops_of_numbers, judge_decider, judge_numbers}
use Rattle.rules.specs.Bench.{All}
use Rattle.theory.specs.Pairs.{FirstPair}
use Rattle.theory.specs.Holds.{Plain, step_wrong, op_width, place_from}
use Rattle.theory.proofs.Order.{Cmp, cmp}
use Rattle.theory.proofs.Says.{Says, says_by, says_leb, says_ltb, says_and, says_or, says_false, says_eqb, or_false, clash_bool}
use Rattle.theory.proofs.Sets.{in_or, says_shares}
use Rattle.theory.proofs.Tests.{says_overlaps}
use Rattle.theory.proofs.Ranges.{Fine, none_wrong, range_passed, decider_none}
use Rattle.theory.proofs.Early.{early_iff}
use Rattle.theory.proofs.Verdicts.{never_refused, passes, passed, fault_refused, then_accepts, then_first, then_rest, then_refused, onwards_first, more_first, each_accepts, each_accepted}

-- ---- the tests of the judge say the statements of the table

-- "Two operations clash when they share a board and a mode and overlap."
pub says_clashes : (o u : Op) → Says (clashes o u) (Clash o u)
unfolding clashes
says_clashes o u =
    says_by (says_and _ _ (says_shares _ _) (says_and _ _ (says_shares _ _) (says_overlaps _ _ _ _)))
    (λ (a, (b, c)). record { board = a; mode = b; lap = c })
    (λ x. (x.board, (x.mode, x.lap)))

-- one of the two tests of cells is true exactly where some cell is contested
contest_iff : (o u : Op)
    → (Share o.writes (bit_or u.reads u.writes) ⊎ Share o.reads u.writes) ↔ ((c : ℕ) × Contest o u c)
contest_iff o u = (fwd, bwd)
  where
    fwd : Share o.writes (bit_or u.reads u.writes) ⊎ Share o.reads u.writes → (c : ℕ) × Contest o u c
    fwd (inl (c, w, x)) = (c, inl (w, (in_or c u.reads u.writes).0 x))
    fwd (inr (c, r, w)) = (c, inr (r, w))

    bwd : (c : ℕ) × Contest o u c → Share o.writes (bit_or u.reads u.writes) ⊎ Share o.reads u.writes
    bwd (c, inl (w, x)) = inl (c, w, (in_or c u.reads u.writes).1 x)
    bwd (c, inr (r, w)) = inr (c, r, w)

-- "They race when they share a mode and overlap and one writes a cell that the other reads or writes."
pub says_races : (o u : Op) → Says (races o u) (Race o u)
unfolding races
says_races o u =
    says_by
    (says_and _ _ (says_shares _ _) (says_and _ _ (says_overlaps _ _ _ _) (says_or _ _ (says_shares _ _) (says_shares _ _))))
    (λ (a, (b, c)). record { mode = a; lap = b; cell = (contest_iff o u).0 c })
    (λ x. (x.mode, (x.lap, (contest_iff o u).1 x.cell)))

-- a set that is not empty and within the counts
pub says_set : (n s : ℕ) → Says (set_ok n s) (SetOf n s)
unfolding set_ok
says_set n s =
    says_by (says_and _ _ (says_ltb 0 s) (says_ltb s (2 ^ n)))
    (λ x. record { some = x.0; small = x.1 })
    (λ x. (x.some, x.small))

-- the numbers of an operation behind its dates, and its two dates
says_used : (T : Table) (o : Op) → All Fine (used_ranges T o)
    ↔ (SetOf T.boards o.boards × ((o.reads < 2 ^ T.cells) × ((o.writes < 2 ^ T.cells) × SetOf T.modes o.modes)))
unfolding All
says_used T o =
    let boards = says_set T.boards o.boards in
    let reads = says_ltb o.reads (2 ^ T.cells) in
    let writes = says_ltb o.writes (2 ^ T.cells) in
    let modes = says_set T.modes o.modes in
    (λ (b, (r, (w, (m, _)))). (boards.0 b, (reads.0 r, (writes.0 w, modes.0 m))), λ (b, (r, (w, m))). (boards.1 b, (reads.1 r, (writes.1 w, (modes.1 m, tt)))))

says_dur : (T : Table) (o : Op) → Says (leb 1 o.dur && leb (o.start + o.dur) T.len) ((1 ≤ o.dur) × (o.start + o.dur ≤ T.len))
says_dur T o = says_and _ _ (says_leb 1 o.dur) (says_leb (o.start + o.dur) T.len)

says_hold : (T : Table) (o : Op) → Says (leb 1 o.hold && leb (o.start + o.dur + o.hold) T.len) ((1 ≤ o.hold) × (held_to o ≤ T.len))
says_hold T o = says_and _ _ (says_leb 1 o.hold) (says_leb (o.start + o.dur + o.hold) T.len)

-- no number of an operation is wrong exactly where it is in its ranges; a start fits its field where the operation ends by p
form_passed : (T : Table) (held : Bool) (o : Op) → Plain held o → op_wrong T held o ≡ 0 → OpOk T o
unfolding op_wrong All
form_passed T false o plain e =
    let (_, (d, used)) = (none_wrong (op_ranges T false o)).0 e in
    let (lasts, ends) = (says_dur T o).0 d in
    let (boards, (reads, (writes, modes))) = (says_used T o).0 used in
    record { lasts = lasts; fits = omega (arith, ends, plain refl); boards = boards; reads = reads; writes = writes; modes = modes }
form_passed T true o plain e =
    let (_, (d, (h, used))) = (none_wrong (op_ranges T true o)).0 e in
    let (boards, (reads, (writes, modes))) = (says_used T o).0 used in
    record { lasts = ((says_dur T o).0 d).0; fits = ((says_hold T o).0 h).1; boards = boards; reads = reads; writes = writes; modes = modes }

form_passes : (T : Table) (held : Bool) (o : Op) → (held ≡ true → 1 ≤ o.hold) → T.len ≤ 1000 → OpOk T o → op_wrong T held o ≡ 0
unfolding op_wrong All
form_passes T held o some short x =
    let start : o.start < 65536 = omega (arith, x.fits) in
    let ends : o.start + o.dur ≤ T.len = omega (arith, x.fits) in
    let dates = (says_dur T o).1 (x.lasts, ends) in
    let used = (says_used T o).1 (x.boards, (x.reads, (x.writes, x.modes))) in
    go held some (lt-ltb o.start 65536 start) dates used
  where
    go : (held : Bool) → (held ≡ true → 1 ≤ o.hold) → ltb o.start 65536 ≡ true → (leb 1 o.dur && leb (o.start + o.dur) T.len) ≡ true
        → All Fine (used_ranges T o) → op_wrong T held o ≡ 0
    go false some start dates used = (none_wrong (op_ranges T false o)).1 (start, (dates, used))
    go true some start dates used = (none_wrong (op_ranges T true o)).1 (start, (dates, ((says_hold T o).1 (some refl, x.fits), used)))

-- a hold is there exactly where it is not 0
settles_yes : (o : Op) → 1 ≤ o.hold → settles o ≡ true
settles_yes o h = ap not (ne_eqb o.hold 0 (λ e. omega arith))

settles_no : (o : Op) → o.hold ≡ 0 → settles o ≡ false
settles_no o e = ap not (eq-eqb o.hold 0 e)

pub own_plain : (o : Op) → Plain (settles o) o
own_plain o e = eqb-true o.hold 0 (not-false _ e)

own_some : (o : Op) → settles o ≡ true → 1 ≤ o.hold
own_some o e = omega (arith, eqb-false o.hold 0 (not-true _ e))

-- an operation that passes has the form that it is written in
pub own_form : (T : Table) (held : Bool) (o : Op) → Plain held o → op_wrong T held o ≡ 0 → held ≡ settles o
unfolding op_wrong All
own_form T false o plain e = sym (settles_no o (plain refl))
own_form T true o plain e = let (_, (_, (h, _))) = (none_wrong (op_ranges T true o)).0 e in sym (settles_yes o ((says_hold T o).0 h).0)

pub own_wrong : (T : Table) (held : Bool) (o : Op) → Plain held o → op_wrong T held o ≡ 0 → step_wrong T o ≡ 0
own_wrong T held o plain e = subst (λ (b : Bool). op_wrong T b o ≡ 0) (own_form T held o plain e) e

pub op_passed : (T : Table) (o : Op) → step_wrong T o ≡ 0 → OpOk T o
op_passed T o e = form_passed T (settles o) o (own_plain o) e

pub op_passes : (T : Table) (o : Op) → T.len ≤ 1000 → OpOk T o → step_wrong T o ≡ 0
op_passes T o short x = form_passes T (settles o) o (own_some o) short x

-- the operation at a place, and an operation handed over, has no hold without a field or a mark for it
pub plain_at : (s : List ℕ) (at : ℕ) → Plain (held_at s at) (op_at s at)
unfolding op_at
plain_at s at e = go (held_at s at) e
  where
    go : (held : Bool) → held ≡ false → (read_op held s at).hold ≡ 0
    go false e = refl
    go true e = clash_bool refl e

pub plain_handed : (ns hs : List ℕ) → Plain (marked_of hs) (op_of_numbers ns hs)
plain_handed ns hs e = rw e

-- one set more in front
pub sets_more : (n s : ℕ) (ss : List ℕ)
    → (SetOf n s × ((a : ℕ) → a < length ss → SetOf n (get_or ss a 0)))
    ↔ ((a : ℕ) → a < length (s ∷ ss) → SetOf n (get_or (s ∷ ss) a 0))
sets_more n s ss = (λ x a h. go x a h, λ x. (x 0 (omega arith), λ a h. x (suc a) (omega arith)))
  where
    go : SetOf n s × ((a : ℕ) → a < length ss → SetOf n (get_or ss a 0)) → (a : ℕ) → a < length (s ∷ ss) → SetOf n (get_or (s ∷ ss) a 0)
    go x zero h = x.0
    go x (suc a) h = x.1 a (omega arith)

-- each of the sets is such a set
each_set : (n : ℕ) (ss : List ℕ) → All Fine (set_ranges n ss) ↔ ((a : ℕ) → a < length ss → SetOf n (get_or ss a 0))
unfolding All
each_set n [] = (λ x a h. absurd (omega arith), λ x. tt)
each_set n (s ∷ ss) =
    let one = says_set n s in
    let rest = each_set n ss in
    (λ x. (sets_more n s ss).0 (one.0 x.0, rest.0 x.1), λ x. let (a, b) = (sets_more n s ss).1 x in (one.1 a, rest.1 b))

-- none of the sets is wrong exactly where each is
pub says_sets : (n : ℕ) (ss : List ℕ) → (sets_wrong n ss ≡ 0) ↔ ((a : ℕ) → a < length ss → SetOf n (get_or ss a 0))
unfolding sets_wrong
says_sets n ss =
    let none = none_wrong (set_ranges n ss) in
    let each = each_set n ss in
    (λ e. each.0 (none.0 e), λ x. none.1 (each.1 x))

-- ---- the first test that refuses

-- of the tests f i, .., n of them, test k refuses and those before it accept
pub record FirstRefused (f : ℕ → Test) (i n k number a b : ℕ) : Type 0 where
  pub from : i ≤ k
  pub to : k < i + n
  pub here : f k ≡ refused number a b
  pub before : (l : ℕ) → i ≤ l → l < k → f l ≡ accepted tt

-- such a row is refused as test k is
pub each_refuses : (f : ℕ → Test) (i n k number a b : ℕ) → FirstRefused f i n k number a b → each f i n ≡ refused number a b
unfolding each
each_refuses f i zero k number a b x = absurd (omega arith)
each_refuses f i (suc n) k number a b x = go (cmp i k) (each_refuses f (suc i) n k number a b)
  where
    go : Cmp i k → (FirstRefused f (suc i) n k number a b → each f (suc i) n ≡ refused number a b) → (f i then each f (suc i) n) ≡ refused number a b
    go (Cmp.less h) rec =
        then_accepts (each f (suc i) n) (x.before i (omega arith) h)
        ∙ rec (record { from = h; to = omega arith; here = x.here; before = λ l p q. x.before l (omega arith) q })
    go (Cmp.same h) rec = rw (ap f h, x.here)
    go (Cmp.more h) rec = absurd (omega arith)

-- a row that is refused has such a test
pub each_refused : (f : ℕ → Test) (i n number a b : ℕ) → each f i n ≡ refused number a b → (k : ℕ) × FirstRefused f i n k number a b
unfolding each
each_refused f i zero number a b e = never_refused (sym e)
each_refused f i (suc n) number a b e =
    then_refused (f i) (each f (suc i) n) e
    (λ h. (i, record { from = omega arith; to = omega arith; here = h; before = λ l p q. absurd (omega (arith, p, q)) }))
    (λ _ h r.
    let (k, x) = each_refused f (suc i) n number a b r in
    (k, record { from = omega arith; to = omega arith; here = x.here; before = λ l p q. at l p q h x (cmp i l) }))
  where
    at : (l : ℕ) {k : ℕ} → i ≤ l → l < k → f i ≡ accepted tt → FirstRefused f (suc i) n k number a b → Cmp i l → f l ≡ accepted tt
    at l p q h x (Cmp.less z) = x.before l z q
    at l p q h x (Cmp.same z) = subst (λ (m : ℕ). f m ≡ accepted tt) z h
    at l p q h x (Cmp.more z) = absurd (omega arith)

-- ---- pairs

module _ (hit : Op → Op → Bool) (number : ℕ) (T : Table) where
  -- the tests of the pairs with a first number
  abbrev row : ℕ → Test
  row i = each (λ j. refuse_if (hit (op T i) (op T j)) number i j) (suc i) (nops T - suc i)

  -- they accept exactly where none of these pairs is hit
  row_accepted : (i : ℕ) → (row i ≡ accepted tt) ↔ ((j : ℕ) → i < j → j < nops T → hit (op T i) (op T j) ≡ false)
  row_accepted i = (
    λ e j h k. passed _ number i j (each_accepted _ (suc i) (nops T - suc i) e j (omega arith) (omega arith)),
    λ f. each_accepts _ (suc i) (nops T - suc i) (λ j h k. passes _ number i j (f j (omega arith) (omega arith))),
  )

  -- the tests of all pairs accept exactly where no pair is hit
  pub pairs_accepted : (pairs_test hit number T ≡ accepted tt) ↔ ((i j : ℕ) → i < j → j < nops T → hit (op T i) (op T j) ≡ false)
  unfolding pairs_test
  pairs_accepted = (
    λ e i j h k. (row_accepted i).0 (each_accepted row 0 (nops T) e i (omega arith) (omega arith)) j h k,
    λ f. each_accepts row 0 (nops T) (λ i _ _. (row_accepted i).1 (f i)),
  )

  -- what the tests of all pairs refuse is the first pair that is hit, with their own number
  pub pairs_refused : (m i j : ℕ) → pairs_test hit number T ≡ refused m i j → (m ≡ number) × FirstPair hit T i j
  unfolding pairs_test
  pairs_refused m i j e =
      let (k, x) = each_refused row 0 (nops T) m i j e in
      let (l, y) = each_refused _ (suc k) (nops T - suc k) m i j x.here in
      let (h, n, p, q) = fault_refused (hit (op T k) (op T l)) y.here in
      let first : FirstPair hit T k l =
      record {
        less = y.from;
        within = omega arith;
        holds = h;
        rows = λ u v g z w. (row_accepted u).0 (x.before u (omega arith) g) v z w;
        row = λ v g z. passed _ number k v (y.before v (omega arith) z);
      }
      in
      (n, subst (λ (v : ℕ). FirstPair hit T i v) q (subst (λ (u : ℕ). FirstPair hit T u l) p first))

  -- they refuse the first pair that is hit, and no other
  pub pairs_first : (i j : ℕ) → (pairs_test hit number T ≡ refused number i j) ↔ FirstPair hit T i j
  unfolding pairs_test
  pairs_first i j = (
    λ e. (pairs_refused number i j e).1,
    λ x.
        each_refuses row 0 (nops T) i number i j
        (record {
          from = omega arith;
          to = omega arith;
          here =
              each_refuses _ (suc i) (nops T - suc i) j number i j
              (record {
                from = x.less;
                to = omega arith;
                here = rw x.holds;
                before = λ l h k. passes _ number i l (x.row l h k);
              });
          before = λ u h k. (row_accepted u).1 (λ v g z. x.rows u v k g z);
        }),
  )

  -- they accept exactly where no pair is as a hit says
  pairs_say : {P : Op → Op → Type 0} → ((o u : Op) → Says (hit o u) (P o u))
      → (pairs_test hit number T ≡ accepted tt) ↔ ((i j : ℕ) → i < j → j < nops T → P (op T i) (op T j) → ⊥)
  pairs_say says = (
    λ e i j h k. (says_false _ (says (op T i) (op T j))).0 (pairs_accepted.0 e i j h k),
    λ f. pairs_accepted.1 (λ i j h k. (says_false _ (says (op T i) (op T j))).1 (f i j h k)),
  )

-- the row of tests that the judgement of the whole table is
pub whole_row : (T : Table) → judge_whole T ≡ (pairs_test clashes CLASH T then pairs_test races RACE T then early_test T T.decider then accepted T)
unfolding judge_whole
whole_row T = refl

-- a decider that is one is an operation
pub decider_there : (T : Table) (who : Decider) → Decided T who → (d : ℕ) → who ≡ decides d → d < nops T
decider_there T nobody x d e = let z : ◌≡◌ {A = ℕ} 0 1 = cc in absurd (omega arith)
decider_there T (decides i) x d e = let same : i ≡ d = cc in omega (arith, x.is_op)

-- a table that is accepted passes it
pub whole_accepts : (T : Table) → Accepted T → judge_whole T ≡ accepted T
whole_accepts T ok =
    whole_row T
    ∙ then_accepts _ ((pairs_say clashes CLASH T says_clashes).1 ok.no_clash)
    ∙ then_accepts _ ((pairs_say races RACE T says_races).1 ok.no_race)
    ∙ then_accepts _ ((early_iff T (λ i h. (ok.each i h).modes) T.decider (decider_there T T.decider ok.decided)).1 ok.decided)

-- what passes has neither clash nor race, is not EARLY, and is handed on
pub whole_accepted : (T U : Table) → judge_whole T ≡ accepted U
    → (T ≡ U)
    × ((i j : ℕ) → i < j → j < nops T → Clash (op T i) (op T j) → ⊥)
    × ((i j : ℕ) → i < j → j < nops T → Race (op T i) (op T j) → ⊥)
    × (early_test T T.decider ≡ accepted tt)
whole_accepted T U e =
    let here = sym (whole_row T) ∙ e in
    let next = then_rest _ _ here in
    let last = then_rest _ _ next in
    let same : accepted T ≡ accepted U = then_rest _ _ last in (
      cc,
      (pairs_say clashes CLASH T says_clashes).0 (then_first _ _ here).1,
      (pairs_say races RACE T says_races).0 (then_first _ _ next).1,
      (then_first _ _ last).1,
    )

-- ---- one field

module _ (s : List ℕ) (at tag size wrong : ℕ) where
  -- the rows of tests that the two kinds of field are
  pub field_row : field_test s at tag size wrong ≡ (needed s at then header s at then due s at tag then sized s at size then complete s at size then ranged wrong at)
  unfolding field_test
  field_row = refl

  pub repeat_row : (left : ℕ)
      → repeat_test s at left tag size wrong
      ≡ (header s at then due s at tag then not_many at left then sized s at size then complete s at size then ranged wrong at)
  unfolding repeat_test
  repeat_row left = refl

  -- a value that passes is complete and in its range
  value_passed : (complete s at size then ranged wrong at) ≡ accepted tt → (at + 3 + size ≤ length s) × (wrong ≡ 0)
  unfolding complete
  value_passed e = (ltb-false _ _ (passed _ SHORT at 0 (then_first _ _ e).1), range_passed wrong at (then_rest _ _ e))

  -- likewise a whole field
  pub field_passed : field_test s at tag size wrong ≡ accepted tt → (at + 3 + size ≤ length s) × (wrong ≡ 0)
  field_passed e = value_passed (then_rest _ _ (then_rest _ _ (then_rest _ _ (then_rest _ _ (sym field_row ∙ e)))))

  -- and a repeated field that passes was allowed to come
  pub repeat_passed : (left : ℕ) → repeat_test s at left tag size wrong ≡ accepted tt → (eqb left 0 ≡ false) × (at + 3 + size ≤ length s) × (wrong ≡ 0)
  unfolding not_many
  repeat_passed left e =
      let from = then_rest _ _ (then_rest _ _ (sym (repeat_row left) ∙ e)) in
      let (full, fine) = value_passed (then_rest _ _ (then_rest _ _ from)) in
      (passed _ MANY at 0 (then_first _ _ from).1, full, fine)

-- ---- what comes repeatedly

-- at most `left` of them, and each passes
pub record Passing {A : Type 0} (wrong : A → ℕ) (none : A) (left : ℕ) (xs : List A) : Type 0 where
  pub few : length xs ≤ left
  pub each : (i : ℕ) → i < length xs → wrong (get_or xs i none) ≡ 0

-- a fact that follows on both sides of a test
pub both : {A X : Type 0} (b : Bool) {u v w : A} → cond b u v ≡ w → (b ≡ true → u ≡ w → X) → (b ≡ false → v ≡ w → X) → X
both true e f g = f refl e
both false e f g = g refl e

module _ {A : Type 0} (wrong : A → ℕ) (none : A) where
  passing_none : (left : ℕ) → Passing wrong none left []
  passing_none left = record { few = omega arith; each = λ i h. absurd (omega (arith, h)) }

  -- one more in front, which passes
  passing_more : {left : ℕ} {x : A} {xs : List A} → wrong x ≡ 0 → Passing wrong none left xs → Passing wrong none (suc left) (x ∷ xs)
  passing_more {left} {x} {xs} fine p = record { few = omega arith; each = at }
    where
      at : (i : ℕ) → i < length (x ∷ xs) → wrong (get_or (x ∷ xs) i none) ≡ 0
      at zero h = fine
      at (suc i) h = p.each i (omega arith)

-- behind the last of them they end, inside the input if they begin there
pub record Ended (ends : List ℕ → ℕ → Bool) (s : List ℕ) (at end : ℕ) : Type 0 where
  pub done : ends s end ≡ true
  pub inside : at ≤ length s → end ≤ length s

-- fields of one size
pub place_even : (unit : ℕ) (s : List ℕ) (at i : ℕ) → place_from (λ s at. unit) s at i ≡ at + (3 + unit) * i
unfolding place_from
place_even unit s at zero = omega arith
place_even unit s at (suc i) = place_even unit s (at + 3 + unit) i ∙ omega arith

module _ {A : Type 0} (ends : List ℕ → ℕ → Bool) (tag : ℕ) (size wrong : List ℕ → ℕ → ℕ) (value : List ℕ → ℕ → A) (s : List ℕ) where
  -- the tests at one place, where no more may come and where one may
  pub fields_end : (at : ℕ)
      → fields_from ends tag size wrong value s zero at
      ≡ cond (ends s at) (accepted []) (repeat_test s at 0 tag (size s at) (wrong s at) then accepted [])
  unfolding fields_from
  fields_end at = refl

  pub fields_next : (left at : ℕ)
      → fields_from ends tag size wrong value s (suc left) at
      ≡ cond (ends s at) (accepted [])
      (repeat_test s at (suc left) tag (size s at) (wrong s at) then more (value s at) (fields_from ends tag size wrong value s left (at + 3 + size s at)))
  unfolding fields_from
  fields_next left at = refl

  -- what holds of none where they end, and of one more in front that passes, holds of all that are accepted
  pub fields_all : (P : ℕ → ℕ → List A → Type 0)
      → ((left at : ℕ) → ends s at ≡ true → P left at [])
      → ((left at : ℕ) (xs : List A) → repeat_test s at (suc left) tag (size s at) (wrong s at) ≡ accepted tt → P left (at + 3 + size s at) xs
      → P (suc left) at (value s at ∷ xs))
      → (left at : ℕ) (xs : List A) → fields_from ends tag size wrong value s left at ≡ accepted xs → P left at xs
  fields_all P none one zero at xs e =
      both (ends s at) (sym (fields_end at) ∙ e)
      (λ b x. let same : [] ≡ xs = cc in subst (λ (ys : List A). P 0 at ys) same (none 0 at b))
      (λ b x. clash_bool refl (repeat_passed s at tag (size s at) _ 0 (then_first _ _ x).1).0)
  fields_all P none one (suc left) at xs e =
      both (ends s at) (sym (fields_next left at) ∙ e)
      (λ b x. let same : [] ≡ xs = cc in subst (λ (ys : List A). P (suc left) at ys) same (none (suc left) at b))
      (λ b x.
      let (ys, rest, whole) = more_first (value s at) _ (then_rest _ _ x) in
      subst (λ (zs : List A). P (suc left) at zs) (sym whole)
      (one left at ys (then_first _ _ x).1 (fields_all P none one left (at + 3 + size s at) ys rest)))

  -- they are few, and each passes, as the test of its place says
  pub fields_passing : (own : A → ℕ) → ((at : ℕ) → wrong s at ≡ 0 → own (value s at) ≡ 0)
      → (none : A) (left at : ℕ) (xs : List A) → fields_from ends tag size wrong value s left at ≡ accepted xs → Passing own none left xs
  fields_passing own fine none =
      fields_all (λ left at xs. Passing own none left xs)
      (λ left at e. passing_none own none left)
      (λ left at xs e p. passing_more own none (fine at (repeat_passed s at tag (size s at) _ (suc left) e).2) p)

  -- each has its value from its own place, and passes there
  pub fields_values : (none : A) (left at : ℕ) (xs : List A) → fields_from ends tag size wrong value s left at ≡ accepted xs
      → (i : ℕ) → i < length xs → (get_or xs i none ≡ value s (place_from size s at i)) × (wrong s (place_from size s at i) ≡ 0)
  unfolding place_from
  fields_values none =
      fields_all (λ left at xs. (i : ℕ) → i < length xs → (get_or xs i none ≡ value s (place_from size s at i)) × (wrong s (place_from size s at i) ≡ 0))
      (λ left at e i h. absurd (omega (arith, h)))
      (λ left at xs e p. one at xs (repeat_passed s at tag (size s at) _ (suc left) e).2 p)
    where
      one : (at : ℕ) (xs : List A) → wrong s at ≡ 0
          → ((i : ℕ) → i < length xs → (get_or xs i none ≡ value s (place_from size s (at + 3 + size s at) i)) × (wrong s (place_from size s (at + 3 + size s at) i) ≡ 0))
          → (i : ℕ) → i < length (value s at ∷ xs) → (get_or (value s at ∷ xs) i none ≡ value s (place_from size s at i)) × (wrong s (place_from size s at i) ≡ 0)
      one at xs fine p zero h = (refl, fine)
      one at xs fine p (suc i) h = p i (omega arith)

  -- and they end
  pub fields_ended : (left at : ℕ) (xs : List A) → fields_from ends tag size wrong value s left at ≡ accepted xs → Ended ends s at (place_from size s at (length xs))
  unfolding place_from
  fields_ended =
      fields_all (λ left at xs. Ended ends s at (place_from size s at (length xs)))
      (λ left at e. record { done = e; inside = λ h. h })
      (λ left at xs e p. record { done = p.done; inside = λ h. p.inside (repeat_passed s at tag (size s at) _ (suc left) e).1 })

-- ---- the whole table

-- the length and the counts in their ranges
pub says_len : (p : ℕ) → (len_wrong p ≡ 0) ↔ ((1 ≤ p) × (p ≤ 1000))
unfolding len_wrong All
says_len p =
    let none = none_wrong (len_ranges p) in
    let both = says_and _ _ (says_leb 1 p) (says_leb p 1000) in
    (λ e. both.0 (none.0 e).0, λ x. none.1 (both.1 x, tt))

pub says_counts : (boards cells modes : ℕ)
    → (counts_wrong boards cells modes ≡ 0) ↔ ((1 ≤ boards) × ((boards ≤ 16) × ((cells ≤ 32) × ((1 ≤ modes) × (modes ≤ 32)))))
unfolding counts_wrong All
says_counts boards cells modes =
    let none = none_wrong (count_ranges boards cells modes) in
    let few = says_and _ _ (says_leb 1 boards) (says_leb boards 16) in
    let some = says_and _ _ (says_leb 1 modes) (says_leb modes 32) in (
      λ e.
          let (b, (c, (m, _))) = none.0 e in
          let (low, high) = few.0 b in
          (low, (high, ((says_leb cells 32).0 c, some.0 m))),
      λ x. let (low, (high, (c, m))) = x in none.1 (few.1 (low, high), ((says_leb cells 32).1 c, (some.1 m, tt))),
    )

-- what stands before the operations is in its ranges
pub record HeadOk (H : Table) : Type 0 where
  pub len : len_wrong H.len ≡ 0
  pub counts : counts_wrong H.boards H.cells H.modes ≡ 0
  pub words : length H.follow ≡ H.modes
  pub sets : sets_wrong H.modes (H.first ∷ H.follow) ≡ 0

-- a decider in its range is one of n operations
pub says_decider : (n : ℕ) (who : Decider) → (decider_wrong n who ≡ 0) ↔ ((d : ℕ) → who ≡ decides d → d < n)
unfolding decider_wrong All
says_decider n nobody = (λ e d x. let z : ◌≡◌ {A = ℕ} 0 1 = cc in absurd (omega arith), λ x. decider_none n)
says_decider n (decides i) = (
  λ e d x. let same : i ≡ d = cc in omega (arith, (says_ltb i n).0 ((none_wrong (decider_ranges n (decides i))).0 e).0),
  λ x. (none_wrong (decider_ranges n (decides i))).1 ((says_ltb i n).1 (x i refl), tt),
)

-- the ranges of an operation go by the head alone
pub head_wrong : (H : Table) (os : List Op) (who : Decider) (held : Bool) (o : Op) → op_wrong (with_decider (with_ops H os) who) held o ≡ op_wrong H held o
unfolding op_wrong
head_wrong H os who false o = refl
head_wrong H os who true o = refl

-- such a head with operations and a decider that pass is accepted where the judgement of the whole accepts
whole_ok : (H : Table) (os : List Op) (who : Decider) (T : Table) → HeadOk H → 0 < length os → Passing (step_wrong H) no_op 32 os
    → decider_wrong (length os) who ≡ 0 → judge_whole (with_decider (with_ops H os) who) ≡ accepted T → Accepted T
whole_ok H os who T head some ops decider e =
    let (same, no_clash, no_race, early) = whole_accepted (with_decider (with_ops H os) who) T e in
    let (len_low, len_high) = (says_len H.len).0 head.len in
    let (boards_low, (boards_high, (cells_high, (modes_low, modes_high)))) =
    (says_counts H.boards H.cells H.modes).0 head.counts
    in
    let sets = (says_sets H.modes (H.first ∷ H.follow)).0 head.sets in
    subst (λ (U : Table). Accepted U) same
    (record {
      len_low = len_low;
      len_high = len_high;
      boards_low = boards_low;
      boards_high = boards_high;
      cells_high = cells_high;
      modes_low = modes_low;
      modes_high = modes_high;
      ops_low = some;
      ops_high = ops.few;
      firsts = sets 0 (omega arith);
      words = head.words;
      follows = λ a h. sets (suc a) (omega (arith, head.words));
      each = each;
      no_clash = no_clash;
      no_race = no_race;
      decided =
          (early_iff (with_decider (with_ops H os) who) (λ i h. (each i h).modes) who ((says_decider (length os) who).0 decider)).0 early;
    })
  where
    each : (i : ℕ) → i < length os → OpOk (with_decider (with_ops H os) who) (get_or os i no_op)
    each i h = op_passed (with_decider (with_ops H os) who) (get_or os i no_op) (head_wrong H os who _ _ ∙ ops.each i h)

-- ---- where the operations end

-- how many bytes they have: of none, and with one more in front
pub op_width_lem : (o : Op) → length (op_bytes o) ≡ op_width o
unfolding op_bytes
op_width_lem o = go (settles o)
  where
    go : (held : Bool) → length (op_form held o) ≡ 3 + op_size held
    go false = refl
    go true = refl

pub size_none : ops_size [] ≡ 0
unfolding ops_size
size_none = refl

pub size_more : (o : Op) (os : List Op) → ops_size (o ∷ os) ≡ op_width o + ops_size os
unfolding ops_size joined
size_more o os = length-append (op_bytes o) (joined op_bytes os) ∙ ap (λ (n : ℕ). n + length (joined op_bytes os)) (op_width_lem o)

pub form_least : (held : Bool) → 18 ≤ op_size held
form_least false = omega arith
form_least true = omega arith

pub form_most : (held : Bool) → op_size held ≤ 20
form_most false = omega arith
form_most true = omega arith

pub size_most : (os : List Op) → ops_size os ≤ 23 * length os
size_most [] = omega (arith, size_none)
size_most (o ∷ os) = omega (arith, size_more o os, form_most (settles o), size_most os)

module _ (T : Table) (s : List ℕ) (at : ℕ) where
  says_done : Says (ops_done T s at) ((length s ≤ at) ⊎ ((ops_place T.modes < at) × (num8 s at ≡ 5)))
  unfolding ops_done
  says_done = says_or _ _ (says_leb (length s) at) (says_and _ _ (says_ltb (ops_place T.modes) at) (says_eqb (num8 s at) 5))

  -- at the end of the input; at a field 05; not at another, nor where the first is due
  pub done_end : length s ≤ at → ops_done T s at ≡ true
  done_end h = says_done.1 (inl h)

  pub done_05 : ops_place T.modes < at → num8 s at ≡ 5 → ops_done T s at ≡ true
  done_05 h e = says_done.1 (inr (h, e))

  pub done_not : at < length s → (ops_place T.modes < at → num8 s at ≡ 5 → ⊥) → ops_done T s at ≡ false
  done_not h n = (says_false _ says_done).1 go
    where
      go : (length s ≤ at) ⊎ ((ops_place T.modes < at) × (num8 s at ≡ 5)) → ⊥
      go (inl x) = omega arith
      go (inr x) = n x.0 x.1

  -- so something stands where they are done before the end
  pub done_is : ops_done T s at ≡ true → at < length s → num8 s at ≡ 5
  done_is e h = go (says_done.0 e)
    where
      go : (length s ≤ at) ⊎ ((ops_place T.modes < at) × (num8 s at ≡ 5)) → num8 s at ≡ 5
      go (inl x) = absurd (omega arith)
      go (inr x) = x.1

-- ---- a table's bytes

-- as many words as were asked for
pub length_words : (s : List ℕ) (at n : ℕ) → length (words s at n) ≡ n
unfolding words
length_words s at zero = refl
length_words s at (suc n) = ap suc (length_words s (at + 4) n)

module _ (s : List ℕ) where
  -- the rows of tests that the judgement of the head and the whole judgement are
  pub head_row : head_test s
      ≡ (field_test s 0 1 2 (len_wrong (head_of s).len)
      then field_test s 5 2 3 (counts_wrong (head_of s).boards (head_of s).cells (head_of s).modes)
      then field_test s 11 3 (4 + 4 * (head_of s).modes)
      (sets_wrong (head_of s).modes ((head_of s).first ∷ (head_of s).follow))
      then needed s (ops_place (head_of s).modes))
  unfolding head_test
  head_row = refl

  pub judge_row : judge s
      ≡ (head_test s
      then onwards (ops_from (head_of s) s 32 (ops_place (head_of s).modes)) (λ os. judge_behind s (with_ops (head_of s) os)))
  unfolding judge
  judge_row = refl

  -- and those that come behind the operations
  pub behind_row : (T : Table)
      → judge_behind s T ≡ (decider_test s (ops_end T) (nops T) then judge_whole (with_decider T (decider_at s (ops_end T))))
  unfolding judge_behind
  behind_row T = refl

  pub decider_row : (at n : ℕ)
      → decider_test s at n
      ≡ cond (leb (length s) at) (accepted tt) (field_test s at 5 1 (decider_wrong n (decider_at s at)) then nothing_due s (at + 4))
  unfolding decider_test
  decider_row at n = refl

  pub nothing_row : (at : ℕ) → nothing_due s at ≡ cond (leb (length s) at) (accepted tt) (header s at then refused ORDER at 0)
  unfolding nothing_due
  nothing_row at = refl

  -- a head that passes is in its ranges, and something comes behind it
  pub head_ok : head_test s ≡ accepted tt → HeadOk (head_of s) × (ops_place (head_of s).modes < length s)
  unfolding needed head_of
  head_ok e =
      let e0 = sym head_row ∙ e in
      let e1 = then_rest _ _ e0 in
      let e2 = then_rest _ _ e1 in (
        record {
          len = (field_passed s 0 1 2 _ (then_first _ _ e0).1).1;
          counts = (field_passed s 5 2 3 _ (then_first _ _ e1).1).1;
          words = length_words s 18 _;
          sets = (field_passed s 11 3 _ _ (then_first _ _ e2).1).1;
        },
        leb-false _ _ (passed _ ORDER _ 0 (then_rest _ _ e2)),
      )

  -- operations that are accepted
  pub ops_passing : (H : Table) (at : ℕ) (os : List Op) → ops_from H s 32 at ≡ accepted os → Passing (step_wrong H) no_op 32 os
  unfolding ops_from
  ops_passing H =
      fields_passing (ops_done H) 4 size_at (wrong_at H) op_at s (step_wrong H) (λ at e. own_wrong H (held_at s at) (op_at s at) (plain_at s at) e) no_op 32

  -- what they pass over is what they are written in
  pub ops_place_lem : (H : Table) (at : ℕ) (os : List Op) → ops_from H s 32 at ≡ accepted os → place_from size_at s at (length os) ≡ at + ops_size os
  unfolding ops_from place_from
  ops_place_lem H =
      fields_all (ops_done H) 4 size_at (wrong_at H) op_at s (λ left at os. place_from size_at s at (length os) ≡ at + ops_size os)
      (λ left at e. omega (arith, size_none))
      (λ left at os e p.
      let form = own_form H (held_at s at) (op_at s at) (plain_at s at) (repeat_passed s at 4 (size_at s at) _ (suc left) e).2 in
      p ∙ omega (arith, size_more (op_at s at) os, ap op_size form)) 32

  pub ops_ended : (H : Table) (at : ℕ) (os : List Op) → ops_from H s 32 at ≡ accepted os → Ended (ops_done H) s at (at + ops_size os)
  unfolding ops_from
  ops_ended H at os e =
      subst (λ (end : ℕ). Ended (ops_done H) s at end) (ops_place_lem H at os e) (fields_ended (ops_done H) 4 size_at (wrong_at H) op_at s 32 at os e)

  -- the operations do not end where they begin, if something comes there
  ops_begun : (H : Table) → ops_place H.modes < length s → ops_done H s (ops_place H.modes) ≡ true → ⊥
  ops_begun H some e = clash_bool e (done_not H s (ops_place H.modes) some (λ h _. omega arith))

  -- so there is one at least
  pub ops_some : (H : Table) (os : List Op) → ops_place H.modes < length s → ops_from H s 32 (ops_place H.modes) ≡ accepted os → 0 < length os
  ops_some H [] some e =
      let here : ops_place H.modes + ops_size [] ≡ ops_place H.modes = omega (arith, size_none) in
      absurd (ops_begun H some (subst (λ (k : ℕ). ops_done H s k ≡ true) here (ops_ended H _ [] e).done))
  ops_some H (o ∷ os) some e = omega arith

  -- nothing comes where nothing is due
  pub nothing_passed : (at : ℕ) → nothing_due s at ≡ accepted tt → length s ≤ at
  nothing_passed at e =
      both (leb (length s) at) (sym (nothing_row at) ∙ e)
      (λ b _. leb-true (length s) at b)
      (λ _ x. never_refused (then_rest (header s at) _ x))

  -- who decides is in range, and the input ends behind
  pub decider_passed : (at n : ℕ) → decider_test s at n ≡ accepted tt → at ≤ length s
      → (decider_wrong n (decider_at s at) ≡ 0) × (length s ≡ at + length (decider_bytes (decider_at s at)))
  decider_passed at n e inside =
      both (leb (length s) at) (sym (decider_row at n) ∙ e)
      (λ b _. let h = leb-true (length s) at b in rw b (decider_none n, omega arith))
      (λ b x.
      let (whole, fine) = field_passed s at 5 1 _ (then_first _ _ x).1 in
      let last = nothing_passed (at + 4) (then_rest _ _ x) in
      (fine, rw b (omega arith)))

-- what the bytes of an accepted table consist of
pub record Parts (s : List ℕ) (T : Table) : Type 0 where
  pub head : HeadOk (head_of s)
  pub place : ops_place (head_of s).modes < length s
  pub ops : List Op
  pub come : ops_from (head_of s) s 32 (ops_place (head_of s).modes) ≡ accepted ops
  pub decider : decider_test s (ops_end (with_ops (head_of s) ops)) (length ops) ≡ accepted tt
  pub whole : judge_whole (with_decider (with_ops (head_of s) ops) (decider_at s (ops_end (with_ops (head_of s) ops)))) ≡ accepted T

-- its operations end inside the input
pub parts_inside : (s : List ℕ) (T : Table) (p : Parts s T) → ops_end (with_ops (head_of s) p.ops) ≤ length s
parts_inside s T p = omega (arith, p.place, (ops_ended s (head_of s) _ p.ops p.come).inside (omega (arith, p.place)))

-- what the judge accepts has such parts
pub judge_parts : (s : List ℕ) (T : Table) → judge s ≡ accepted T → Parts s T
judge_parts s T e =
    let e0 = sym (judge_row s) ∙ e in
    let (head, place) = head_ok s (then_first _ _ e0).1 in
    let (os, come, rest) = onwards_first _ _ (then_rest _ _ e0) in
    let e1 = sym (behind_row s (with_ops (head_of s) os)) ∙ rest in
    record { head = head; place = place; ops = os; come = come; decider = (then_first _ _ e1).1; whole = then_rest _ _ e1 }

-- what the judge accepts is an accepted table
pub judge_accepted : (s : List ℕ) (T : Table) → judge s ≡ accepted T → Accepted T
judge_accepted s T e =
    let p = judge_parts s T e in
    whole_ok (head_of s) p.ops _ T p.head
    (ops_some s (head_of s) p.ops p.place p.come)
    (ops_passing s (head_of s) _ p.ops p.come)
    (decider_passed s _ _ p.decider (parts_inside s T p)).0
    p.whole

-- ---- a table handed over as numbers

-- of operations that are accepted there are six numbers for each, and a mark and a hold
pub record Counted (ns hs : List ℕ) (os : List Op) : Type 0 where
  pub six : length ns ≡ length os * 6
  pub two : length hs ≡ length os * 2

none_counted : (ns hs : List ℕ) → none_left ns hs ≡ true → Counted ns hs []
none_counted ns hs b = let none = eqb-true (length ns + length hs) 0 b in record { six = omega arith; two = omega arith }

pub numbers_full : (ns hs : List ℕ) (at : ℕ) → refuse_if (ltb (length ns) 6 || ltb (length hs) 2) SHORT at 0 ≡ accepted tt
    → (6 ≤ length ns) × (2 ≤ length hs)
numbers_full ns hs at e =
    let (a, b) = or_false _ _ (passed _ SHORT at 0 e) in (ltb-false (length ns) 6 a, ltb-false (length hs) 2 b)

module _ (T : Table) where
  -- the tests at one operation's numbers, where no more may come and where one may
  pub numbers_end : (ns hs : List ℕ) (at : ℕ) → ops_of_numbers T ns hs zero at ≡ cond (none_left ns hs) (accepted []) (not_many at 0 then accepted [])
  unfolding ops_of_numbers
  numbers_end ns hs at = refl

  pub numbers_next : (ns hs : List ℕ) (left at : ℕ)
      → ops_of_numbers T ns hs (suc left) at
      ≡ cond (none_left ns hs) (accepted [])
      (refuse_if (ltb (length ns) 6 || ltb (length hs) 2) SHORT at 0
      then ranged (op_wrong T (marked_of hs) (op_of_numbers ns hs)) at
      then more (op_of_numbers ns hs) (ops_of_numbers T (drop 6 ns) (drop 2 hs) left (at + 3 + op_size (marked_of hs))))
  unfolding ops_of_numbers
  numbers_next ns hs left at = refl

  pub numbers_passing : (ns hs : List ℕ) (left at : ℕ) (os : List Op) → ops_of_numbers T ns hs left at ≡ accepted os
      → Passing (step_wrong T) no_op left os × Counted ns hs os
  unfolding not_many
  numbers_passing ns hs zero at os e =
      both _ (sym (numbers_end ns hs at) ∙ e)
      (λ b x. let same : [] ≡ os = cc in rw (← same) (passing_none (step_wrong T) no_op 0, none_counted ns hs b))
      (λ b x. clash_bool refl (passed _ MANY at 0 (then_first _ _ x).1))
  numbers_passing ns hs (suc left) at os e =
      both _ (sym (numbers_next ns hs left at) ∙ e)
      (λ b x. let same : [] ≡ os = cc in rw (← same) (passing_none (step_wrong T) no_op (suc left), none_counted ns hs b))
      (λ b x.
      let full = numbers_full ns hs at (then_first _ _ x).1 in
      let from = then_rest _ _ x in
      let (us, come, whole) = more_first (op_of_numbers ns hs) _ (then_rest _ _ from) in
      let (p, c) = numbers_passing (drop 6 ns) (drop 2 hs) left _ us come in
      let fine = own_wrong T (marked_of hs) (op_of_numbers ns hs) (plain_handed ns hs) (range_passed _ at (then_first _ _ from).1) in
      rw whole (
        passing_more (step_wrong T) no_op fine p,
        record { six = omega (arith, length-drop 6 ns, c.six, full.0); two = omega (arith, length-drop 2 hs, c.two, full.1) },
      ))

-- and those that come behind the operations
pub judge_decider_row : (who : Decider) (T : Table)
    → judge_decider who T ≡ (ranged (decider_wrong (nops T) who) (ops_end T) then judge_whole (with_decider T who))
unfolding judge_decider
judge_decider_row who T = refl

module _ (N : Numbers) where
  -- the rows of tests that the judgement of the head and the whole judgement are
  pub numbers_row : numbers_test N
      ≡ (ranged (len_wrong N.len) 0
      then ranged (counts_wrong N.boards N.cells N.modes) 5
      then refuse_if (not (eqb (length N.follow) N.modes)) SIZE 11 0
      then ranged (sets_wrong N.modes (N.first ∷ N.follow)) 11
      then refuse_if (none_left N.ops N.holds) ORDER (ops_place N.modes) 0)
  unfolding numbers_test
  numbers_row = refl

  pub judge_numbers_row : judge_numbers N
      ≡ (numbers_test N
      then onwards (ops_of_numbers (head_of_numbers N) N.ops N.holds 32 (ops_place N.modes)) (λ os. judge_decider (decider_of N) (with_ops (head_of_numbers N) os)))
  unfolding judge_numbers
  judge_numbers_row = refl

  -- a head that passes is in its ranges, and operations come with it
  pub numbers_ok : numbers_test N ≡ accepted tt → HeadOk (head_of_numbers N) × (0 < length N.ops + length N.holds)
  numbers_ok e =
      let e0 = sym numbers_row ∙ e in
      let e1 = then_rest _ _ e0 in
      let e2 = then_rest _ _ e1 in
      let e3 = then_rest _ _ e2 in (
        record {
          len = range_passed _ 0 (then_first _ _ e0).1;
          counts = range_passed _ 5 (then_first _ _ e1).1;
          words = eqb-true _ _ (not-false _ (passed _ SIZE 11 0 (then_first _ _ e2).1));
          sets = range_passed _ 11 (then_first _ _ e3).1;
        },
        omega (arith, eqb-false (length N.ops + length N.holds) 0 (passed _ ORDER (ops_place N.modes) 0 (then_rest _ _ e3))),
      )

-- what the judge accepts of numbers is an accepted table
pub numbers_accepted : (N : Numbers) (T : Table) → judge_numbers N ≡ accepted T → Accepted T
numbers_accepted N T e =
    let e0 = sym (judge_numbers_row N) ∙ e in
    let (head, some) = numbers_ok N (then_first _ _ e0).1 in
    let (os, come, rest) = onwards_first _ _ (then_rest _ _ e0) in
    let e1 = sym (judge_decider_row (decider_of N) (with_ops (head_of_numbers N) os)) ∙ rest in
    let (passing, counted) = numbers_passing _ N.ops N.holds 32 _ os come in
    whole_ok (head_of_numbers N) os (decider_of N) T head (omega (arith, some, counted.six, counted.two)) passing (range_passed _ _ (then_first _ _ e1).1) (then_rest _ _ e1)
