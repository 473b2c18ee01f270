-- Document 02, No. 12: an accepted table with its operations in another order, its boards and its modes renamed one to one is accepted, is right for
-- the same starts of its cycles, has the same period, and each folded row moves with its operation.
-- Assumes nothing.
use Prim.Native.Nat.{ℕ, zero, suc, ◌*◌, ◌<◌, ◌≤◌}
use mathlib.Core.Path.{◌≡◌, refl, sym, ap, subst, subst⁻¹, ◌∙◌}
use mathlib.Core.List.{List, [], ◌∷◌, map}
use mathlib.Core.Logic.{◌↔◌}
use native.Mathlib.Omega.{arith}
use lib.IntN.{pos, ◌-ℤ◌}
use lib.ListN.{length, get_or, length-map}
use lib.Seq.{ext_get_or}
use Rattle.rules.specs.Sets.{In}
use Rattle.rules.specs.Table.{Op, Decider, nobody, decides, Table, nops, no_op, op, followers, end_of, Decided, SetOf, OpOk, Accepted}
use Rattle.rules.specs.Runs.{BoardsRightAt, ValuesRightAt, RightAt, IsPeriod}
use Rattle.rules.specs.Gaps.{IsGap}
use Rattle.rules.specs.Rows.{Reply, ticks, fold_at, reply_of, margin}
use Rattle.rules.specs.Renamed.{Names, OneToOne, Below, InUse, following, Renamed, in_order, boards_by, modes_by, no_row, Moved}
use Rattle.theory.specs.Renamed.{found, OpAlike, Alike}
use Rattle.theory.proofs.Sets.{some_in, in_small}
use Rattle.theory.proofs.Period.{never_clash, never_race}
use Rattle.theory.proofs.OneToOne.{found_name, name_found, in_renamed, set_of_renamed, share_renamed}
use Rattle.theory.proofs.Replies.{folded}
use Rattle.theory.proofs.Alike.{turned, clash_alike, race_alike, decided_alike, alike_boards, alike_values, alike_right, alike_period, alike_gap}

-- a row of a table's reply, whatever stands past the last
row_of : (os : List Op) (q i : ℕ) → i < length os → get_or (map (folded q) os) i no_row ≡ folded q (get_or os i no_op)
row_of [] q i h = absurd (omega arith)
row_of (o ∷ os) q zero h = refl
row_of (o ∷ os) q (suc i) h = row_of os q i (omega arith)

module _ (by : Names) (S T : Table) (ok : Accepted S) (re : Renamed by S T) where
  -- ---- the two tables are alike, by maps that take back

  abbrev pub place_back : ℕ → ℕ
  place_back = found by.place (nops S)

  abbrev pub mode_back_of : ℕ → ℕ
  mode_back_of = found by.mode S.modes

  one_place : OneToOne (Below (nops S)) (Below (nops S)) by.place
  one_place = subst (λ (n : ℕ). OneToOne (Below (nops S)) (Below n) by.place) re.count re.places

  one_mode_lem : OneToOne (Below S.modes) (Below S.modes) by.mode
  one_mode_lem = subst (λ (n : ℕ). OneToOne (Below S.modes) (Below n) by.mode) re.modes re.numbers

  pub from_place : (u : ℕ) → u < nops T → (place_back u < nops S) × (by.place (place_back u) ≡ u)
  from_place u h = name_found (nops S) by.place one_place u (omega (arith, h, re.count))

  pub from_mode : (b : ℕ) → b < T.modes → (mode_back_of b < S.modes) × (by.mode (mode_back_of b) ≡ b)
  from_mode b h = name_found S.modes by.mode one_mode_lem b (omega (arith, h, re.modes))

  op_modes : (i : ℕ) → i < nops S → (a : ℕ) → In a (op S i).modes → a < S.modes
  op_modes i h a = in_small a S.modes (op S i).modes (ok.each i h).modes.small

  first_modes : (a : ℕ) → In a S.first → a < S.modes
  first_modes a = in_small a S.modes S.first ok.firsts.small

  follow_modes : (a : ℕ) → a < S.modes → (b : ℕ) → In b (followers S a) → b < S.modes
  follow_modes a h b = in_small b S.modes (followers S a) (ok.follows a h).small

  op_alike : (i : ℕ) → i < nops S → OpAlike S.modes by.mode (op S i) (op T (by.place i))
  op_alike i h =
      let o = re.each i h in
      record {
        start = sym o.start;
        dur = sym o.dur;
        hold = sym o.hold;
        reads = sym o.reads;
        writes = sym o.writes;
        modes = in_renamed (Below S.modes) T.modes by.mode re.numbers (op S i).modes (op T (by.place i)).modes (op_modes i h) o.modes;
      }

  pub renamed_alike : Alike S T by.place place_back by.mode mode_back_of
  renamed_alike =
      record {
        len = sym re.len;
        there = re.places.there;
        back = λ u h. (from_place u h).0;
        over = λ i h. found_name (nops S) by.place one_place i h;
        onto = λ u h. (from_place u h).1;
        each = op_alike;
        boards = λ i j a b.
            share_renamed (InUse S) (Below T.boards) by.board re.boards (op S i).boards (op T (by.place i)).boards (op S j).boards
            (op T (by.place j)).boards (λ c x. (i, a, x)) (λ c x. (j, b, x)) (re.each i a).boards (re.each j b).boards;
        mode_there = re.numbers.there;
        mode_back = λ b h. (from_mode b h).0;
        mode_over = λ a h. found_name S.modes by.mode one_mode_lem a h;
        mode_onto = λ b h. (from_mode b h).1;
        first = in_renamed (Below S.modes) T.modes by.mode re.numbers S.first T.first first_modes re.firsts;
        turns = λ a b x y.
            in_renamed (Below S.modes) T.modes by.mode re.numbers (followers S a) (followers T (by.mode a)) (follow_modes a x) (re.turns a x) b y;
      }

  -- ---- accepted

  op_ok : (i : ℕ) → i < nops S → OpOk T (op T (by.place i))
  op_ok i h =
      let o = ok.each i h in
      let p = re.each i h in
      record {
        lasts = omega (arith, o.lasts, p.dur);
        fits = omega (arith, o.fits, p.start, p.dur, p.hold, re.len);
        boards = set_of_renamed (InUse S) T.boards by.board re.boards (op S i).boards (op T (by.place i)).boards (λ b x. (i, h, x)) p.boards o.boards.some;
        reads = rw (p.reads, re.cells) o.reads;
        writes = rw (p.writes, re.cells) o.writes;
        modes = set_of_renamed (Below S.modes) T.modes by.mode re.numbers (op S i).modes (op T (by.place i)).modes (op_modes i h) p.modes o.modes.some;
      }

  each_ok : (u : ℕ) → u < nops T → OpOk T (op T u)
  each_ok u h = let (less, is) = from_place u h in subst (λ (k : ℕ). OpOk T (op T k)) is (op_ok (place_back u) less)

  -- some operation has a board, and it has a new name
  some_board : 1 ≤ T.boards
  some_board =
      let first : 0 < nops S = omega (arith, ok.ops_low) in
      let (b, x) = some_in (op S 0).boards (ok.each 0 first).boards.some in
      omega (arith, re.boards.there b (0, first, x))

  follows_ok : (b : ℕ) → b < T.modes → SetOf T.modes (followers T b)
  follows_ok b h =
      let (less, is) = from_mode b h in
      let a = mode_back_of b in
      subst (λ (k : ℕ). SetOf T.modes (followers T k)) is
      (set_of_renamed (Below S.modes) T.modes by.mode re.numbers (followers S a) (followers T (by.mode a)) (follow_modes a less) (re.turns a less) (ok.follows a less).some)

  back_alike : Alike T S place_back by.place mode_back_of by.mode
  back_alike = turned S T by.place place_back by.mode mode_back_of renamed_alike

  -- two operations of T come from two of S
  two_places : (u v : ℕ) → u < v → v < nops T → place_back u ≡ place_back v → ⊥
  two_places u v less h e =
      let a = (from_place u (omega arith)).1 in
      let b = (from_place v h).1 in
      omega (arith, ap by.place e)

  decided : (who : Decider) → Decided S who → Decided T (following by.place who)
  decided nobody x = x
  decided (decides d) x = decided_alike S T by.place place_back by.mode mode_back_of renamed_alike d x

  new_modes : (u : ℕ) → u < nops T → (m : ℕ) → In m (op T u).modes → m < T.modes
  new_modes u h m = in_small m T.modes (op T u).modes (each_ok u h).modes.small

  pub renamed_accepted : Accepted T
  renamed_accepted =
      record {
        len_low = omega (arith, ok.len_low, re.len);
        len_high = omega (arith, ok.len_high, re.len);
        boards_low = some_board;
        boards_high = re.boards_high;
        cells_high = omega (arith, ok.cells_high, re.cells);
        modes_low = omega (arith, ok.modes_low, re.modes);
        modes_high = omega (arith, ok.modes_high, re.modes);
        ops_low = omega (arith, ok.ops_low, re.count);
        ops_high = omega (arith, ok.ops_high, re.count);
        firsts = set_of_renamed (Below S.modes) T.modes by.mode re.numbers S.first T.first first_modes re.firsts ok.firsts.some;
        words = re.words ∙ ok.words ∙ sym re.modes;
        follows = follows_ok;
        each = each_ok;
        no_clash = λ u v less h x.
            let hu : u < nops T = omega arith in
            never_clash S ok (place_back u) (place_back v) (from_place u hu).0 (from_place v h).0 (two_places u v less h)
            (clash_alike T S place_back by.place mode_back_of by.mode back_alike u v hu h (new_modes u hu) x);
        no_race = λ u v less h x.
            let hu : u < nops T = omega arith in
            never_race S ok (place_back u) (place_back v) (from_place u hu).0 (from_place v h).0 (two_places u v less h)
            (race_alike T S place_back by.place mode_back_of by.mode back_alike u v hu h (new_modes u hu) x);
        decided = subst⁻¹ (λ (who : Decider). Decided T who) re.decider (decided S.decider ok.decided);
      }

  -- ---- right, whatever the dates at which the cycles start; and the period

  pub renamed_boards : (d : ℕ → ℕ) → BoardsRightAt S d ↔ BoardsRightAt T d
  renamed_boards = alike_boards S T by.place place_back by.mode mode_back_of ok renamed_accepted renamed_alike

  pub renamed_values : (d : ℕ → ℕ) → ValuesRightAt S d ↔ ValuesRightAt T d
  renamed_values = alike_values S T by.place place_back by.mode mode_back_of ok renamed_accepted renamed_alike

  pub renamed_right : (d : ℕ → ℕ) → RightAt S d ↔ RightAt T d
  renamed_right = alike_right S T by.place place_back by.mode mode_back_of ok renamed_accepted renamed_alike

  -- "leaves the period"
  pub renamed_period : (q : ℕ) → IsPeriod S q ↔ IsPeriod T q
  renamed_period q = (
    alike_period S T by.place place_back by.mode mode_back_of ok renamed_accepted renamed_alike q,
    alike_period T S place_back by.place mode_back_of by.mode renamed_accepted ok back_alike q,
  )

  -- document 02, No. 6: and the gap
  pub renamed_gap : (g : ℕ) → IsGap S g ↔ IsGap T g
  renamed_gap g = (
    alike_gap S T by.place place_back by.mode mode_back_of ok renamed_accepted renamed_alike g,
    alike_gap T S place_back by.place mode_back_of by.mode renamed_accepted ok back_alike g,
  )

  -- "and moves each folded row with its operation", at every q
  pub renamed_rows : (q : ℕ) → Moved by.place (reply_of S q) (reply_of T q)
  unfolding reply_of
  renamed_rows q =
      record {
        period = refl;
        count = length-map T.ops (folded q) ∙ re.count ∙ sym (length-map S.ops (folded q));
        places =
            subst⁻¹ (λ (n : ℕ). OneToOne (Below n) (Below (length (map (folded q) T.ops))) by.place) (length-map S.ops (folded q))
            (subst⁻¹ (λ (n : ℕ). OneToOne (Below (nops S)) (Below n) by.place) (length-map T.ops (folded q)) re.places);
        each = λ i h.
            let is_op : i < nops S = omega (arith, h, length-map S.ops (folded q)) in
            row_of T.ops q (by.place i) (re.places.there i is_op)
            ∙ ap (λ (t : ℕ). fold_at (ticks q) (ticks t)) (re.each i is_op).start
            ∙ sym (row_of S.ops q i is_op);
      }

  -- "The margin of operations i, j": of the operations where they stand now
  pub renamed_margin : (i j n q : ℕ) → i < nops S → j < nops S → margin T (by.place i) (by.place j) n q ≡ margin S i j n q
  unfolding margin
  renamed_margin i j n q hi hj =
      let end : end_of (op T (by.place i)) ≡ end_of (op S i) = omega (arith, (re.each i hi).start, (re.each i hi).dur) in
      ap (λ (e : ℕ). pos (n * q) -ℤ (pos e -ℤ pos (op T (by.place j)).start)) end
      ∙ ap (λ (t : ℕ). pos (n * q) -ℤ (pos (end_of (op S i)) -ℤ pos t)) (re.each j hj).start

-- ---- each of the three by itself

-- where the operations stay where they are, so do the rows
same_rows : (R U : Reply) → Moved (λ i. i) R U → U ≡ R
same_rows R U x =
    let rows = ext_get_or no_row U.rows R.rows x.count (λ i h. x.each i (omega (arith, h, x.count))) in
    λ k. record { period = x.period k; rows = rows k }

-- accepted, the same period and the same gap
pub record Kept (S T : Table) : Type 0 where
  pub accepted : Accepted T
  pub period : (q : ℕ) → IsPeriod S q ↔ IsPeriod T q
  pub gap : (g : ℕ) → IsGap S g ↔ IsGap T g

renamed_keeps : (by : Names) (S T : Table) → Accepted S → Renamed by S T → Kept S T
renamed_keeps by S T ok re =
    record { accepted = renamed_accepted by S T ok re; period = renamed_period by S T ok re; gap = renamed_gap by S T ok re }

module _ (f : ℕ → ℕ) (S T : Table) (ok : Accepted S) where
  -- "listing its operations in another order": "moves each folded row with its operation"
  pub order_kept : Renamed (in_order f) S T → Kept S T × ((q : ℕ) → Moved f (reply_of S q) (reply_of T q))
  order_kept re = (renamed_keeps (in_order f) S T ok re, renamed_rows (in_order f) S T ok re)

  -- "renaming its boards one to one": the same rows
  pub boards_kept : Renamed (boards_by f) S T → Kept S T × ((q : ℕ) → reply_of T q ≡ reply_of S q)
  boards_kept re = (
    renamed_keeps (boards_by f) S T ok re,
    λ q. same_rows (reply_of S q) (reply_of T q) (renamed_rows (boards_by f) S T ok re q),
  )

  -- "Mode numbers renamed one to one .. also leave the period and rows."
  pub modes_kept : Renamed (modes_by f) S T → Kept S T × ((q : ℕ) → reply_of T q ≡ reply_of S q)
  modes_kept re = (
    renamed_keeps (modes_by f) S T ok re,
    λ q. same_rows (reply_of S q) (reply_of T q) (renamed_rows (modes_by f) S T ok re q),
  )
