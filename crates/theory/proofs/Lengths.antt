-- The length of an accepted table's bytes, and that no verdict depends on bytes past 889; none on a reply on bytes past 232.
-- Assumes nothing.
use Prim.Native.Nat.{ℕ, zero, suc, ◌+◌, ◌-◌, ◌*◌, ◌<◌, ◌≤◌}
use mathlib.Core.Path.{◌≡◌, refl, sym, ap, subst, ◌∙◌}
use mathlib.Core.Bool.{Bool, true, false}
use mathlib.Core.List.{List, [], ◌∷◌}
use native.Mathlib.Omega.{arith}
use lib.Dec.{leb, ltb, eqb}
use lib.ListN.{length, get_or, take, replicate, length-take, length-replicate, get_or-replicate}
use lib.Seq.{get_or-take}
use borrow.Author.Tests.{eqb-false}
use Rattle.rules.specs.Sets.{Overlap}
use Rattle.rules.specs.Table.{Op, Decider, nobody, decides, Table, no_op, nops, op, held_to, SetOf, Always, Accepted}
use Rattle.rules.specs.Rows.{Row, ticks}
use Rattle.rules.specs.Verdicts.{Verdict, accepted, refused, MANY, CLASH, ◌then◌, onwards}
use Rattle.rules.specs.Bytes.{num8, num16, num32, words, op_size, decider_bytes, held_at, read_op, op_at, row_at, table_bytes, longest_table, farthest}
use Rattle.rules.specs.Judge.{needed, header, due, not_many, sized, complete, field_test, repeat_test, at_end, fields_from, len_wrong, counts_wrong, sets_wrong, op_wrong, decider_wrong, clashes, head_test, head_of, with_ops, ops_done, size_at, wrong_at, ops_from, ops_place, ops_size, ops_end, nothing_due, decider_at, decider_test, judge_behind, judge, row_wrong, rows_from, judge_reply}
use Rattle.rules.specs.Bench.{opn, held, one_mode}
use Rattle.theory.specs.Holds.{step_wrong}
use Rattle.theory.proofs.Says.{says_same, says_leb, says_ltb}
use Rattle.theory.proofs.Early.{full_iff}
use Rattle.theory.proofs.Ranges.{decider_none}
use Rattle.theory.proofs.Verdicts.{passed, then_refuses, then_same, onwards_same}
use Rattle.theory.proofs.Judging.{field_row, repeat_row, fields_end, fields_next, head_row, head_ok, judge_row, field_passed, says_counts, HeadOk, pairs_first, whole_row, whole_accepted, behind_row, decider_row, nothing_row, form_most, size_none, size_more, size_most, ops_passing, decider_passed, parts_inside, judge_parts, judge_accepted}
use Rattle.theory.proofs.Bytes.{table_length}
use Rattle.theory.proofs.Numbers.{ranges_written, write_read}
use Rattle.theory.proofs.Replies.{reply_row}

-- a table's bytes: 18, 4 for each mode, those of the operations, and those of the decider
pub table_size : (s : List ℕ) (T : Table) → judge s ≡ accepted T → length s ≡ 18 + 4 * T.modes + ops_size T.ops + length (decider_bytes T.decider)
table_size s T e =
    let p = judge_parts s T e in
    subst (λ (U : Table). length s ≡ 18 + 4 * U.modes + ops_size U.ops + length (decider_bytes U.decider)) (whole_accepted _ T p.whole).0
    (decider_passed s _ _ p.decider (parts_inside s T p)).1

decider_size : (who : Decider) → length (decider_bytes who) ≤ 4
decider_size nobody = omega arith
decider_size (decides d) = omega arith

-- "the longest table has 886 bytes, with the decider's field"
pub longest : (s : List ℕ) (T : Table) → judge s ≡ accepted T → length s ≤ longest_table
longest s T e = let ok = judge_accepted s T e in omega (arith, table_size s T e, size_most T.ops, decider_size T.decider)

-- ---- a table of that length is accepted: 32 modes, each follows each, and 32 operations, each in every mode on all boards in a tick of its own, with
-- a tick to settle behind it, of which the first decides
abbrev full : ℕ
full = 4294967295

full_set : SetOf 32 full
full_set = record { some = omega arith; small = omega arith }

abbrev in_tick : ℕ → Op
in_tick t = held (2 * t) 1 1 65535 full full full

in_ticks : ℕ → List Op
in_ticks zero = []
in_ticks (suc n) = in_tick n ∷ in_ticks n

in_ticks_length : (n : ℕ) → length (in_ticks n) ≡ n
unfolding in_ticks
in_ticks_length zero = refl
in_ticks_length (suc n) = ap suc (in_ticks_length n)

in_ticks_size : (n : ℕ) → ops_size (in_ticks n) ≡ 23 * n
unfolding in_ticks
in_ticks_size zero = size_none
in_ticks_size (suc n) = omega (arith, size_more (in_tick n) (in_ticks n), in_ticks_size n)

in_ticks_at : (n i : ℕ) → i < n → get_or (in_ticks n) i no_op ≡ in_tick (n - suc i)
unfolding in_ticks
in_ticks_at zero i h = absurd (omega arith)
in_ticks_at (suc n) zero h = ap in_tick (omega arith)
in_ticks_at (suc n) (suc i) h = in_ticks_at n i (omega arith) ∙ ap in_tick (omega arith)

abbrev largest : Table
largest =
    record {
      len = 1000;
      boards = 16;
      cells = 32;
      modes = 32;
      first = full;
      follow = replicate 32 full;
      ops = in_ticks 32;
      decider = decides 0;
    }

largest_op : (i : ℕ) → i < nops largest → op largest i ≡ in_tick (31 - i)
largest_op i h = in_ticks_at 32 i (omega (arith, in_ticks_length 32)) ∙ ap in_tick (omega arith)

-- two of them do not overlap
apart : (i j : ℕ) → i < j → j < nops largest
    → Overlap (op largest i).start (held_to (op largest i)) (op largest j).start (held_to (op largest j)) → ⊥
apart i j h k lap =
    let here = largest_op i (omega arith) in
    let there = largest_op j k in
    let lap' : Overlap (2 * (31 - i)) (2 * (31 - i) + 1 + 1) (2 * (31 - j)) (2 * (31 - j) + 1 + 1) = rw (here, there) at lap in
    omega (arith, in_ticks_length 32, lap'.1)

largest_always : (i : ℕ) → i < nops largest → Always largest (op largest i)
largest_always i h = rw (largest_op i h) ((full_iff 32 full (omega arith)).0 (omega arith))

largest_accepted : Accepted largest
largest_accepted =
    record {
      len_low = omega arith;
      len_high = omega arith;
      boards_low = omega arith;
      boards_high = omega arith;
      cells_high = omega arith;
      modes_low = omega arith;
      modes_high = omega arith;
      ops_low = omega (arith, in_ticks_length 32);
      ops_high = omega (arith, in_ticks_length 32);
      firsts = full_set;
      words = length-replicate {A = ℕ} 32 full;
      follows = λ a h. rw (get_or-replicate 32 a full 0 h) full_set;
      each =
          λ i h.
          rw (largest_op i h)
          (record {
            lasts = omega arith;
            fits = omega arith;
            boards = record { some = omega arith; small = omega arith };
            reads = omega arith;
            writes = omega arith;
            modes = full_set;
          });
      no_clash = λ i j h k x. apart i j h k x.lap;
      no_race = λ i j h k x. apart i j h k (omega (arith, x.lap.0), omega (arith, x.lap.1));
      decided =
          record {
            is_op = omega (arith, in_ticks_length 32);
            always = largest_always 0 (omega (arith, in_ticks_length 32));
            later = λ i h n. absurd (n (largest_always i h));
          };
    }

pub longest_reached : (s : List ℕ) × (T : Table) × (judge s ≡ accepted T) × (length s ≡ longest_table)
longest_reached = (
  table_bytes largest,
  largest,
  write_read largest largest_accepted,
  table_length largest ∙ omega (arith, length-replicate {A = ℕ} 32 full, in_ticks_size 32),
)

-- "K1's operation 32 times: refused 6 0 1"
abbrev k1_times : Table
k1_times = one_mode 5 1 0 (replicate 32 (opn 1 3 1 0 0 1))

times_head : HeadOk k1_times
unfolding len_wrong counts_wrong sets_wrong
times_head = record { len = refl; counts = refl; words = refl; sets = refl }

times_op : (i : ℕ) → i < 32 → step_wrong k1_times (op k1_times i) ≡ 0
unfolding op_wrong
times_op i h = rw (get_or-replicate 32 i (opn 1 3 1 0 0 1) no_op h)

pub clash_of_32 : judge (table_bytes k1_times) ≡ refused 6 0 1
unfolding clashes
clash_of_32 =
    ranges_written k1_times times_head (omega arith) (omega arith) (λ i h. times_op i h) (decider_none 32)
    ∙ whole_row k1_times
    ∙ then_refuses _
    ((pairs_first clashes CLASH k1_times 0 1).1
    (record {
      less = omega arith;
      within = omega arith;
      holds = refl;
      rows = λ k l h. absurd (omega arith);
      row = λ l h k. absurd (omega arith);
    }))

-- ---- an input and its first n bytes

-- counts in their ranges: 32 modes at most
pub modes_few : (H : Table) → counts_wrong H.boards H.cells H.modes ≡ 0 → H.modes ≤ 32
modes_few H e = ((says_counts H.boards H.cells H.modes).0 e).1.1.1.1

module _ (n : ℕ) (s : List ℕ) where
  -- whether the input ends at or before a place
  ends_near : (at : ℕ) → at < n → leb (length (take n s)) at ≡ leb (length s) at
  ends_near at h =
      says_same _ _ (says_leb (length (take n s)) at) (says_leb (length s) at)
      (λ x. omega (arith, length-take n s)) (λ x. omega (arith, length-take n s))

  -- whether it ends before a place
  short_near : (at : ℕ) → at ≤ n → ltb (length (take n s)) at ≡ ltb (length s) at
  short_near at h =
      says_same _ _ (says_ltb (length (take n s)) at) (says_ltb (length s) at)
      (λ x. omega (arith, length-take n s)) (λ x. omega (arith, length-take n s))

  -- the numbers at a place
  num8_near : (at : ℕ) → at + 1 ≤ n → num8 (take n s) at ≡ num8 s at
  num8_near at h = get_or-take n s at 0 (omega arith)

  num16_near : (at : ℕ) → at + 2 ≤ n → num16 (take n s) at ≡ num16 s at
  num16_near at h = cc (num8_near at (omega arith), num8_near (at + 1) (omega arith))

  num32_near : (at : ℕ) → at + 4 ≤ n → num32 (take n s) at ≡ num32 s at
  num32_near at h = cc (num16_near at (omega arith), num16_near (at + 2) (omega arith))

  -- the followers' words, and an operation
  words_near : (at m : ℕ) → at + m * 4 ≤ n → words (take n s) at m ≡ words s at m
  unfolding words
  words_near at zero h = refl
  words_near at (suc m) h = cc (num32_near at (omega arith), words_near (at + 4) m (omega arith))

  form_near : (at : ℕ) → at + 3 ≤ n → held_at (take n s) at ≡ held_at s at
  form_near at h = ap (λ (x : ℕ). eqb x 20) (num16_near (at + 1) (omega arith))

  numbers_near : (held : Bool) (at : ℕ) → at + 23 ≤ n → read_op held (take n s) at ≡ read_op held s at
  numbers_near false at h =
      cc (
        num16_near (at + 3) (omega arith),
        num16_near (at + 5) (omega arith),
        num16_near (at + 7) (omega arith),
        num32_near (at + 9) (omega arith),
        num32_near (at + 13) (omega arith),
        num32_near (at + 17) (omega arith),
      )
  numbers_near true at h =
      cc (
        num16_near (at + 3) (omega arith),
        num16_near (at + 5) (omega arith),
        num16_near (at + 7) (omega arith),
        num16_near (at + 9) (omega arith),
        num32_near (at + 11) (omega arith),
        num32_near (at + 15) (omega arith),
        num32_near (at + 19) (omega arith),
      )

  op_near : (at : ℕ) → at + 23 ≤ n → op_at (take n s) at ≡ op_at s at
  unfolding op_at
  op_near at h = ap (λ (held : Bool). read_op held (take n s) at) (form_near at (omega arith)) ∙ numbers_near (held_at s at) at h

  -- ---- the tests at a place that is low enough
  needed_near : (at : ℕ) → at < n → needed (take n s) at ≡ needed s at
  unfolding needed
  needed_near at h = rw (ends_near at h)

  header_near : (at : ℕ) → at + 3 ≤ n → header (take n s) at ≡ header s at
  unfolding header
  header_near at h = rw (short_near (at + 3) h)

  due_near : (at tag : ℕ) → at + 3 ≤ n → due (take n s) at tag ≡ due s at tag
  unfolding due
  due_near at tag h = rw (num8_near at (omega arith))

  sized_near : (at size : ℕ) → at + 3 ≤ n → sized (take n s) at size ≡ sized s at size
  unfolding sized
  sized_near at size h = rw (num16_near (at + 1) (omega arith))

  complete_near : (at size : ℕ) → at + 3 + size ≤ n → complete (take n s) at size ≡ complete s at size
  unfolding complete
  complete_near at size h = rw (short_near (at + 3 + size) h)

  -- a field that is there once, with its value
  field_near : (at tag size : ℕ) {fine wrong : ℕ} → at + 3 + size ≤ n → fine ≡ wrong → field_test (take n s) at tag size fine ≡ field_test s at tag size wrong
  field_near at tag size {fine} {wrong} h e =
      cc (
        field_row (take n s) at tag size fine,
        field_row s at tag size wrong,
        needed_near at (omega arith),
        header_near at (omega arith),
        due_near at tag (omega arith),
        sized_near at size (omega arith),
        complete_near at size h,
      )

  -- of a repeated field that may not come, the header alone is looked at
  repeat_near : (at left tag size : ℕ) {fine wrong : ℕ} → at + 3 ≤ n → (0 < left → (at + 3 + size ≤ n) × (fine ≡ wrong))
      → repeat_test (take n s) at left tag size fine ≡ repeat_test s at left tag size wrong
  unfolding not_many
  repeat_near at left tag size {fine} {wrong} h may =
      repeat_row (take n s) at tag size fine left
      ∙ then_same (header_near at h)
      (λ _ _. then_same (due_near at tag h)
      (λ _ _. then_same refl
      (λ _ e. let (full, same) = may (rest e) in cc (sized_near at size h, complete_near at size full, same))))
      ∙ sym (repeat_row s at tag size wrong left)
    where
      rest : {x : Unit {0}} → not_many at left ≡ accepted x → 0 < left
      rest e = omega (arith, eqb-false left 0 (passed _ MANY at 0 e))

  -- repeated fields, where there is room for all that may come, each of at most so many bytes, and for one header more
  module _ {A : Type 0} (ends : List ℕ → ℕ → Bool) (tag : ℕ) (size wrong : List ℕ → ℕ → ℕ) (value : List ℕ → ℕ → A) (most : ℕ)
      (alike : (at : ℕ) → at + 3 ≤ n → ends (take n s) at ≡ ends s at)
      (sizes : (at : ℕ) → at + 3 ≤ n → size (take n s) at ≡ size s at)
      (less : (at : ℕ) → size s at ≤ most)
      (ranges : (at : ℕ) → at + 3 + most ≤ n → wrong (take n s) at ≡ wrong s at)
      (same : (at : ℕ) → at + 3 + most ≤ n → value (take n s) at ≡ value s at) where
    -- the tests of one field
    test_near : (left at : ℕ) → at + 3 ≤ n → (0 < left → at + 3 + most ≤ n)
        → repeat_test (take n s) at left tag (size (take n s) at) (wrong (take n s) at) ≡ repeat_test s at left tag (size s at) (wrong s at)
    test_near left at h may =
        ap (λ (k : ℕ). repeat_test (take n s) at left tag k (wrong (take n s) at)) (sizes at h)
        ∙ repeat_near at left tag (size s at) h (λ m. (omega (arith, may m, less at), ranges at (may m)))

    fields_near : (left at : ℕ) → at + left * (3 + most) + 3 ≤ n
        → fields_from ends tag size wrong value (take n s) left at ≡ fields_from ends tag size wrong value s left at
    fields_near zero at h =
        cc (
          fields_end ends tag size wrong value (take n s) at,
          fields_end ends tag size wrong value s at,
          alike at (omega arith),
          test_near 0 at (omega arith) (λ h. absurd (omega arith)),
        )
    fields_near (suc left) at h =
        cc (
          fields_next ends tag size wrong value (take n s) left at,
          fields_next ends tag size wrong value s left at,
          alike at (omega arith),
          test_near (suc left) at (omega arith) (λ _. omega arith),
          same at (omega arith),
          sizes at (omega arith),
          fields_near left (at + 3 + size s at) (omega (arith, less at)),
        )

  -- the operations' fields: 32 of at most 23 bytes, and one header more
  done_near : (H : Table) (at : ℕ) → at + 3 ≤ n → ops_done H (take n s) at ≡ ops_done H s at
  unfolding ops_done
  done_near H at h = cc (ends_near at (omega arith), num8_near at (omega arith))

  ops_near : (H : Table) (at : ℕ) → at + 739 ≤ n → ops_from H (take n s) 32 at ≡ ops_from H s 32 at
  unfolding ops_from
  ops_near H at h =
      fields_near (ops_done H) 4 size_at (wrong_at H) op_at 20 (done_near H)
      (λ i k. ap op_size (form_near i k))
      (λ i. form_most (held_at s i))
      (λ i k. cc (form_near i (omega arith), op_near i (omega arith)))
      (λ i k. op_near i (omega arith))
      32 at (omega arith)

  -- the decider's field of 4 bytes, and one header more
  nothing_near : (at : ℕ) → at + 3 ≤ n → nothing_due (take n s) at ≡ nothing_due s at
  nothing_near at h = cc (nothing_row (take n s) at, nothing_row s at, ends_near at (omega arith), header_near at h)

  decider_at_near : (at : ℕ) → at + 4 ≤ n → decider_at (take n s) at ≡ decider_at s at
  decider_at_near at h = cc (ends_near at (omega arith), num8_near (at + 3) (omega arith))

  decider_near : (at m : ℕ) → at + 7 ≤ n → decider_test (take n s) at m ≡ decider_test s at m
  decider_near at m h =
      cc (
        decider_row (take n s) at m,
        decider_row s at m,
        ends_near at (omega arith),
        field_near at 5 1 (omega arith) (ap (decider_wrong m) (decider_at_near at (omega arith))),
        nothing_near (at + 4) (omega arith),
      )

  behind_near : (T : Table) → ops_end T + 7 ≤ n → judge_behind (take n s) T ≡ judge_behind s T
  behind_near T h = cc (behind_row (take n s) T, behind_row s T, decider_near (ops_end T) (nops T) h, decider_at_near (ops_end T) (omega arith))

  -- ---- a reply: its period, 32 rows of 7 bytes, and one header more
  row_near : (at : ℕ) → at + 7 ≤ n → row_at (take n s) at ≡ row_at s at
  row_near at h = cc (num16_near (at + 3) (omega arith), num16_near (at + 5) (omega arith))

  reply_front : 232 ≤ n → judge_reply (take n s) ≡ judge_reply s
  unfolding rows_from
  reply_front enough =
      let period : num16 (take n s) 3 ≡ num16 s 3 = num16_near 3 (omega arith) in
      let front : (field_test (take n s) 0 17 2 (len_wrong (num16 (take n s) 3)) then needed (take n s) 5) ≡ (field_test s 0 17 2 (len_wrong (num16 s 3)) then needed s 5) =
      cc (field_near 0 17 2 (omega arith) (ap len_wrong period), needed_near 5 (omega arith))
      in
      reply_row (take n s)
      ∙ then_same front
      (λ _ _.
      rw period
      (ap (λ (v : Verdict (List Row)). onwards v (λ rs. accepted (record { period = ticks (num16 s 3); rows = rs })))
      (fields_near at_end 18 (λ s at. 4) (λ t at. row_wrong (ticks (num16 s 3)) (row_at t at)) row_at 4 (λ i k. ends_near i (omega arith)) (λ i k. refl) (λ i. omega arith)
      (λ i k. ap (row_wrong (ticks (num16 s 3))) (row_near i (omega arith)))
      (λ i k. row_near i (omega arith)) 32 5 (omega arith))))
      ∙ sym (reply_row s)

  -- ---- the whole input
  module _ (enough : farthest ≤ n) where
    -- the ranges of the first two fields
    len_near : len_wrong (head_of (take n s)).len ≡ len_wrong (head_of s).len
    unfolding head_of
    len_near = cc (num16_near 3 (omega arith))

    counts_near : counts_wrong (head_of (take n s)).boards (head_of (take n s)).cells (head_of (take n s)).modes ≡ counts_wrong (head_of s).boards (head_of s).cells (head_of s).modes
    unfolding head_of
    counts_near = cc (num8_near 8 (omega arith), num8_near 9 (omega arith), num8_near 10 (omega arith))

    -- with 32 modes at most, what stands before the operations is near enough
    head_near : (head_of s).modes ≤ 32 → head_of (take n s) ≡ head_of s
    unfolding head_of
    head_near h =
        cc (
          num16_near 3 (omega arith),
          num8_near 8 (omega arith),
          num8_near 9 (omega arith),
          num8_near 10 (omega arith),
          num32_near 14 (omega arith),
          words_near 18 (num8 s 10) (omega arith),
        )

    -- the first two fields accepted, the number of modes is known, and with it where the rest stands
    head_test_near : head_test (take n s) ≡ head_test s
    head_test_near =
        head_row (take n s)
        ∙ then_same (field_near 0 1 2 (omega arith) len_near)
        (λ _ _. then_same (field_near 5 2 3 (omega arith) counts_near)
        (λ _ e.
        let few = modes_few (head_of s) (field_passed s 5 2 3 _ e).1 in
        rw (head_near few)
        (cc (field_near 11 3 (4 + 4 * (head_of s).modes) (omega arith) refl, needed_near (ops_place (head_of s).modes) (omega arith)))))
        ∙ sym (head_row s)

    -- the first n bytes have the verdict of the whole input, for every n from 889 on
    pub judge_front : judge (take n s) ≡ judge s
    judge_front =
        judge_row (take n s)
        ∙ then_same head_test_near
        (λ _ e.
        let few = modes_few (head_of s) (head_ok s e).0.counts in
        rw (head_near few)
        (ap (λ (v : Verdict (List Op)). onwards v (λ os. judge_behind (take n s) (with_ops (head_of s) os))) (ops_near (head_of s) (ops_place (head_of s).modes) (omega arith))
        ∙ onwards_same _ (λ os. judge_behind (take n s) (with_ops (head_of s) os)) (λ os. judge_behind s (with_ops (head_of s) os))
        (λ os come. behind_near (with_ops (head_of s) os) (omega (arith, few, size_most os, (ops_passing s (head_of s) _ os come).few)))))
        ∙ sym (judge_row s)

-- "no answer depends on bytes past 889"
pub judge_near : (s : List ℕ) → judge (take farthest s) ≡ judge s
judge_near s = judge_front farthest s (omega arith)

-- two inputs that differ only past byte 889 have one verdict
pub no_farther : (s t : List ℕ) → take farthest s ≡ take farthest t → judge s ≡ judge t
no_farther s t e = sym (judge_near s) ∙ ap judge e ∙ judge_near t

pub reply_no_farther : (s t : List ℕ) → take farthest s ≡ take farthest t → judge_reply s ≡ judge_reply t
reply_no_farther s t e = sym (reply_front farthest s (omega arith)) ∙ ap judge_reply e ∙ reply_front farthest t (omega arith)
