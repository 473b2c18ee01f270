-- Unfolding gives the starts back, and a reply is read back as it was written.
-- Assumes nothing.
use Prim.Native.Nat.{ℕ, ◌+◌, ◌*◌, ◌<◌, ◌≤◌}
use mathlib.Core.Path.{◌≡◌, refl, sym, ap, ◌∙◌}
use mathlib.Core.List.{List, [], ◌∷◌, ◌++◌, map}
use mathlib.Core.Logic.{◌↔◌}
use native.Mathlib.Nat.{div-add-mod', mod-lt, mul-le-mul_left}
use native.Mathlib.Omega.{arith}
use lib.Dec.{leb}
use lib.ListN.{length, get_or, take, length-map, get_or-map}
use borrow.Author.Tests.{lt-leb, leb-true}
use Rattle.rules.specs.Table.{Op, Table, no_op, op, Accepted}
use Rattle.rules.specs.Rows.{Ticks, Row, Reply, ticks, cycles, fold_at, unfold_at, reply_of, starts_of}
use Rattle.rules.specs.Verdicts.{accepted, ORDER, ◌then◌, onwards}
use Rattle.rules.specs.Bytes.{num16, row_bytes, reply_bytes, row_at}
use Rattle.rules.specs.Judge.{len_wrong, needed, field_test, at_end, row_ranges, row_wrong, rows_from, reply_test, judge_reply}
use Rattle.rules.specs.Bench.{All}
use Rattle.theory.proofs.Says.{says_leb, says_ltb}
use Rattle.theory.proofs.Verdicts.{passes, then_accepts, then_first, then_rest, onwards_accepts, onwards_first}
use Rattle.theory.proofs.Ranges.{none_wrong, ranged_yes}
use Rattle.theory.proofs.Judging.{field_passed, says_len, place_even, fields_values, fields_ended}
use Rattle.theory.proofs.Bytes.{two_bytes, past16, reply_length, field_whole, fields_accepted, Repeated, fields_back}

-- ---- fold and unfold

pub unfold_fold : (q t : ℕ) → unfold_at (ticks q) (fold_at (ticks q) (ticks t)) ≡ ticks t
unfold_fold q t = ap ticks (omega (arith, div-add-mod' t q))

-- the folded start is below the period
fold_below : (q t : ℕ) → 1 ≤ q → (fold_at (ticks q) (ticks t)).start.number < q
fold_below q t low = omega (arith, div-add-mod' t q, mod-lt t low)

-- the row of an operation
abbrev pub folded : ℕ → Op → Row
folded q o = fold_at (ticks q) (ticks o.start)

unfold_each : (q : ℕ) (os : List Op) → map (unfold_at (ticks q)) (map (folded q) os) ≡ map (λ (o : Op). ticks o.start) os
unfold_each q [] = refl
unfold_each q (o ∷ os) = cc (unfold_fold q o.start, unfold_each q os)

-- a table's reply unfolds to its starts
pub reply_starts : (T : Table) (q : ℕ) → starts_of (reply_of T q) ≡ map (λ (o : Op). ticks o.start) T.ops
unfolding starts_of reply_of
reply_starts T q = unfold_each q T.ops

-- ---- rows

-- the numbers of a row fit its field
record RowFits (r : Row) : Type 0 where
  start : r.start.number < 65536
  fst : r.fst.number < 65536

row_back : (r : Row) → RowFits r → (pre post : List ℕ) (n : ℕ) → n ≡ length pre → row_at (pre ++ (row_bytes r ++ post)) n ≡ r
row_back r h pre post n place =
    let s = row_bytes r ++ post in
    let start = past16 pre s (n + 3) 3 (omega arith) ∙ two_bytes r.start.number h.start in
    let fst = past16 pre s (n + 5) 5 (omega arith) ∙ two_bytes r.fst.number h.fst in
    λ i. record { start = ticks (start i); fst = cycles (fst i) }

row_repeated : Repeated 18 4 row_at row_bytes RowFits
row_repeated = record { width = λ r. refl; tagged = λ r post. refl; sized = λ r post. refl; back = row_back }

pub says_row : (q : Ticks) (r : Row) → (row_wrong q r ≡ 0) ↔ ((r.start.number < q.number) × ((unfold_at q r).number ≤ 999))
unfolding row_wrong All
says_row q r =
    let none = none_wrong (row_ranges q r) in
    let below = says_ltb r.start.number q.number in
    let near = says_leb (unfold_at q r).number 999 in
    (λ e. let (b, (n, _)) = none.0 e in (below.0 b, near.0 n), λ x. none.1 (below.1 x.0, (near.1 x.1, tt)))

-- a row in its ranges fits
row_fits : (q : Ticks) (r : Row) → 1 ≤ q.number → q.number ≤ 1000 → row_wrong q r ≡ 0 → RowFits r
row_fits q r low high h =
    let (below, near) = (says_row q r).0 h in
    record { start = omega arith; fst = omega (arith, mul-le-mul_left r.fst.number low) }

-- a start of an accepted table folds to a row in its ranges
fold_ok : (q t : ℕ) → 1 ≤ q → t ≤ 999 → row_wrong (ticks q) (fold_at (ticks q) (ticks t)) ≡ 0
fold_ok q t low h =
    (says_row (ticks q) (fold_at (ticks q) (ticks t))).1
    (fold_below q t low, omega (arith, ap (λ (x : Ticks). x.number) (unfold_fold q t)))

-- ---- a reply in its ranges is read back

module _ (R : Reply) (d : Row) (low : 1 ≤ R.period.number) (high : R.period.number ≤ 1000)
    (some : 1 ≤ length R.rows) (few : length R.rows ≤ 32)
    (each : (i : ℕ) → i < length R.rows → row_wrong R.period (get_or R.rows i d) ≡ 0) where
  period_back : num16 (reply_bytes R) 3 ≡ R.period.number
  unfolding reply_bytes
  period_back = two_bytes R.period.number (omega arith)

  reply_passes : reply_test (reply_bytes R) ≡ accepted tt
  unfolding reply_test reply_bytes needed
  reply_passes =
      let size = reply_length R in
      let field = field_whole (reply_bytes R) 0 17 2 (len_wrong (num16 (reply_bytes R) 3)) refl (omega arith) refl in
      then_accepts _ (field ∙ ranged_yes _ 0 (ap len_wrong period_back ∙ (says_len R.period.number).1 (low, high)))
      ∙ passes (leb (length (reply_bytes R)) 5) ORDER 5 0 (lt-leb (length (reply_bytes R)) 5 (omega arith))

  rows_back : rows_from R.period (reply_bytes R) 32 5 ≡ accepted R.rows
  unfolding rows_from reply_bytes
  rows_back =
      fields_back row_repeated d (row_wrong R.period) R.rows (take 5 (reply_bytes R)) 32 5 (omega arith)
      (λ i h. row_fits _ _ low high (each i h))
      ∙ fields_accepted d (λ r. 4) (row_wrong R.period) R.rows 32 5 few each

  reply_back : judge_reply (reply_bytes R) ≡ accepted R
  unfolding judge_reply
  reply_back =
      then_accepts _ reply_passes
      ∙ ap (λ (q : ℕ). onwards (rows_from (ticks q) (reply_bytes R) 32 5) (λ rs. accepted (record { period = ticks q; rows = rs }))) period_back
      ∙ onwards_accepts _ rows_back

-- a table's reply is read back
pub reply_read : (T : Table) → Accepted T → (q : ℕ) → 1 ≤ q → q ≤ T.len → judge_reply (reply_bytes (reply_of T q)) ≡ accepted (reply_of T q)
unfolding reply_of
reply_read T ok q low high =
    let count = length-map T.ops (folded q) in
    reply_back (reply_of T q) (folded q no_op) low (omega arith) (omega arith) (omega arith)
    (λ i h.
    ap (row_wrong (ticks q)) (get_or-map (folded q) T.ops i no_op)
    ∙ fold_ok q (op T i).start low (let o = ok.each i (omega arith) in omega arith))

-- ---- a reply that is accepted, as its bytes have it
pub record ReplyIn (s : List ℕ) (R : Reply) : Type 0 where
  pub period : R.period ≡ ticks (num16 s 3)
  pub low : 1 ≤ num16 s 3
  pub high : num16 s 3 ≤ 1000
  pub size : length s ≡ 5 + 7 * length R.rows
  pub row : (d : Row) (i : ℕ) → i < length R.rows → get_or R.rows i d ≡ row_at s (5 + 7 * i)

module _ (s : List ℕ) where
  -- the rows of tests that the judgement of a reply is
  pub reply_row : judge_reply s
      ≡ ((field_test s 0 17 2 (len_wrong (num16 s 3)) then needed s 5)
      then onwards (rows_from (ticks (num16 s 3)) s 32 5) (λ rs. accepted (record { period = ticks (num16 s 3); rows = rs })))
  unfolding judge_reply reply_test
  reply_row = refl

  rows_in : (rs : List Row) → rows_from (ticks (num16 s 3)) s 32 5 ≡ accepted rs → (1 ≤ num16 s 3) × (num16 s 3 ≤ 1000) → 5 ≤ length s
      → ReplyIn s (record { period = ticks (num16 s 3); rows = rs })
  unfolding rows_from
  rows_in rs come ranges long =
      let q = ticks (num16 s 3) in
      let ended = fields_ended at_end 18 (λ s at. 4) (λ s at. row_wrong q (row_at s at)) row_at s 32 5 rs come in
      let end = place_even 4 s 5 (length rs) in
      let row : (d : Row) (i : ℕ) → i < length rs → get_or rs i d ≡ row_at s (5 + 7 * i) =
      λ d i h. (fields_values at_end 18 (λ s at. 4) (λ s at. row_wrong q (row_at s at)) row_at s d 32 5 rs come i h).0 ∙ ap (row_at s) (place_even 4 s 5 i) in
      record {
        period = refl;
        low = ranges.0;
        high = ranges.1;
        size = omega (arith, leb-true (length s) _ ended.done, ended.inside long, end);
        row = row;
      }

  pub reply_in : (R : Reply) → judge_reply s ≡ accepted R → ReplyIn s R
  reply_in R e =
      let here = sym reply_row ∙ e in
      let test = (then_first (field_test s 0 17 2 (len_wrong (num16 s 3))) (needed s 5) (then_first _ _ here).1).1 in
      let (long, ok) = field_passed s 0 17 2 (len_wrong (num16 s 3)) test in
      let (rs, come, whole) = onwards_first (rows_from (ticks (num16 s 3)) s 32 5) _ (then_rest _ _ here) in
      let same : R ≡ record { period = ticks (num16 s 3); rows = rs } = cc in
      rw same (rows_in rs come ((says_len (num16 s 3)).0 ok) long)
