-- The steps of writing a reply.
-- Assumes nothing.
use Rattle.std.specs.Prelude.{ℕ, ◌+◌, ◌*◌, ◌<◌, ◌≤◌, ◌≡◌, List, [], ◌∷◌, ◌++◌, length, get_or, take, drop}
use Rattle.std.proofs.Math.Path.{refl}
use Rattle.std.proofs.Common.{sym, ap, ◌∙◌, arith, add-one, take_all, take-suc}
use Rattle.std.proofs.Math.ListN.{length-map, get_or-map}
use Rattle.rules.specs.Table.{Op, Table, nops, no_op}
use Rattle.rules.specs.Rows.{Row, ticks, fold_at, reply_of}
use Rattle.rules.specs.Bytes.{be16, joined, row_bytes, reply_bytes}
use Rattle.theory.proofs.Bytes.{reply_length}
use Rattle.puts.specs.Puts.{stored}
use Rattle.puts.specs.PutLaws.{stored_turn, stored_then, stored_front}
use Rattle.replies.specs.Replies.{row_in}

module _ (T : Table) (q : ℕ) where
  -- the row of an operation, for the list of rows
  fold_op : Op → Row
  fold_op o = fold_at (ticks q) (ticks o.start)

  pub rows_length : length (reply_of T q).rows ≡ nops T
  unfolding reply_of
  rows_length = length-map T.ops _

  rows_at : (i : ℕ) → get_or (reply_of T q).rows i (fold_op no_op) ≡ row_in T q i
  unfolding reply_of fold_op
  rows_at i = get_or-map _ T.ops i no_op

  -- one row more
  pub rows_next : (i : ℕ) → i < nops T → take (i + 1) (reply_of T q).rows ≡ take i (reply_of T q).rows ++ (row_in T q i ∷ [])
  rows_next i h =
      rw (add-one, take-suc (reply_of T q).rows i (fold_op no_op) (omega (arith, rows_length)), rows_at i)

  pub rows_none : (out : List ℕ) → out ≡ stored out 5 (joined row_bytes (take 0 (reply_of T q).rows))
  unfolding stored joined
  rows_none out = refl

  pub rows_turn : (out : List ℕ) (i : ℕ) {mid end : List ℕ} → i < nops T → mid ≡ stored out 5 (joined row_bytes (take i (reply_of T q).rows))
      → end ≡ stored mid (5 + 7 * i) (row_bytes (row_in T q i)) → end ≡ stored out 5 (joined row_bytes (take (i + 1) (reply_of T q).rows))
  rows_turn out i {mid} h e f =
      stored_turn row_bytes 7 (λ r. refl) (reply_of T q).rows out 5 (fold_op no_op) i (omega (arith, rows_length)) e refl
      (f ∙ ap (λ (r : Row). stored mid (5 + 7 * i) (row_bytes r)) (sym (rows_at i)))

  pub rows_end : (i : ℕ) → nops T ≤ i → take i (reply_of T q).rows ≡ (reply_of T q).rows
  rows_end i h = take_all i (reply_of T q).rows (omega (arith, rows_length))

  -- the field of the period, and the rows behind it, as they are written
  reply_written : ((17 ∷ be16 2) ++ be16 q) ++ joined row_bytes (reply_of T q).rows ≡ reply_bytes (reply_of T q)
  unfolding reply_bytes reply_of
  reply_written = refl

  pub reply_front : (out : List ℕ) {one two end : List ℕ} → 5 + 7 * nops T ≤ length out → one ≡ stored out 0 (17 ∷ be16 2)
      → two ≡ stored one 3 (be16 q) → end ≡ stored two 5 (joined row_bytes (reply_of T q).rows)
      → end ≡ reply_bytes (reply_of T q) ++ drop (5 + 7 * nops T) out
  reply_front out {one} {two} h e f g =
      let long : length (reply_bytes (reply_of T q)) ≡ 5 + 7 * nops T = reply_length (reply_of T q) ∙ rw rows_length in
      let head : two ≡ stored out 0 ((17 ∷ be16 2) ++ be16 q) = stored_then out 0 (17 ∷ be16 2) (be16 q) e refl f in
      stored_then out 0 ((17 ∷ be16 2) ++ be16 q) (joined row_bytes (reply_of T q).rows) head refl g
      ∙ ap (stored out 0) reply_written
      ∙ stored_front out (reply_bytes (reply_of T q)) (omega arith)
      ∙ ap (λ (n : ℕ). reply_bytes (reply_of T q) ++ drop n out) long
