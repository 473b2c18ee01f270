-- The steps of writing the text, and what a text by value holds.
-- Assumes nothing.
use Rattle.std.specs.Prelude.{ℕ, zero, suc, ◌+◌, ◌-◌, ◌<◌, ◌≤◌, ◌≡◌, refl, List, [], ◌++◌, take, drop, replicate}
use Rattle.std.proofs.Math.Path.{sym, ap}
use Rattle.std.proofs.Common.{◌∙◌, arith, length-take-le}
use Rattle.std.proofs.Math.ListN.{length, length-append}
use Rattle.std.proofs.lemmas.List.{length-replicate}
use Rattle.rules.specs.Table.{Table, nops}
use Rattle.rules.specs.Rows.{Reply, reply_of}
use Rattle.rules.specs.Verdicts.{Verdict, accepted, refused, ROOM}
use Rattle.rules.specs.Text.{row_line, row_lines, period_line, refused_line, reply_text, told, text_of, longest_text}
use Rattle.theory.proofs.Text.{lines_none, lines_snoc, reply_text_lem}
use Rattle.fields.specs.declared.Refusal.{Refusal}
use Rattle.rules.specs.Answers.{put}
use Rattle.theory.proofs.Answering.{put_room, put_short}
use Rattle.fields.specs.Verdicts.{refusal_of, leaving}
use Rattle.fields.specs.RefusalLaws.{refusal_is}
use Rattle.table.specs.Tables.{padded}
use Rattle.table.specs.TableLaws.{take_padded}
use Rattle.puts.specs.PutLaws.{stored_front}
use Rattle.replies.specs.Replies.{row_in}
use Rattle.replies.specs.ReplyLaws.{rows_length, rows_next}
use Rattle.lines.specs.Lines.{Puts}
use Rattle.lines.specs.LineLaws.{puts_then, copy_none}
use Rattle.text.specs.declared.Text.{Text}
use Rattle.text.specs.Texts.{text_in}

-- ---- the lines of the rows, one after the other

module _ (T : Table) (q : ℕ) where
  -- one row more
  lines_more : (i : ℕ) → i < nops T → row_lines 0 (take (i + 1) (reply_of T q).rows) ≡ row_lines 0 (take i (reply_of T q).rows) ++ row_line i (row_in T q i)
  lines_more i h =
      let rows = take i (reply_of T q).rows in
      let place : i ≡ 0 + length rows = omega (arith, length-take-le i (reply_of T q).rows (omega (arith, rows_length T q))) in
      ap (row_lines 0) (rows_next T q i h) ∙ lines_snoc row_line rows 0 i (row_in T q i) place

  module _ (out : List ℕ) (at : ℕ) where
    pub row-lines-none : Puts out out at at (row_lines 0 (take 0 (reply_of T q).rows))
    row-lines-none = rw (lines_none row_line 0) (copy_none out at [], omega arith)

    pub lines_turn : (i : ℕ) {mid end : List ℕ} {m n : ℕ} → i < nops T → Puts out mid at m (row_lines 0 (take i (reply_of T q).rows))
        → Puts mid end m n (row_line i (row_in T q i)) → Puts out end at n (row_lines 0 (take (i + 1) (reply_of T q).rows))
    lines_turn i h a b = rw (lines_more i h) (puts_then out at (row_lines 0 (take i (reply_of T q).rows)) (row_line i (row_in T q i)) a b)

  pub reply_put : (out : List ℕ) {mid end : List ℕ} {m n : ℕ} → Puts out mid 0 m (period_line q) → Puts mid end m n (row_lines 0 (reply_of T q).rows)
      → Puts out end 0 n (reply_text (reply_of T q))
  reply_put out a b = rw (reply_text_lem T q) (puts_then out 0 (period_line q) (row_lines 0 (reply_of T q).rows) a b)

-- the text of a refusal is its line
pub refusal_text : (v : Verdict Reply) {n a b : ℕ} → v ≡ refused n a b → text_of v ≡ refused_line n a b
unfolding text_of
refusal_text v e = ap text_of e

-- what is told of a verdict: the text of what is accepted, or the refusal's line, whatever was to be accepted
module _ {A : Type 0} (f : A → List ℕ) {v : Verdict A} where
  pub told_accepted : (x : A) → v ≡ accepted x → f x ≡ told f v
  unfolding told
  told_accepted x e = sym (ap (told f) e)

  pub told_refusal : (r : Refusal) → v ≡ refusal_of r → text_of (refusal_of r) ≡ told f v
  unfolding told text_of
  told_refusal r e = let (n, a, b, x, y) = refusal_is {A = Reply} {B = A} r in ap text_of x ∙ sym (ap (told f) (e ∙ y))

-- ---- a text by value

drop_replicate : {A : Type 0} (k n : ℕ) (d : A) → drop k (replicate n d) ≡ replicate (n - k) d
drop_replicate zero n d = let all : n ≡ n - 0 = omega arith in ap (λ (k : ℕ). replicate k d) all
drop_replicate (suc k) zero d = let none : 0 ≡ 0 - suc k = omega arith in ap (λ (m : ℕ). replicate m d) none
drop_replicate (suc k) (suc n) d = let same : n - k ≡ suc n - suc k = omega arith in drop_replicate k n d ∙ ap (λ (m : ℕ). replicate m d) same

-- what was written into zeros, from the front
pub text_made : (text : List ℕ) (bytes : List ℕ) (len : ℕ) → length text ≤ longest_text → Puts (replicate longest_text 0) bytes 0 len text
    → record { bytes = bytes; len = len } ≡ text_in text
unfolding padded
text_made text bytes len h (e, n) =
    let front : bytes ≡ text ++ replicate (longest_text - length text) 0 =
    e
    ∙ stored_front (replicate longest_text 0) text (omega (arith, length-replicate {A = ℕ} longest_text 0))
    ∙ ap (λ (l : List ℕ). text ++ l) (drop_replicate (length text) longest_text 0)
    in
    let count : len ≡ length text = omega (arith, n) in
    rw (front, count)

-- as many bytes as it counts are there, and they are the text
module _ (text : List ℕ) (t : Text) (e : t ≡ text_in text) where
  pub text_fits : t.len ≤ length t.bytes
  unfolding padded
  text_fits = rw e (omega (arith, length-append text (replicate (longest_text - length text) 0)))

  pub text_front : take t.len t.bytes ≡ text
  text_front = rw e (take_padded longest_text 0 text (length text) refl)

-- ---- a text put from the front of a buffer
module _ (text out : List ℕ) where
  pub text_short : length out < length text → leaving (refused ROOM (length text) 0) out ≡ put text out
  text_short h = sym (put_short text out h)

  pub text_room : {end : List ℕ} {n : ℕ} → length text ≤ length out → Puts out end 0 n text → leaving (accepted (length text)) end ≡ put text out
  text_room h (e, p) = ap (leaving (accepted (length text))) (e ∙ stored_front out text h) ∙ sym (put_room text out h)
