-- The line of a start, and the lines of a reply's starts one after the other.
-- Assumes nothing.
use Rattle.std.specs.Prelude.{ℕ, ◌+◌, ◌-◌, ◌*◌, ◌/◌, ◌^◌, ◌<◌, ◌≤◌, ◌≡◌, refl, List, [], ◌++◌, length, replicate}
use Rattle.std.proofs.Common.{sym, ◌∙◌, append_assoc, arith, add-one, length-append, take-suc, length-take-le, leb-true}
use Rattle.std.proofs.Math.Path.{ap}
use Rattle.std.proofs.Math.ListN.{take}
use Rattle.std.proofs.Math.Seq.{take_all}
use Rattle.rules.specs.Rows.{Ticks, Row, ticks, unfold_at, starts_of}
use Rattle.rules.specs.Verdicts.{accepted}
use Rattle.rules.specs.Bytes.{num16, row_at}
use Rattle.rules.specs.Judge.{at_end, row_wrong, rows_from, judge_reply}
use Rattle.rules.specs.Text.{decimal, op_word, start_word, newline, start_line, start_lines, starts_text, told, longest_text}
use Rattle.theory.proofs.Judging.{place_even, fields_passing, fields_ended}
use Rattle.theory.proofs.Replies.{reply_row, reply_in}
use Rattle.theory.proofs.Text.{decimal_length, lines_none, lines_snoc}
use Rattle.theory.proofs.Verdicts.{then_rest, onwards_first}
use Rattle.starts.specs.Starts.{heard}
use Rattle.starts.specs.StartLaws.{heard_reply, starts_count, starts_at}
use Rattle.lines.specs.Lines.{Puts}
use Rattle.lines.specs.LineLaws.{puts_then, copy_none}
use Rattle.text.specs.Texts.{text_in}
use Rattle.text.specs.TextLaws.{told_accepted, text_made}
use Rattle.start_lines.specs.StartLines.{LinesPut}

-- ---- one line

start_open : (i : ℕ) (t : Ticks) → start_line i t ≡ op_word ++ decimal i ++ start_word ++ decimal t.number ++ newline
unfolding start_line
start_open i t = refl

-- two words, each with a number behind it, and the end of the line
start_line_lem : (i : ℕ) (t : Ticks) → start_line i t ≡ op_word ++ decimal i ++ (start_word ++ decimal t.number) ++ newline
start_line_lem i t = start_open i t ∙ ap (λ (l : List ℕ). l ++ newline) (append_assoc (op_word ++ decimal i) start_word (decimal t.number))

pub start_length : (i : ℕ) (t : Ticks) → length (start_line i t) ≡ 11 + length (decimal i) + length (decimal t.number)
start_length i t = omega (arith, simp length-append at (ap length (start_open i t)))

pub start-put : (i : ℕ) (t : Ticks) (out : List ℕ) (at : ℕ) {one two end : List ℕ} {m k n : ℕ} → Puts out one at m (op_word ++ decimal i)
    → Puts one two m k (start_word ++ decimal t.number) → Puts two end k n newline → Puts out end at n (start_line i t)
start-put i t out at a b c =
    let words = op_word ++ decimal i ++ (start_word ++ decimal t.number) in
    rw (start_line_lem i t) (puts_then out at words newline (puts_then out at (op_word ++ decimal i) (start_word ++ decimal t.number) a b) c)

-- operations below 100 and dates of 32 bits: at most 2 and 10 digits
pub op_digits : (i : ℕ) → i < 100 → length (decimal i) ≤ 2
op_digits i h = omega (arith, decimal_length 1 i h)

pub date_digits : (d : ℕ) → d < 2 ^ 32 → length (decimal d) ≤ 10
date_digits d h = omega (arith, decimal_length 9 d (omega arith))

pub start_short : (i : ℕ) (t : Ticks) → i < 100 → t.number < 2 ^ 32 → length (start_line i t) ≤ 23
start_short i t h g = omega (arith, start_length i t, op_digits i h, date_digits t.number g)

-- ---- the lines of the first n rows
module _ (s out : List ℕ) where
  pub start_lines_none : LinesPut s 0 out out 0
  start_lines_none = record { short = omega arith; lines = λ R e. rw (lines_none start_line 0) (copy_none out 0 [], omega arith) }

  pub lines_turn : (n i : ℕ) {mid end : List ℕ} {m k : ℕ} → 5 + 7 * n ≤ length s → n ≤ 32 → i < n → LinesPut s i out mid m
      → (t : Ticks) → t.number < 2 ^ 32 → t ≡ unfold_at (ticks (num16 s 3)) (row_at s (5 + 7 * i)) → Puts mid end m k (start_line i t) → LinesPut s (i + 1) out end k
  lines_turn n i {mid} {end} {m} {k} size few h front t small e line =
      record {
        short = omega (arith, front.short, line.1, start_short i t (omega arith) small);
        lines = λ R read.
            let is = reply_in s R read in
            let starts = take i (starts_of R) in
            let inside : i < length (starts_of R) = omega (arith, starts_count is, is.size) in
            let same : t ≡ _ = e ∙ sym (starts_at is i (omega (arith, is.size))) in
            let place : i ≡ 0 + length starts = omega (arith, length-take-le i (starts_of R) (omega arith)) in
            let more : start_lines 0 (take (i + 1) (starts_of R)) ≡ start_lines 0 starts ++ start_line i t =
            ap (start_lines 0) (rw (add-one, take-suc (starts_of R) i (unfold_at R.period (row_at s 0)) inside, ← same)) ∙ lines_snoc start_line starts 0 i t place
            in
            rw more (puts_then out 0 (start_lines 0 starts) (start_line i t) (front.lines R read) line);
      }

-- ---- a reply that is accepted

rows_filled : (s : List ℕ) (rs : List Row) → rows_from (ticks (num16 s 3)) s 32 5 ≡ accepted rs → (length s - 5) / 7 ≤ 32
unfolding rows_from
rows_filled s rs come =
    let wrong = row_wrong (ticks (num16 s 3)) in
    let passing = fields_passing at_end 18 (λ t at. 4) (λ t at. wrong (row_at t at)) row_at s wrong (λ at e. e) (row_at s 0) 32 5 rs come in
    let ended = fields_ended at_end 18 (λ t at. 4) (λ t at. wrong (row_at t at)) row_at s 32 5 rs come in
    omega (arith, passing.few, leb-true (length s) _ ended.done, place_even 4 s 5 (length rs))

module _ (s : List ℕ) (e : heard (judge_reply s) ≡ accepted tt) where
  -- it has at most 32 rows
  pub rows_few : (length s - 5) / 7 ≤ 32
  rows_few =
      let (R, read) = heard_reply s e in
      let (rs, come, whole) = onwards_first (rows_from (ticks (num16 s 3)) s 32 5) _ (then_rest _ _ (sym (reply_row s) ∙ read)) in
      rows_filled s rs come

  -- and where all of them are put they are its text
  pub rows_told : {n : ℕ} {bytes : List ℕ} {len : ℕ} → LinesPut s n (replicate longest_text 0) bytes len → length s ≡ 5 + 7 * n
      → record { bytes = bytes; len = len } ≡ text_in (told starts_text (judge_reply s))
  unfolding starts_text
  rows_told {n} {bytes} {len} put size =
      let (R, read) = heard_reply s e in
      let is = reply_in s R read in
      let all : take n (starts_of R) ≡ starts_of R = take_all n (starts_of R) (omega (arith, starts_count is, is.size)) in
      let lines : Puts (replicate longest_text 0) bytes 0 len (start_lines 0 (starts_of R)) = rw all at (put.lines R read) in
      text_made (start_lines 0 (starts_of R)) bytes len (omega (arith, put.short, lines.1, rows_few)) lines ∙ ap text_in (told_accepted starts_text R read)
