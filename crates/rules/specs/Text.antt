-- Document 01, "The program": the text that `fold` prints, as bytes of ASCII.
-- Assumes nothing.
use Rattle.std.specs.Prelude.{ℕ, zero, suc, ◌+◌, ◌/◌, ◌%◌, Bool, cond, List, [], ◌∷◌, ◌++◌, ltb, ℤ, pos, negsuc}
use Rattle.rules.specs.Rows.{Ticks, Row, Reply, starts_of}
use Rattle.rules.specs.Verdicts.{Verdict, accepted, refused}

-- ---- "all numbers are decimal"

-- the digits of a number of at most so many digits: the highest first, and none in front that is not needed
unfoldable pub digits : ℕ → ℕ → List ℕ
digits zero n = []
digits (suc k) n = let front = digits k (n / 10) in cond (ltb n 10) ((48 + n) ∷ []) (front ++ ((48 + n % 10) ∷ []))

-- no number has more digits than one more than itself
unfoldable pub decimal : ℕ → List ℕ
unfolding digits
decimal n = digits (suc n) n

-- ---- the words, and the end of a line

-- "period "
abbrev pub period_word : List ℕ
period_word = 112 ∷ 101 ∷ 114 ∷ 105 ∷ 111 ∷ 100 ∷ 32 ∷ []

-- "op "
abbrev pub op_word : List ℕ
op_word = 111 ∷ 112 ∷ 32 ∷ []

-- " start "
abbrev pub start_word : List ℕ
start_word = 32 ∷ 115 ∷ 116 ∷ 97 ∷ 114 ∷ 116 ∷ 32 ∷ []

-- " fst "
abbrev pub fst_word : List ℕ
fst_word = 32 ∷ 102 ∷ 115 ∷ 116 ∷ 32 ∷ []

-- "refused "
abbrev pub refused_word : List ℕ
refused_word = 114 ∷ 101 ∷ 102 ∷ 117 ∷ 115 ∷ 101 ∷ 100 ∷ 32 ∷ []

abbrev pub space : List ℕ
space = 32 ∷ []

abbrev pub newline : List ℕ
newline = 10 ∷ []

-- ---- "It prints `period q`, then `op i start s fst f` for each operation in order, or one line `refused n a b`."
unfoldable pub row_line : ℕ → Row → List ℕ
unfolding decimal
row_line i r =
    op_word ++ decimal i ++ start_word ++ decimal r.start.number ++ fst_word ++ decimal r.fst.number ++ newline

-- a line for each of a list, the first of which is number i
unfoldable pub each_line : {A : Type 0} → (ℕ → A → List ℕ) → ℕ → List A → List ℕ
each_line line i [] = []
each_line line i (x ∷ xs) = line i x ++ each_line line (suc i) xs

abbrev pub row_lines : ℕ → List Row → List ℕ
row_lines i rs = each_line row_line i rs

unfoldable pub period_line : ℕ → List ℕ
unfolding decimal
period_line q = period_word ++ decimal q ++ newline

unfoldable pub refused_line : ℕ → ℕ → ℕ → List ℕ
unfolding decimal
refused_line number a b = refused_word ++ decimal number ++ space ++ decimal a ++ space ++ decimal b ++ newline

unfoldable pub reply_text : Reply → List ℕ
unfolding period_line each_line row_line
reply_text R = period_line R.period.number ++ row_lines 0 R.rows

-- the text of what is accepted, or the refusal's line
unfoldable pub told : {A : Type 0} → (A → List ℕ) → Verdict A → List ℕ
unfolding refused_line
told f (accepted x) = f x
told f (refused number a b) = refused_line number a b

unfoldable pub text_of : Verdict Reply → List ℕ
unfolding told reply_text
text_of v = told reply_text v

-- no text for a table's bytes is longer: 12 bytes for the period's line, and 24 for each of 32 rows
abbrev pub longest_text : ℕ
longest_text = 780

-- ---- the answers to the other questions, each a text of its own

-- `yes` or `no`
unfoldable pub yes_no_line : Bool → List ℕ
yes_no_line said = cond said (121 ∷ 101 ∷ 115 ∷ newline) (110 ∷ 111 ∷ newline)

-- "margin "
abbrev pub margin_word : List ℕ
margin_word = 109 ∷ 97 ∷ 114 ∷ 103 ∷ 105 ∷ 110 ∷ 32 ∷ []

-- `margin m`, with "a minus sign where it is negative"
unfoldable pub signed : ℤ → List ℕ
unfolding decimal
signed (pos n) = decimal n
signed (negsuc n) = 45 ∷ decimal (suc n)

unfoldable pub margin_line : ℤ → List ℕ
unfolding signed
margin_line m = margin_word ++ signed m ++ newline

-- "gap "
abbrev pub gap_word : List ℕ
gap_word = 103 ∷ 97 ∷ 112 ∷ 32 ∷ []

-- `gap g`
unfoldable pub gap_line : ℕ → List ℕ
unfolding decimal
gap_line g = gap_word ++ decimal g ++ newline

-- `op i start t`
unfoldable pub start_line : ℕ → Ticks → List ℕ
unfolding decimal
start_line i t = op_word ++ decimal i ++ start_word ++ decimal t.number ++ newline

abbrev pub start_lines : ℕ → List Ticks → List ℕ
start_lines i ts = each_line start_line i ts

-- a reply's starts
unfoldable pub starts_text : Reply → List ℕ
unfolding each_line start_line starts_of
starts_text R = start_lines 0 (starts_of R)
