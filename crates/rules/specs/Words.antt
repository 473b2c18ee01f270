-- The words behind the program's name: what they ask for. `fold` without words is document 01's; the others ask about what is on standard input.
-- Assumes nothing.
use Rattle.std.specs.Prelude.{ℕ, ◌+◌, ◌-◌, ◌*◌, Bool, true, false, cond, ◌&&◌, List, [], ◌∷◌, ◌++◌, map, leb, eqb}

-- ---- one word, by its bytes

-- "decimal number": one or more digits, 0 to 9
abbrev pub is_digit : ℕ → Bool
is_digit d = leb 48 d && leb d 57

unfoldable pub digits_only : List ℕ → Bool
digits_only [] = true
digits_only (d ∷ ds) = is_digit d && digits_only ds

unfoldable pub is_number : List ℕ → Bool
unfolding digits_only
is_number [] = false
is_number (d ∷ ds) = digits_only (d ∷ ds)

-- the number that digits are, read from the first to the last behind those that are v
unfoldable pub value_from : ℕ → List ℕ → ℕ
value_from v [] = v
value_from v (d ∷ ds) = value_from (v * 10 + (d - 48)) ds

unfoldable pub value_of : List ℕ → ℕ
unfolding value_from
value_of ds = value_from 0 ds

unfoldable pub same_bytes : List ℕ → List ℕ → Bool
same_bytes [] [] = true
same_bytes [] (y ∷ ys) = false
same_bytes (x ∷ xs) [] = false
same_bytes (x ∷ xs) (y ∷ ys) = eqb x y && same_bytes xs ys

-- the names of the questions, and the numbers that they are asked with
pub data Word : Type 0 where
  boards_name : Word
  values_name : Word
  margin_name : Word
  unfold_name : Word
  gap_name : Word
  number : ℕ → Word
  other : Word

-- "boards"
abbrev pub boards_bytes : List ℕ
boards_bytes = 98 ∷ 111 ∷ 97 ∷ 114 ∷ 100 ∷ 115 ∷ []

-- "values"
abbrev pub values_bytes : List ℕ
values_bytes = 118 ∷ 97 ∷ 108 ∷ 117 ∷ 101 ∷ 115 ∷ []

-- "margin"
abbrev pub margin_bytes : List ℕ
margin_bytes = 109 ∷ 97 ∷ 114 ∷ 103 ∷ 105 ∷ 110 ∷ []

-- "unfold"
abbrev pub unfold_bytes : List ℕ
unfold_bytes = 117 ∷ 110 ∷ 102 ∷ 111 ∷ 108 ∷ 100 ∷ []

-- "gap"
abbrev pub gap_bytes : List ℕ
gap_bytes = 103 ∷ 97 ∷ 112 ∷ []

unfoldable pub word_of : List ℕ → Word
unfolding same_bytes is_number value_of
word_of w =
    cond (same_bytes w boards_bytes) boards_name
    (cond (same_bytes w values_bytes) values_name
    (cond (same_bytes w margin_bytes) margin_name
    (cond (same_bytes w unfold_bytes) unfold_name
    (cond (same_bytes w gap_bytes) gap_name
    (cond (is_number w) (number (value_of w)) other)))))

-- ---- all of them

pub data Question : Type 0 where
  fold_asked : Question
  boards_asked : (q : ℕ) → Question
  values_asked : (q : ℕ) → Question
  margin_asked : (i j n q : ℕ) → Question
  unfold_asked : Question
  gap_asked : Question
  nothing_asked : Question

-- the next word is a number, and what comes behind it is f's
unfoldable pub with_number : (ℕ → List Word → Question) → List Word → Question
with_number f [] = nothing_asked
with_number f (boards_name ∷ ws) = nothing_asked
with_number f (values_name ∷ ws) = nothing_asked
with_number f (margin_name ∷ ws) = nothing_asked
with_number f (unfold_name ∷ ws) = nothing_asked
with_number f (gap_name ∷ ws) = nothing_asked
with_number f (number n ∷ ws) = f n ws
with_number f (other ∷ ws) = nothing_asked

-- no word more
unfoldable pub with_none : Question → List Word → Question
with_none q [] = q
with_none q (w ∷ ws) = nothing_asked

-- `boards Q`, `values Q`, `margin I J N Q`, `unfold`, `gap`; "Words that are no question, too few or too many, or that are no decimal number" ask nothing
unfoldable pub asks : List Word → Question
unfolding with_number with_none
asks [] = fold_asked
asks (boards_name ∷ ws) = with_number (λ q. with_none (boards_asked q)) ws
asks (values_name ∷ ws) = with_number (λ q. with_none (values_asked q)) ws
asks (margin_name ∷ ws) = with_number (λ i. with_number (λ j. with_number (λ n. with_number (λ q. with_none (margin_asked i j n q))))) ws
asks (unfold_name ∷ ws) = with_none unfold_asked ws
asks (gap_name ∷ ws) = with_none gap_asked ws
asks (number n ∷ ws) = nothing_asked
asks (other ∷ ws) = nothing_asked

unfoldable pub question_of : List (List ℕ) → Question
unfolding asks word_of
question_of ws = asks (map word_of ws)

-- whether they ask anything
abbrev pub is_asked : Question → Bool
is_asked fold_asked = true
is_asked (boards_asked q) = true
is_asked (values_asked q) = true
is_asked (margin_asked i j n q) = true
is_asked unfold_asked = true
is_asked gap_asked = true
is_asked nothing_asked = false

-- ---- "a short list of what can be asked"

-- "fold: the period and the rows of the table on standard input"
abbrev fold_help : List ℕ
fold_help =
    102 ∷ 111 ∷ 108 ∷ 100 ∷ 58 ∷ 32 ∷ 116 ∷ 104 ∷ 101 ∷ 32 ∷ 112 ∷ 101 ∷ 114 ∷ 105 ∷ 111 ∷ 100 ∷ 32 ∷ 97 ∷ 110 ∷ 100 ∷ 32 ∷ 116 ∷ 104 ∷ 101 ∷ 32 ∷ 114 ∷ 111 ∷ 119 ∷ 115 ∷ 32 ∷ 111 ∷ 102 ∷ 32 ∷ 116 ∷ 104 ∷ 101 ∷ 32 ∷ 116 ∷ 97 ∷ 98 ∷ 108 ∷ 101 ∷ 32 ∷ 111 ∷ 110 ∷ 32 ∷ 115 ∷ 116 ∷ 97 ∷ 110 ∷ 100 ∷ 97 ∷ 114 ∷ 100 ∷ 32 ∷ 105 ∷ 110 ∷ 112 ∷ 117 ∷ 116 ∷ 10 ∷ []

-- "fold boards Q: do the boards fit at period Q"
abbrev boards_help : List ℕ
boards_help =
    102 ∷ 111 ∷ 108 ∷ 100 ∷ 32 ∷ 98 ∷ 111 ∷ 97 ∷ 114 ∷ 100 ∷ 115 ∷ 32 ∷ 81 ∷ 58 ∷ 32 ∷ 100 ∷ 111 ∷ 32 ∷ 116 ∷ 104 ∷ 101 ∷ 32 ∷ 98 ∷ 111 ∷ 97 ∷ 114 ∷ 100 ∷ 115 ∷ 32 ∷ 102 ∷ 105 ∷ 116 ∷ 32 ∷ 97 ∷ 116 ∷ 32 ∷ 112 ∷ 101 ∷ 114 ∷ 105 ∷ 111 ∷ 100 ∷ 32 ∷ 81 ∷ 10 ∷ []

-- "fold values Q: do the values arrive at period Q"
abbrev values_help : List ℕ
values_help =
    102 ∷ 111 ∷ 108 ∷ 100 ∷ 32 ∷ 118 ∷ 97 ∷ 108 ∷ 117 ∷ 101 ∷ 115 ∷ 32 ∷ 81 ∷ 58 ∷ 32 ∷ 100 ∷ 111 ∷ 32 ∷ 116 ∷ 104 ∷ 101 ∷ 32 ∷ 118 ∷ 97 ∷ 108 ∷ 117 ∷ 101 ∷ 115 ∷ 32 ∷ 97 ∷ 114 ∷ 114 ∷ 105 ∷ 118 ∷ 101 ∷ 32 ∷ 97 ∷ 116 ∷ 32 ∷ 112 ∷ 101 ∷ 114 ∷ 105 ∷ 111 ∷ 100 ∷ 32 ∷ 81 ∷ 10 ∷ []

-- "fold margin I J N Q: ticks left from the end of step I to the start of step J, N cycles later, at period Q"
abbrev margin_help : List ℕ
margin_help =
    102 ∷ 111 ∷ 108 ∷ 100 ∷ 32 ∷ 109 ∷ 97 ∷ 114 ∷ 103 ∷ 105 ∷ 110 ∷ 32 ∷ 73 ∷ 32 ∷ 74 ∷ 32 ∷ 78 ∷ 32 ∷ 81 ∷ 58 ∷ 32 ∷ 116 ∷ 105 ∷ 99 ∷ 107 ∷ 115 ∷ 32 ∷ 108 ∷ 101 ∷ 102 ∷ 116 ∷ 32 ∷ 102 ∷ 114 ∷ 111 ∷ 109 ∷ 32 ∷ 116 ∷ 104 ∷ 101 ∷ 32 ∷ 101 ∷ 110 ∷ 100 ∷ 32 ∷ 111 ∷ 102 ∷ 32 ∷ 115 ∷ 116 ∷ 101 ∷ 112 ∷ 32 ∷ 73 ∷ 32 ∷ 116 ∷ 111 ∷ 32 ∷ 116 ∷ 104 ∷ 101 ∷ 32 ∷ 115 ∷ 116 ∷ 97 ∷ 114 ∷ 116 ∷ 32 ∷ 111 ∷ 102 ∷ 32 ∷ 115 ∷ 116 ∷ 101 ∷ 112 ∷ 32 ∷ 74 ∷ 44 ∷ 32 ∷ 78 ∷ 32 ∷ 99 ∷ 121 ∷ 99 ∷ 108 ∷ 101 ∷ 115 ∷ 32 ∷ 108 ∷ 97 ∷ 116 ∷ 101 ∷ 114 ∷ 44 ∷ 32 ∷ 97 ∷ 116 ∷ 32 ∷ 112 ∷ 101 ∷ 114 ∷ 105 ∷ 111 ∷ 100 ∷ 32 ∷ 81 ∷ 10 ∷ []

-- "fold unfold: the starts of the reply on standard input"
abbrev unfold_help : List ℕ
unfold_help =
    102 ∷ 111 ∷ 108 ∷ 100 ∷ 32 ∷ 117 ∷ 110 ∷ 102 ∷ 111 ∷ 108 ∷ 100 ∷ 58 ∷ 32 ∷ 116 ∷ 104 ∷ 101 ∷ 32 ∷ 115 ∷ 116 ∷ 97 ∷ 114 ∷ 116 ∷ 115 ∷ 32 ∷ 111 ∷ 102 ∷ 32 ∷ 116 ∷ 104 ∷ 101 ∷ 32 ∷ 114 ∷ 101 ∷ 112 ∷ 108 ∷ 121 ∷ 32 ∷ 111 ∷ 110 ∷ 32 ∷ 115 ∷ 116 ∷ 97 ∷ 110 ∷ 100 ∷ 97 ∷ 114 ∷ 100 ∷ 32 ∷ 105 ∷ 110 ∷ 112 ∷ 117 ∷ 116 ∷ 10 ∷ []

-- "fold gap: the smallest gap from one start to the next, for cycles that the operator starts"
abbrev gap_help : List ℕ
gap_help =
    102 ∷ 111 ∷ 108 ∷ 100 ∷ 32 ∷ 103 ∷ 97 ∷ 112 ∷ 58 ∷ 32 ∷ 116 ∷ 104 ∷ 101 ∷ 32 ∷ 115 ∷ 109 ∷ 97 ∷ 108 ∷ 108 ∷ 101 ∷ 115 ∷ 116 ∷ 32 ∷ 103 ∷ 97 ∷ 112 ∷ 32 ∷ 102 ∷ 114 ∷ 111 ∷ 109 ∷ 32 ∷ 111 ∷ 110 ∷ 101 ∷ 32 ∷ 115 ∷ 116 ∷ 97 ∷ 114 ∷ 116 ∷ 32 ∷ 116 ∷ 111 ∷ 32 ∷ 116 ∷ 104 ∷ 101 ∷ 32 ∷ 110 ∷ 101 ∷ 120 ∷ 116 ∷ 44 ∷ 32 ∷ 102 ∷ 111 ∷ 114 ∷ 32 ∷ 99 ∷ 121 ∷ 99 ∷ 108 ∷ 101 ∷ 115 ∷ 32 ∷ 116 ∷ 104 ∷ 97 ∷ 116 ∷ 32 ∷ 116 ∷ 104 ∷ 101 ∷ 32 ∷ 111 ∷ 112 ∷ 101 ∷ 114 ∷ 97 ∷ 116 ∷ 111 ∷ 114 ∷ 32 ∷ 115 ∷ 116 ∷ 97 ∷ 114 ∷ 116 ∷ 115 ∷ 10 ∷ []

-- "I, J, N, Q are decimal numbers"
abbrev numbers_help : List ℕ
numbers_help =
    73 ∷ 44 ∷ 32 ∷ 74 ∷ 44 ∷ 32 ∷ 78 ∷ 44 ∷ 32 ∷ 81 ∷ 32 ∷ 97 ∷ 114 ∷ 101 ∷ 32 ∷ 100 ∷ 101 ∷ 99 ∷ 105 ∷ 109 ∷ 97 ∷ 108 ∷ 32 ∷ 110 ∷ 117 ∷ 109 ∷ 98 ∷ 101 ∷ 114 ∷ 115 ∷ 10 ∷ []

unfoldable pub askable : List ℕ
askable =
    fold_help ++ boards_help ++ values_help ++ margin_help ++ unfold_help ++ gap_help ++ numbers_help
