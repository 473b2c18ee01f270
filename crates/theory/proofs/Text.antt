-- Laws of the text: a number's digits and what they come to, the lengths of the lines, and K1's text.
-- Assumes nothing.
use Prim.Native.Nat.{ℕ, zero, suc, ◌+◌, ◌-◌, ◌*◌, ◌/◌, ◌%◌, ◌^◌, ◌<◌, ◌≤◌}
use mathlib.Core.Path.{◌≡◌, refl, sym, ap, subst⁻¹, ◌∙◌}
use mathlib.Core.List.{List, [], ◌∷◌, ◌++◌, map, append_assoc, append-nil}
use native.Mathlib.Decide.{dec_lt}
use native.Mathlib.Nat.{div-le_self}
use native.Mathlib.Omega.{arith}
use lib.ListN.{length, get_or, length-append, length-map, get_or-map}
use borrow.Author.Tests.{lt-ltb, le-ltb}
use Rattle.rules.specs.Table.{Table, nops, op, no_op, Accepted}
use Rattle.rules.specs.Rows.{Row, Reply, reply_of}
use Rattle.rules.specs.Verdicts.{Verdict, accepted, refused}
use Rattle.rules.specs.Judge.{judge}
use Rattle.rules.specs.Text.{digits, decimal, period_word, op_word, start_word, fst_word, refused_word, space, newline, row_line, each_line, row_lines, period_line, refused_line, reply_text, text_of, longest_text}
use Rattle.rules.specs.Words.{value_from, value_of}
use Rattle.rules.specs.Answers.{Answers, Planned, ReplyTo}
use Rattle.rules.specs.Bench.{All, k1_bytes}
use Rattle.theory.specs.Tests.{plan_of}
use Rattle.theory.proofs.Judging.{judge_accepted}
use Rattle.theory.proofs.Bounded.{Small, figures_small}
use Rattle.theory.proofs.Replies.{folded}

-- ---- the digits, one by one

digits_small : (k n : ℕ) → n < 10 → digits (suc k) n ≡ (48 + n) ∷ []
unfolding digits
digits_small k n h = rw (lt-ltb n 10 h)

digits_large : (k n : ℕ) → 10 ≤ n → digits (suc k) n ≡ digits k (n / 10) ++ ((48 + n % 10) ∷ [])
unfolding digits
digits_large k n h = rw (le-ltb n 10 h)

-- a count of digits above the number is enough, whichever it is
digits_step : (k l n : ℕ) → (10 ≤ n → digits k (n / 10) ≡ digits l (n / 10)) → digits (suc k) n ≡ digits (suc l) n
digits_step k l n rest = go (dec_lt n 10)
  where
    go : Dec (n < 10) → digits (suc k) n ≡ digits (suc l) n
    go (yes h) = digits_small k n h ∙ sym (digits_small l n h)
    go (no h) =
        let large : 10 ≤ n = omega arith in
        digits_large k n large ∙ ap (λ (ds : List ℕ). ds ++ ((48 + n % 10) ∷ [])) (rest large) ∙ sym (digits_large l n large)

digits_enough : (k l n : ℕ) → n < k → n < l → digits k n ≡ digits l n
digits_enough zero l n h g = absurd (omega arith)
digits_enough (suc k) zero n h g = absurd (omega arith)
digits_enough (suc k) (suc l) n h g = digits_step k l n (λ large. digits_enough k l (n / 10) (omega arith) (omega arith))

pub decimal_small : (n : ℕ) → n < 10 → decimal n ≡ (48 + n) ∷ []
unfolding decimal
decimal_small n h = digits_small n n h

pub decimal_more : (n : ℕ) → 10 ≤ n → decimal n ≡ decimal (n / 10) ++ ((48 + n % 10) ∷ [])
unfolding decimal
decimal_more n h =
    digits_large n n h ∙ ap (λ (ds : List ℕ). ds ++ ((48 + n % 10) ∷ [])) (digits_enough n (suc (n / 10)) (n / 10) (omega arith) (omega arith))

-- what holds of one digit and is kept by one digit more holds of every number
module _ (P : ℕ → List ℕ → Type 0) (small : (n : ℕ) → n < 10 → P n ((48 + n) ∷ []))
    (more : (n : ℕ) → 10 ≤ n → P (n / 10) (decimal (n / 10)) → P n (decimal (n / 10) ++ ((48 + n % 10) ∷ []))) where
  by_step : (n : ℕ) → (10 ≤ n → P (n / 10) (decimal (n / 10))) → P n (decimal n)
  by_step n rest = go (dec_lt n 10)
    where
      go : Dec (n < 10) → P n (decimal n)
      go (yes h) = subst⁻¹ (P n) (decimal_small n h) (small n h)
      go (no h) = let large : 10 ≤ n = omega arith in subst⁻¹ (P n) (decimal_more n large) (more n large (rest large))

  by_bound : (k n : ℕ) → n < k → P n (decimal n)
  by_bound zero n h = absurd (omega arith)
  by_bound (suc k) n h = by_step n (λ large. by_bound k (n / 10) (omega arith))

  by_digits : (n : ℕ) → P n (decimal n)
  by_digits n = by_bound (suc n) n (omega arith)

-- ---- how many there are
pub decimal_some : (n : ℕ) → 1 ≤ length (decimal n)
decimal_some = by_digits (λ n ds. 1 ≤ length ds) (λ n h. omega arith) (λ n h some. omega (arith, length-append (decimal (n / 10)) ((48 + n % 10) ∷ [])))

-- one more than without the last
pub decimal_grows : (n : ℕ) → 10 ≤ n → length (decimal n) ≡ length (decimal (n / 10)) + 1
decimal_grows n h = ap length (decimal_more n h) ∙ length-append (decimal (n / 10)) ((48 + n % 10) ∷ [])

length_step : (k n : ℕ) → (10 ≤ n → length (decimal (n / 10)) ≤ suc k) → length (decimal n) ≤ suc (suc k)
length_step k n rest = go (dec_lt n 10)
  where
    go : Dec (n < 10) → length (decimal n) ≤ suc (suc k)
    go (yes h) = omega (arith, ap length (decimal_small n h))
    go (no h) =
        let large : 10 ≤ n = omega arith in
        let front : length (decimal (n / 10)) ≤ suc k = rest large in
        omega (arith, decimal_grows n large)

-- a number below 10 ^ k has at most k digits
pub decimal_length : (k n : ℕ) → n < 10 ^ suc k → length (decimal n) ≤ suc k
decimal_length zero n h = omega (arith, ap length (decimal_small n h))
decimal_length (suc k) n h = length_step k n (λ large. decimal_length k (n / 10) (omega arith))

-- ---- what they come to

value_snoc : (v : ℕ) (ds : List ℕ) (d : ℕ) → value_from v (ds ++ (d ∷ [])) ≡ value_from v ds * 10 + (d - 48)
unfolding value_from
value_snoc v [] d = refl
value_snoc v (x ∷ ds) d = value_snoc (v * 10 + (x - 48)) ds d

-- read again it is the number
pub decimal_value : (n : ℕ) → value_of (decimal n) ≡ n
unfolding value_of
decimal_value =
    by_digits (λ n ds. value_of ds ≡ n) (λ n h. omega arith)
    (λ n h e. value_snoc 0 (decimal (n / 10)) (48 + n % 10) ∙ omega arith)

-- each is one of the digits 0 to 9
abbrev pub Digit : ℕ → Type 0
Digit d = (48 ≤ d) × (d ≤ 57)

all_snoc : {A : Type 0} (P : A → Type 0) (xs : List A) (x : A) → All P xs → P x → All P (xs ++ (x ∷ []))
unfolding All
all_snoc P [] x all h = (h, tt)
all_snoc P (y ∷ xs) x (first, all) h = (first, all_snoc P xs x all h)

pub decimal_digits : (n : ℕ) → All Digit (decimal n)
unfolding All
decimal_digits =
    by_digits (λ n ds. All Digit ds) (λ n h. ((omega arith, omega arith), tt))
    (λ n h all. all_snoc Digit (decimal (n / 10)) (48 + n % 10) all (omega arith, omega arith))

-- and none in front that is not needed: the first is 0 in the number 0 alone
first_kept : (ds : List ℕ) (d : ℕ) → 1 ≤ length ds → get_or (ds ++ (d ∷ [])) 0 0 ≡ get_or ds 0 0
first_kept [] d h = absurd (omega arith)
first_kept (x ∷ ds) d h = refl

pub decimal_front : (n : ℕ) → get_or (decimal n) 0 0 ≡ 48 → n ≡ 0
decimal_front =
    by_digits (λ n ds. get_or ds 0 0 ≡ 48 → n ≡ 0) (λ n h e. omega arith)
    (λ n h front e. let none = front (sym (first_kept (decimal (n / 10)) (48 + n % 10) (decimal_some (n / 10))) ∙ e) in omega arith)

-- so there is no other such row of digits: one that does not begin with 0 is that of the number it is read as
value_more : (v : ℕ) (ds : List ℕ) → 1 ≤ v → All Digit ds → decimal (value_from v ds) ≡ decimal v ++ ds
unfolding value_from All
value_more v [] h all = sym (append-nil (decimal v))
value_more v (d ∷ ds) h (digit, all) =
    let n = v * 10 + (d - 48) in
    let high : n / 10 ≡ v = omega arith in
    let low : 48 + n % 10 ≡ d = omega arith in
    let front : decimal n ≡ decimal v ++ (d ∷ []) = decimal_more n (omega arith) ∙ rw (high, low) in
    value_more n ds (omega arith) all
    ∙ ap (λ (l : List ℕ). l ++ ds) front
    ∙ append_assoc (decimal v) (d ∷ []) ds

pub decimal_only : (d : ℕ) (ds : List ℕ) → 49 ≤ d → d ≤ 57 → All Digit ds → decimal (value_of (d ∷ ds)) ≡ d ∷ ds
unfolding value_of
decimal_only d ds low high all =
    let same : 48 + (0 * 10 + (d - 48)) ≡ d = omega arith in
    value_more (0 * 10 + (d - 48)) ds (omega arith) all
    ∙ rw (decimal_small (0 * 10 + (d - 48)) (omega arith), same)

-- ---- the lines: words, each with a number behind it, and how long they are

by_pairs : (a b c d e f g : List ℕ) → a ++ b ++ c ++ d ++ e ++ f ++ g ≡ a ++ b ++ (c ++ d) ++ (e ++ f) ++ g
by_pairs a b c d e f g = simp append_assoc

-- a definition's line opened, with its numbers closed
row_open : (i : ℕ) (r : Row)
    → row_line i r ≡ op_word ++ decimal i ++ start_word ++ decimal r.start.number ++ fst_word ++ decimal r.fst.number ++ newline
unfolding row_line
row_open i r = refl

pub row_line_lem : (i : ℕ) (r : Row)
    → row_line i r ≡ op_word ++ decimal i ++ (start_word ++ decimal r.start.number) ++ (fst_word ++ decimal r.fst.number) ++ newline
row_line_lem i r = row_open i r ∙ by_pairs op_word (decimal i) start_word (decimal r.start.number) fst_word (decimal r.fst.number) newline

row_length : (i : ℕ) (r : Row)
    → length (row_line i r) ≡ 16 + length (decimal i) + length (decimal r.start.number) + length (decimal r.fst.number)
row_length i r = omega (arith, simp length-append at (ap length (row_open i r)))

pub period_line_lem : (q : ℕ) → period_line q ≡ period_word ++ decimal q ++ newline
unfolding period_line
period_line_lem q = refl

pub period_length : (q : ℕ) → length (period_line q) ≡ 8 + length (decimal q)
period_length q = omega (arith, simp length-append at (ap length (period_line_lem q)))

refused_open : (n a b : ℕ) → refused_line n a b ≡ refused_word ++ decimal n ++ space ++ decimal a ++ space ++ decimal b ++ newline
unfolding refused_line
refused_open n a b = refl

pub refused_line_lem : (n a b : ℕ) → refused_line n a b ≡ refused_word ++ decimal n ++ (space ++ decimal a) ++ (space ++ decimal b) ++ newline
refused_line_lem n a b = refused_open n a b ∙ by_pairs refused_word (decimal n) space (decimal a) space (decimal b) newline

refused_length : (n a b : ℕ) → length (refused_line n a b) ≡ 11 + length (decimal n) + length (decimal a) + length (decimal b)
refused_length n a b = omega (arith, simp length-append at (ap length (refused_open n a b)))

-- numbers of at most 20 digits, as those of 64 bits
pub refused_short : (n a b : ℕ) → n < 2 ^ 64 → a < 2 ^ 64 → b < 2 ^ 64 → length (refused_line n a b) ≤ 71
refused_short n a b h g f =
    omega (arith, refused_length n a b, decimal_length 19 n (omega arith), decimal_length 19 a (omega arith), decimal_length 19 b (omega arith))

-- a period of at most 4 digits
pub period_short : (q : ℕ) → q ≤ 1000 → length (period_line q) ≤ 12
period_short q h = omega (arith, period_length q, decimal_length 3 q (omega arith))

-- ---- the lines of rows

-- operations below 100, and dates and start indices below 1000: at most 24 bytes
pub row_short : (i : ℕ) (r : Row) → i < 100 → r.start.number < 1000 → r.fst.number < 1000 → length (row_line i r) ≤ 24
row_short i r h g f = omega (arith, row_length i r, decimal_length 1 i h, decimal_length 2 r.start.number g, decimal_length 2 r.fst.number f)

-- a line for each of a list, whatever the lines are
module _ {A : Type 0} (line : ℕ → A → List ℕ) where
  pub lines_none : (i : ℕ) → each_line line i [] ≡ []
  unfolding each_line
  lines_none i = refl

  lines_first : (i : ℕ) (x : A) (xs : List A) → each_line line i (x ∷ xs) ≡ line i x ++ each_line line (suc i) xs
  unfolding each_line
  lines_first i x xs = refl

  -- one line more, the n-th
  pub lines_snoc : (xs : List A) (i n : ℕ) (x : A) → n ≡ i + length xs → each_line line i (xs ++ (x ∷ [])) ≡ each_line line i xs ++ line n x
  lines_snoc [] i n x e =
      let same : i ≡ n = omega arith in lines_first i x [] ∙ simp (lines_none, append-nil) (ap (λ (k : ℕ). line k x) same)
  lines_snoc (y ∷ xs) i n x e =
      lines_first i y (xs ++ (x ∷ []))
      ∙ ap (λ (l : List ℕ). line i y ++ l) (lines_snoc xs (suc i) n x (omega arith))
      ∙ sym (append_assoc (line i y) (each_line line (suc i) xs) (line n x))
      ∙ ap (λ (l : List ℕ). l ++ line n x) (sym (lines_first i y xs))

-- ---- no text is longer than longest_text

-- lines of rows whose dates and start indices are below 1000
rows_short : (d : Row) (rs : List Row) (i : ℕ) → i + length rs ≤ 100
    → ((k : ℕ) → k < length rs → ((get_or rs k d).start.number < 1000) × ((get_or rs k d).fst.number < 1000))
    → length (row_lines i rs) ≤ 24 * length rs
rows_short d [] i h each = omega (arith, ap length (lines_none row_line i))
rows_short d (r ∷ rs) i h each =
    let (start, fst) = each 0 (omega arith) in
    omega (
      arith,
      ap length (lines_first row_line i r rs),
      length-append (row_line i r) (row_lines (suc i) rs),
      row_short i r (omega arith) start fst,
      rows_short d rs (suc i) (omega arith) (λ k g. each (suc k) (omega arith)),
    )

-- a reply's text opened, its lines closed
pub reply_text_lem : (T : Table) (q : ℕ) → reply_text (reply_of T q) ≡ period_line q ++ row_lines 0 (reply_of T q).rows
unfolding reply_text reply_of
reply_text_lem T q = refl

module _ (T : Table) (q : ℕ) (ok : Accepted T) where
  -- an operation starts before date 1000, and is folded to no later date and no higher index
  pub row_small : (k : ℕ) → k < nops T → ((folded q (op T k)).start.number < 1000) × ((folded q (op T k)).fst.number < 1000)
  row_small k h =
      let start = (op T k).start in
      let small : start < 1000 = omega (arith, (ok.each k h).lasts, (ok.each k h).fits, ok.len_high) in
      (omega arith, omega (arith, div-le_self start q))

  lines_short : length (row_lines 0 (reply_of T q).rows) ≤ 24 * nops T
  unfolding reply_of
  lines_short =
      let count : length (map (folded q) T.ops) ≡ nops T = length-map T.ops (folded q) in
      rw (← count)
      (rows_short (folded q no_op) (map (folded q) T.ops) 0 (omega (arith, ok.ops_high))
      (λ k g. rw (get_or-map (folded q) T.ops k no_op) (row_small k (omega arith))))

  pub reply_longest : q ≤ T.len → length (reply_text (reply_of T q)) ≤ longest_text
  reply_longest h =
      omega (
        arith,
        ap length (reply_text_lem T q),
        length-append (period_line q) (row_lines 0 (reply_of T q).rows),
        period_short q (omega (arith, ok.len_high)),
        lines_short,
        ok.ops_high,
      )

-- whatever was judged, with small figures where it was refused
answer_longest : (u : Verdict Table) (v : Verdict Reply) → ((T : Table) → u ≡ accepted T → Accepted T)
    → ((n a b : ℕ) → u ≡ refused n a b → Small n a b) → Answers Planned u v → length (text_of v) ≤ longest_text
unfolding Answers text_of
answer_longest (accepted T) v good small (R, (q, period, e), f) =
    rw (f ∙ ap accepted e) (reply_longest T q (good T refl) period.high)
answer_longest (refused n a b) v good small e =
    let fig = small n a b refl in
    rw e (omega (arith, refused_short n a b (omega (arith, fig.high)) (omega (arith, fig.first)) (omega (arith, fig.second))))

-- the text for a table's bytes
pub text_longest : (s : List ℕ) (v : Verdict Reply) → ReplyTo s v → length (text_of v) ≤ longest_text
text_longest s v = answer_longest (judge s) v (judge_accepted s) (figures_small s)

-- ---- "it prints the two lines `period 3` and `op 0 start 1 fst 0`"
pub k1_text : text_of (plan_of k1_bytes)
    ≡ 112 ∷ 101 ∷ 114 ∷ 105 ∷ 111 ∷ 100 ∷ 32 ∷ 51 ∷ 10
    ∷ 111 ∷ 112 ∷ 32 ∷ 48 ∷ 32 ∷ 115 ∷ 116 ∷ 97 ∷ 114 ∷ 116 ∷ 32 ∷ 49 ∷ 32 ∷ 102 ∷ 115 ∷ 116 ∷ 32 ∷ 48 ∷ 10 ∷ []
unfolding text_of plan_of k1_bytes
k1_text = refl
