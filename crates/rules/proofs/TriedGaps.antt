-- Document 02, No. 6, tried before anything is proved over it: which starts are so far apart, and which gaps serve the bench tables. The must-fail
-- edits of Gaps are refused here.
-- Assumes nothing.
use Prim.Native.Nat.{ℕ, zero, suc, ◌+◌, ◌-◌, ◌*◌, ◌<◌, ◌≤◌}
use mathlib.Core.Path.{◌≡◌, refl, ap, ◌∙◌}
use mathlib.Core.List.{List, [], ◌∷◌, ◌++◌, map}
use native.Mathlib.Decide.{dec_lt}
use native.Mathlib.Omega.{arith}
use lib.ListN.{get_or, take, drop, replicate}
use Rattle.rules.specs.Sets.{In, Overlap, has}
use Rattle.rules.specs.Table.{Table, op}
use Rattle.rules.specs.Runs.{BoardsRightAt, ValuesRightAt, spaced}
use Rattle.rules.specs.Gaps.{Apart, Serves, IsGap}
use Rattle.rules.specs.Text.{told, gap_line, refused_line}
use Rattle.rules.specs.Answers.{Answers, IsGapOf, IsSaid, Printed, printed, IsPrinted}
use Rattle.rules.specs.Judge.{judge}
use Rattle.rules.specs.Verdicts.{accepted, refused}
use Rattle.rules.specs.Bytes.{table_bytes}
use Rattle.rules.specs.Words.{gap_asked, nothing_asked, question_of, askable}
use Rattle.rules.specs.Bench.{opn, one_mode, k1, k4, k7, k9, k10, every_second, gap, Holds}
use Rattle.rules.proofs.Tried.{in_zero, run5, twice, k4_wrong, k7_wrong, k9_idle}

-- ---- "each at least that long"

-- gaps of 3 are at least 3 long, and so are gaps of 4
pub just : Apart 3 (spaced 3)
just = record { next = λ k. omega arith }

longer : Apart 3 (spaced 4)
longer = record { next = λ k. omega arith }

-- gaps of 2 are not
shorter : Apart 3 (spaced 2) → ⊥
shorter x = omega (arith, x.next 0)

-- starts at 5, 9, 15, 23, ..: a first start that is not 0, and gaps that differ
abbrev uneven : ℕ → ℕ
uneven k = 5 + k * (k + 3)

differing : Apart 3 uneven
differing = record { next = λ k. omega arith }

-- one gap that is too short, the second: 0, 4, 6, 10, 14, ..
abbrev hurried : ℕ → ℕ
hurried zero = 0
hurried (suc zero) = 4
hurried (suc (suc k)) = 6 + k * 4

one_short : Apart 3 hurried → ⊥
one_short x = omega (arith, x.next 1)

-- ---- K4: [0,1) and [3,4) on one board, p 4

-- none below 4 serves, though 2 is right (`k4_right`): a cycle that starts 3 ticks after another meets it on the board
k4_not_3 : (g : ℕ) → g ≤ 3 → Serves k4 g → ⊥
k4_not_3 g h x = k4_wrong (x (spaced 3) (record { next = λ k. omega arith })).boards

-- K7: what mode 0 wrote comes too late for mode 2, two gaps of 2 later
k7_not_2 : Serves k7 2 → ⊥
k7_not_2 x = k7_wrong (x (spaced 2) (record { next = λ k. omega arith })).values

-- gaps that differ: the cycles that run something start 3 ticks apart, and meet; with equal gaps they never do. Starts at 0, 1, 3, 5, ..
abbrev one_two : ℕ → ℕ
one_two zero = 0
one_two (suc k) = 1 + k * 2

every_second_not_1 : Serves every_second 1 → ⊥
unfolding BoardsRightAt has
every_second_not_1 x =
    (x one_two (record { next = steps })).boards (0 ∷ 1 ∷ 0 ∷ []) (record { some = run5.some; begins = run5.begins; goes = run5.goes }) 1 0 0 2
    (record { cycle = omega arith; is_op = omega arith; in_mode = refl })
    (record { cycle = omega arith; is_op = omega arith; in_mode = refl })
    (λ e. omega (arith, e.1))
    (0, refl, refl)
    (omega arith)
  where
    steps : (k : ℕ) → one_two k + 1 ≤ one_two (suc k)
    steps zero = omega arith
    steps (suc k) = omega arith

-- a step that is longer than its table has no gap: 3 would serve, and is past p
abbrev too_long : Table
too_long = one_mode 2 1 0 (opn 0 3 1 0 0 1 ∷ [])

too_long_none : IsGap too_long 3 → ⊥
too_long_none x = omega (arith, x.high)

-- ---- K1: [1,4) on its board; at 2 the next cycle is a tick too early, at 3 it comes when the board is free

k1_not_2 : (g : ℕ) → g ≤ 2 → Serves k1 g → ⊥
unfolding BoardsRightAt has
k1_not_2 g low x =
    (x (spaced 2) (record { next = λ k. omega arith })).boards (0 ∷ 0 ∷ []) (twice 5 1 0 _) 0 0 0 1
    (record { cycle = omega arith; is_op = omega arith; in_mode = refl })
    (record { cycle = omega arith; is_op = omega arith; in_mode = refl })
    (λ e. omega (arith, e.1))
    (0, refl, refl)
    (omega arith)

-- a later cycle starts a gap later at least
far : {g : ℕ} (s : ℕ → ℕ) → Apart g s → (k l n : ℕ) → l ≡ suc (k + n) → s k + g ≤ s l
far s x k l zero e = let same : suc k ≡ l = omega arith in rw same at (x.next k)
far s x k l (suc n) e = omega (arith, far s x (suc k) l n (omega arith), x.next k)

k1_boards : (s : ℕ → ℕ) → Apart 3 s → BoardsRightAt k1 s
unfolding BoardsRightAt
k1_boards s a r run zero k zero l x y ne share lap = go (dec_lt k l) (dec_lt l k)
  where
    go : Dec (k < l) → Dec (l < k) → ⊥
    go (yes h) d = omega (arith, far s a k l (l - suc k) (omega arith))
    go (no h) (yes d) = omega (arith, far s a l k (k - suc l) (omega arith))
    go (no h) (no d) = ne (refl, omega arith)
k1_boards s a r run zero k (suc j) l x y ne share lap = omega (arith, y.is_op)
k1_boards s a r run (suc i) k j l x y ne share lap = omega (arith, x.is_op)

-- where nothing is read, no value comes too late
unread : (T : Table) → ((j c : ℕ) → In c (op T j).reads → ⊥) → (s : ℕ → ℕ) → ValuesRightAt T s
unfolding ValuesRightAt
unread T none s r run c i k j l y reads source = absurd (none j c reads)

k1_unread : (j c : ℕ) → In c (op k1 j).reads → ⊥
k1_unread zero c h = in_zero c h
k1_unread (suc j) c h = in_zero c h

pub k1_serves : Serves k1 3
k1_serves s a = record { boards = k1_boards s a; values = unread k1 k1_unread s }

-- so its gap is 3 and no other: 2 does not serve, and 4, which does, is not the smallest
k1_gap : IsGap k1 3 × ((g : ℕ) → IsGap k1 g → g ≡ 3)
k1_gap = (
  record { low = omega arith; high = omega arith; serves = k1_serves; least = λ g low h. k1_not_2 g (omega arith) },
  λ g x. only g x (dec_lt g 3) (dec_lt 3 g),
)
  where
    only : (g : ℕ) → IsGap k1 g → Dec (g < 3) → Dec (3 < g) → g ≡ 3
    only g x (yes h) d = absurd (k1_not_2 g (omega arith) x.serves)
    only g x (no h) (yes d) = absurd (x.least 3 (omega arith) d k1_serves)
    only g x (no h) (no d) = omega arith

-- ---- K4 again: its gap is its length, though 2 is right

-- steps that end by 4 meet in one cycle only
together : (s : ℕ → ℕ) → Apart 4 s → (t e u f k l : ℕ) → e ≤ 4 → f ≤ 4 → Overlap (t + s k) (e + s k) (u + s l) (f + s l) → k ≡ l
together s a t e u f k l he hf lap = go (dec_lt k l) (dec_lt l k)
  where
    go : Dec (k < l) → Dec (l < k) → k ≡ l
    go (yes h) d = absurd (omega (arith, far s a k l (l - suc k) (omega arith)))
    go (no h) (yes d) = absurd (omega (arith, far s a l k (k - suc l) (omega arith)))
    go (no h) (no d) = omega arith

k4_clear : (s : ℕ → ℕ) → Apart 4 s → BoardsRightAt k4 s
unfolding BoardsRightAt
k4_clear s a r run zero k zero l x y ne share lap = ne (refl, together s a 0 1 0 1 k l (omega arith) (omega arith) lap)
k4_clear s a r run zero k (suc zero) l x y ne share lap =
    omega (arith, ap s (together s a 0 1 3 4 k l (omega arith) (omega arith) lap))
k4_clear s a r run (suc zero) k zero l x y ne share lap =
    omega (arith, ap s (together s a 3 4 0 1 k l (omega arith) (omega arith) lap))
k4_clear s a r run (suc zero) k (suc zero) l x y ne share lap =
    ne (refl, together s a 3 4 3 4 k l (omega arith) (omega arith) lap)
k4_clear s a r run zero k (suc (suc j)) l x y ne share lap = omega (arith, y.is_op)
k4_clear s a r run (suc zero) k (suc (suc j)) l x y ne share lap = omega (arith, y.is_op)
k4_clear s a r run (suc (suc i)) k j l x y ne share lap = omega (arith, x.is_op)

k4_unread : (j c : ℕ) → In c (op k4 j).reads → ⊥
k4_unread zero c h = in_zero c h
k4_unread (suc zero) c h = in_zero c h
k4_unread (suc (suc j)) c h = in_zero c h

k4_gap : IsGap k4 4 × ((g : ℕ) → IsGap k4 g → g ≡ 4)
k4_gap = (
  record {
    low = omega arith;
    high = omega arith;
    serves = λ s a. record { boards = k4_clear s a; values = unread k4 k4_unread s };
    least = λ g low h. k4_not_3 g (omega arith);
  },
  λ g x. only g x (dec_lt g 4),
)
  where
    only : (g : ℕ) → IsGap k4 g → Dec (g < 4) → g ≡ 4
    only g x (yes h) = absurd (k4_not_3 g (omega arith) x.serves)
    only g x (no h) = omega (arith, x.high)

-- K9: nothing runs in the mode that is reached, and every gap serves
k9_serves : (g : ℕ) → Serves k9 g
unfolding BoardsRightAt ValuesRightAt
k9_serves g s a =
    record {
      boards = λ r run i k j l x y ne b lap. k9_idle r run k i x;
      values = λ r run c i k j l y v e. absurd (k9_idle r run l j y);
    }

-- so its gap is 1 and no other: 0 is none, and a longer one is not the smallest
k9_gap : IsGap k9 1 × ((g : ℕ) → IsGap k9 g → g ≡ 1)
k9_gap = (
  record { low = omega arith; high = omega arith; serves = k9_serves 1; least = λ g low h. absurd (omega arith) },
  λ g x. only g x (dec_lt 1 g),
)
  where
    only : (g : ℕ) → IsGap k9 g → Dec (1 < g) → g ≡ 1
    only g x (yes h) = absurd (x.least 1 (omega arith) h (k9_serves 1))
    only g x (no h) = omega arith

-- ---- the answer, and the word `gap`

-- K4: the gap, 4, and not the period, 2
k4_answers : IsGapOf (table_bytes k4) (accepted 4) × (IsGapOf (table_bytes k4) (accepted 2) → ⊥)
unfolding Answers judge table_bytes
k4_answers = ((4, k4_gap.0, refl), λ (g, x, e). let same : 2 ≡ g = cc in omega (arith, k4_gap.1 g x))

k10_refused : IsGapOf (table_bytes k10) (refused 6 0 1)
unfolding Answers judge table_bytes
k10_refused = refl

abbrev gap_word_lem : List ℕ
gap_word_lem = 103 ∷ 97 ∷ 112 ∷ []

-- `gap`; `gap 5`, `gap gap`, `5 gap` ask nothing, nor do "Gap", "ga", "gaps", nor `boards gap`, `boards gap 5`
gap_asked_lem : map question_of
    ((gap_word_lem ∷ [])
    ∷ (gap_word_lem ∷ (53 ∷ []) ∷ [])
    ∷ (gap_word_lem ∷ gap_word_lem ∷ [])
    ∷ ((53 ∷ []) ∷ gap_word_lem ∷ [])
    ∷ ((71 ∷ 97 ∷ 112 ∷ []) ∷ [])
    ∷ ((103 ∷ 97 ∷ []) ∷ [])
    ∷ ((103 ∷ 97 ∷ 112 ∷ 115 ∷ []) ∷ [])
    ∷ ((98 ∷ 111 ∷ 97 ∷ 114 ∷ 100 ∷ 115 ∷ []) ∷ gap_word_lem ∷ [])
    ∷ ((98 ∷ 111 ∷ 97 ∷ 114 ∷ 100 ∷ 115 ∷ []) ∷ gap_word_lem ∷ (53 ∷ []) ∷ [])
    ∷ [])
    ≡ gap_asked ∷ replicate 8 nothing_asked
unfolding question_of
gap_asked_lem = refl

-- the list of what can be asked has a line "fold gap: ..s", behind the one of `unfold` and before "I, J, N, Q .."
gap_listed : take 11 (drop 315 askable) ++ take 3 (drop 405 askable)
    ≡ 10 ∷ 102 ∷ 111 ∷ 108 ∷ 100 ∷ 32 ∷ 103 ∷ 97 ∷ 112 ∷ 58 ∷ 32 ∷ 115 ∷ 10 ∷ 73 ∷ []
unfolding askable
gap_listed = refl

-- "gap 1", "gap 1000"
gap_lines : map gap_line (1 ∷ 1000 ∷ []) ≡ (103 ∷ 97 ∷ 112 ∷ 32 ∷ 49 ∷ 10 ∷ []) ∷ (103 ∷ 97 ∷ 112 ∷ 32 ∷ 49 ∷ 48 ∷ 48 ∷ 48 ∷ 10 ∷ []) ∷ []
unfolding gap_line
gap_lines = refl

-- K4's gap, and K10's refusal, asked in words
k4_printed : IsPrinted (gap_word_lem ∷ []) (table_bytes k4) (record { out = gap_line 4; err = [] })
unfolding question_of IsSaid printed
k4_printed = (gap_line 4, (accepted 4, k4_answers.0, refl), refl)

-- and not its period
lines_differ : gap_line 2 ≡ gap_line 4 → ⊥
unfolding gap_line
lines_differ e = omega (arith, ap (λ (t : List ℕ). get_or t 4 0) e)

k4_not_printed : IsPrinted (gap_word_lem ∷ []) (table_bytes k4) (record { out = gap_line 2; err = [] }) → ⊥
unfolding question_of IsSaid printed Answers judge table_bytes
k4_not_printed (text, (v, (g, x, e), f), h) =
    let same : v ≡ accepted 4 = e ∙ ap (λ (n : ℕ). accepted n) (k4_gap.1 g x) in
    lines_differ (ap (λ (p : Printed). p.out) h ∙ f ∙ ap (told gap_line) same)

k10_printed : IsPrinted (gap_word_lem ∷ []) (table_bytes k10) (record { out = refused_line 6 0 1; err = [] })
unfolding question_of IsSaid printed
k10_printed = (refused_line 6 0 1, (refused 6 0 1, k10_refused, refl), refl)

-- what a case of the bench claims
k4_claimed : Holds (gap k4 4) × (Holds (gap k4 2) → ⊥)
unfolding Holds
k4_claimed = k4_answers
