-- Tests that compute: which modes a run can reach, whether a period is right, whether a gap serves, the period, the gap and the reply. Not part
-- of any promise: proofs/Tests, Exists, Gaps and Answering show that they are what the rules say.
-- Assumes nothing.
use Rattle.std.specs.Prelude.{ℕ, zero, suc, ◌+◌, ◌-◌, ◌*◌, ◌/◌, ◌^◌, ◌<◌, ◌≤◌, ◌≡◌, Bool, true, not, cond, ◌&&◌, List, [], ◌∷◌, leb, ltb, eqb}
use Rattle.std.specs.Int.Bits.{bit_and, bit_or, bit_xor}
use Rattle.rules.specs.Sets.{has, Share, shares, overlaps}
use Rattle.rules.specs.Table.{Op, Table, nops, op, end_of, held_to}
use Rattle.rules.specs.Rows.{Reply, reply_of}
use Rattle.rules.specs.Verdicts.{Verdict, accepted, ◌then◌, onwards}
use Rattle.rules.specs.Judge.{judge}
use Rattle.rules.specs.Answers.{asked, asked_table}

-- the test f passes at each number below n
unfoldable pub all : (ℕ → Bool) → ℕ → Bool
all f zero = true
all f (suc n) = f n && all f n

-- ---- sets

-- the members of s that are not in t
unfoldable pub without : ℕ → ℕ → ℕ
without s t = bit_xor s (bit_and s t)

-- ---- modes

-- the modes that follow a mode of s, for the list of the followers of modes 0, 1, ..
unfoldable pub step : List ℕ → ℕ → ℕ
unfolding has
step [] s = 0
step (f ∷ fs) s = bit_or (cond (has s 0) f 0) (step fs (s / 2))

-- the modes n + 1 turns after a mode of s, by way of modes that are not in w
unfoldable pub via : List ℕ → ℕ → ℕ → ℕ → ℕ
unfolding step without
via F w zero s = step F s
via F w (suc n) s = via F w n (without (step F s) w)

-- s with what follows added until nothing is new, n times at most
unfoldable pub close : List ℕ → ℕ → ℕ → ℕ
unfolding step
close F zero s = s
close F (suc n) s = let r = close F n (bit_or s (step F s)) in cond (eqb (bit_or s (step F s)) s) s r

-- the modes that a run can reach
unfoldable pub reach_set : Table → ℕ
unfolding close
reach_set T = close T.follow (2 ^ T.modes) T.first

-- the modes of all the operations that pass f
unfoldable pub modes_of : (Op → Bool) → List Op → ℕ
modes_of f [] = 0
modes_of f (o ∷ os) = bit_or (cond (f o) o.modes 0) (modes_of f os)

-- ---- rightness. R is the set of the modes that a run can reach.

-- operation j, n + 1 cycles after i, wants a board while i holds it
unfoldable pub board_bad : Table → ℕ → ℕ → ℕ → ℕ → ℕ → Bool
unfolding shares overlaps via
board_bad T R q n i j =
    ltb (suc n * q) T.len
    && (shares (op T i).boards (op T j).boards
    && (overlaps (op T i).start (held_to (op T i)) ((op T j).start + suc n * q) (held_to (op T j) + suc n * q)
    && shares (via T.follow 0 n (bit_and R (op T i).modes)) (op T j).modes))

-- the modes in which cell c is written; of those of operation i, the ones in which it is the last to write c; of those of j, the
-- ones in which no write of c ends by the start of j
unfoldable pub writers : Table → ℕ → ℕ
unfolding has modes_of
writers T c = modes_of (λ o. has o.writes c) T.ops

unfoldable pub last_in : Table → ℕ → ℕ → ℕ
unfolding has modes_of without
last_in T c i = without (op T i).modes (modes_of (λ o. has o.writes c && ltb (end_of (op T i)) (end_of o)) T.ops)

unfoldable pub fresh_in : Table → ℕ → ℕ → ℕ
unfolding has modes_of without
fresh_in T c j = without (op T j).modes (modes_of (λ o. has o.writes c && leb (end_of o) (op T j).start) T.ops)

-- operation j reads in cell c what i wrote n + 1 cycles before, and starts before i has ended
unfoldable pub value_bad : Table → ℕ → ℕ → ℕ → ℕ → ℕ → ℕ → Bool
unfolding has shares via writers last_in fresh_in
value_bad T R q n c i j =
    ltb (suc n * q) T.len
    && (has (op T i).writes c
    && (has (op T j).reads c
    && (ltb ((op T j).start + suc n * q) (end_of (op T i))
    && shares (via T.follow (writers T c) n (bit_and R (last_in T c i))) (fresh_in T c j))))

unfoldable pub boards_fine : Table → ℕ → ℕ → Bool
unfolding all board_bad
boards_fine T R q = all (λ n. all (λ i. all (λ j. not (board_bad T R q n i j)) (nops T)) (nops T)) T.len

unfoldable pub values_fine : Table → ℕ → ℕ → Bool
unfolding all value_bad
values_fine T R q =
    all (λ n. all (λ c. all (λ i. all (λ j. not (value_bad T R q n c i j)) (nops T)) (nops T)) T.cells) T.len

unfoldable pub rightb : Table → ℕ → Bool
unfolding boards_fine values_fine reach_set
rightb T q = boards_fine T (reach_set T) q && values_fine T (reach_set T) q

-- ---- the period

-- the first number from q on that passes, and q + n where none before it does
unfoldable pub first_from : (ℕ → Bool) → ℕ → ℕ → ℕ
first_from f zero q = q
first_from f (suc n) q = let r = first_from f n (suc q) in cond (f q) q r

unfoldable pub period_of : Table → ℕ
unfolding first_from rightb
period_of T = first_from (rightb T) (T.len - 1) 1

-- the reply to a table's bytes
unfoldable pub plan_of : List ℕ → Verdict Reply
unfolding onwards judge period_of reply_of
plan_of s = onwards (judge s) (λ T. accepted (reply_of T (period_of T)))

-- whether the boards fit at q, and whether the values arrive
unfoldable pub boards_answer : List ℕ → ℕ → Verdict Bool
unfolding onwards judge asked ◌then◌ boards_fine reach_set
boards_answer s q = onwards (asked_table s q) (λ T. accepted (boards_fine T (reach_set T) q))

unfoldable pub values_answer : List ℕ → ℕ → Verdict Bool
unfolding onwards judge asked ◌then◌ values_fine reach_set
values_answer s q = onwards (asked_table s q) (λ T. accepted (values_fine T (reach_set T) q))

-- ---- the gap: document 02, No. 6

-- operation j, n + 1 gaps after i, starts before i has let go of a board of it
unfoldable pub late_bad : Table → ℕ → ℕ → ℕ → ℕ → ℕ → Bool
unfolding shares via
late_bad T R g n i j =
    ltb (suc n * g) T.len
    && (shares (op T i).boards (op T j).boards
    && (ltb ((op T j).start + suc n * g) (held_to (op T i))
    && shares (via T.follow 0 n (bit_and R (op T i).modes)) (op T j).modes))

-- i has let go of each board of j when it starts n + 1 gaps later, whatever n; R is the set of the modes that a run can reach
abbrev pub LetGo : Table → ℕ → ℕ → Type 0
LetGo T R g =
    (i : ℕ) → i < nops T → (n j : ℕ) → j < nops T → Share (op T i).boards (op T j).boards
    → shares (via T.follow 0 n (bit_and R (op T i).modes)) (op T j).modes ≡ true
    → held_to (op T i) ≤ (op T j).start + suc n * g

unfoldable pub boards_free : Table → ℕ → ℕ → Bool
unfolding all late_bad
boards_free T R g = all (λ n. all (λ i. all (λ j. not (late_bad T R g n i j)) (nops T)) (nops T)) T.len

-- with equal gaps a reader comes as soon as it ever does, so the test of a period serves for values
unfoldable pub servesb : Table → ℕ → Bool
unfolding boards_free values_fine reach_set
servesb T g = boards_free T (reach_set T) g && values_fine T (reach_set T) g

unfoldable pub gap_of : Table → ℕ
unfolding first_from servesb
gap_of T = first_from (servesb T) (T.len - 1) 1

-- the gap of a table's bytes
unfoldable pub gap_answer : List ℕ → Verdict ℕ
unfolding onwards judge gap_of
gap_answer s = onwards (judge s) (λ T. accepted (gap_of T))
