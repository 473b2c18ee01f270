-- The definitions tried on the bench tables, before anything is proved over them: each fact follows from the definitions alone, by an explicit
-- run or by computing. The must-fail edits of this crate are refused here.
-- Assumes nothing.
use Prim.Native.Nat.{ℕ, zero, suc, ◌+◌, ◌/◌, ◌%◌, ◌^◌, ◌<◌, ◌≤◌}
use mathlib.Core.Path.{◌≡◌, refl, subst}
use mathlib.Core.Bool.{true, false, false≢true}
use mathlib.Core.List.{List, [], ◌∷◌, ◌++◌, map}
use mathlib.Core.Logic.{◌⊎◌, inl, inr}
use native.Mathlib.Decide.{dec_lt}
use native.Mathlib.Nat.{div-eq_of_lt}
use native.Mathlib.Omega.{arith}
use lib.IntN.{pos, negsuc}
use lib.Pow.{pow_mono}
use lib.ListN.{length, get_or, take, replicate}
use borrow.Author.Tests.{eqb-true}
use Rattle.rules.specs.Sets.{has, In, Share, Within, Overlap}
use Rattle.rules.specs.Table.{Op, nobody, decides, Table, no_op, op, followers, Clash, Contest, Race, Always, DecidedBy, Decided, OpOk, Accepted}
use Rattle.rules.specs.Runs.{mode, IsRun, Runs, plain_start, plain_end, Source, BoardsRightAt, ValuesRightAt, Right, spaced, IsPeriod}
use Rattle.rules.specs.Better.{OpBetter, Better}
use Rattle.rules.specs.Rows.{ticks, reply_of, starts_of, margin}
use Rattle.rules.specs.Verdicts.{Verdict, accepted, refused, Test, ◌then◌}
use Rattle.rules.specs.Bytes.{op_bytes, op_at, table_bytes, longest_table, farthest, joined, reply_bytes, starts_bytes}
use Rattle.rules.specs.Judge.{ops_from, with_decider, judge, ops_of_numbers, judge_numbers, judge_reply}
use Rattle.rules.specs.Text.{reply_text, text_of, yes_no_line, margin_line, starts_text}
use Rattle.rules.specs.Words.{fold_asked, boards_asked, values_asked, margin_asked, unfold_asked, nothing_asked, question_of, askable}
use Rattle.rules.specs.Answers.{put, written, Answers, bytes_of, IsText, IsUnfold, margin_test, asked, BoardsFit, ValuesArrive, printed, IsPrinted, IsSaid}
use Rattle.rules.specs.Bench.{opn, held, one_mode, k1, k1_bytes, k2, k3, k4, k5, k6, k7, k8, k9, k10, k10_touching, row, each_turn, cold_warm, analyzer, sampled, hasty, hasty_first, half, unreached_half, unreached_hasty, racing, clashing, k1_held, polarised, polarised_last, already_good, good_next_cycle, decides_settling, k1_20}

-- ---- members of small sets

-- a set below 2 ^ n has no member from n on
pub in_small : (n s m : ℕ) → s < 2 ^ n → n ≤ m → In m s → ⊥
unfolding has
in_small n s m small h x =
    let far : 2 ^ n ≤ 2 ^ m = pow_mono h in omega (arith, eqb-true (s / 2 ^ m % 2) 1 x, div-eq_of_lt {n = s} {m = 2 ^ m} (omega arith))

pub in_zero : (m : ℕ) → In m 0 → ⊥
in_zero m = in_small 0 0 m (omega arith) (omega arith)

pub only_zero : (m : ℕ) → In m 1 → m ≡ 0
only_zero zero h = refl
only_zero (suc m) h = absurd (in_small 1 1 (suc m) (omega arith) (omega arith) h)

pub only_one : (m : ℕ) → In m 2 → m ≡ 1
unfolding has
only_one zero h = absurd (false≢true h)
only_one (suc zero) h = refl
only_one (suc (suc m)) h = absurd (in_small 2 2 (suc (suc m)) (omega arith) (omega arith) h)

-- ---- "Two operations that touch (one ends where the other starts) do not overlap."
touching : Overlap 0 2 2 3 → ⊥
touching x = omega arith

-- ---- clash and race: K10's two operations; on one board and in different modes there is no clash
k10_clash : Clash (op k10 0) (op k10 1)
unfolding has
k10_clash = record { board = (0, refl, refl); mode = (0, refl, refl); lap = omega arith }

modes_apart : Clash (opn 0 2 1 0 0 1) (opn 0 2 1 0 0 2) → ⊥
unfolding has
modes_apart x = no_mode x.mode
  where
    no_mode : Share 1 2 → ⊥
    no_mode (m, a, b) = omega (arith, only_zero m a, only_one m b)

-- "one writes a cell that the other reads or writes": the first writes and the second reads, the other way round, and both write
race_read : Race (opn 0 2 1 0 1 1) (opn 1 2 2 1 0 1)
unfolding has
race_read = record { mode = (0, refl, refl); lap = omega arith; cell = (0, inl (refl, inl refl)) }

race_written : Race (opn 0 2 1 1 0 1) (opn 1 2 2 0 1 1)
unfolding has
race_written = record { mode = (0, refl, refl); lap = omega arith; cell = (0, inr (refl, refl)) }

race_both : Race (opn 0 2 1 0 1 1) (opn 1 2 2 0 1 1)
unfolding has
race_both = record { mode = (0, refl, refl); lap = omega arith; cell = (0, inl (refl, inr refl)) }

-- two that only read do not race
two_readers : Race (opn 0 2 1 1 0 1) (opn 1 2 2 1 0 1) → ⊥
unfolding has
two_readers x = go x.cell.1
  where
    go : Contest (opn 0 2 1 1 0 1) (opn 1 2 2 1 0 1) x.cell.0 → ⊥
    go (inl (w, y)) = in_zero x.cell.0 w
    go (inr (y, w)) = in_zero x.cell.0 w

-- K10 is not accepted
k10_not : Accepted k10 → ⊥
k10_not ok = ok.no_clash 0 1 (omega arith) (omega arith) k10_clash

-- ---- order at one date: in K8 the reader, which starts when the first write of its cycle ends, takes that write ..
k8_source : Source k8 (0 ∷ 0 ∷ []) 0 (plain_start k8 1 1) 0 1
unfolding has
k8_source =
    record {
      runs = record { cycle = omega arith; is_op = omega arith; in_mode = refl };
      writes = refl;
      before = omega arith;
      last = λ u m x w h. h;
    }

-- .. and not the one of the cycle before, which is not the last
k8_not_before : Source k8 (0 ∷ 0 ∷ []) 0 (plain_start k8 1 1) 2 0 → ⊥
unfolding has
k8_not_before x =
    let h = x.last 0 1 (record { cycle = omega arith; is_op = omega arith; in_mode = refl }) refl (omega arith) in omega arith

-- ---- distance: K5 is wrong at 1, by cycles 0 and 2 of the run 0, 1, 0
pub run5 : IsRun k5 (0 ∷ 1 ∷ 0 ∷ [])
unfolding has
run5 = record { some = omega arith; begins = refl; goes = go }
  where
    go : (k : ℕ) → suc k < 3 → In (mode (0 ∷ 1 ∷ 0 ∷ []) (suc k)) (get_or (2 ∷ 1 ∷ []) (mode (0 ∷ 1 ∷ 0 ∷ []) k) 0)
    go zero h = refl
    go (suc zero) h = refl
    go (suc (suc k)) h = absurd (omega arith)

k5_wrong : BoardsRightAt k5 (spaced 1) → ⊥
unfolding BoardsRightAt has
k5_wrong right =
    right (0 ∷ 1 ∷ 0 ∷ []) run5 0 0 0 2
    (record { cycle = omega arith; is_op = omega arith; in_mode = refl })
    (record { cycle = omega arith; is_op = omega arith; in_mode = refl })
    (λ e. omega (arith, e.1))
    (0, refl, refl)
    (omega arith)

-- ---- "with each operation at t + k·q": K4 is right at 2, where its operations take turns on the board, and wrong at 3, by cycles 0 and 1
k4_boards : BoardsRightAt k4 (spaced 2)
unfolding BoardsRightAt
k4_boards r run zero k zero l x y apart share lap = apart (refl, omega arith)
k4_boards r run zero k (suc zero) l x y apart share lap = omega arith
k4_boards r run (suc zero) k zero l x y apart share lap = omega arith
k4_boards r run (suc zero) k (suc zero) l x y apart share lap = apart (refl, omega arith)
k4_boards r run zero k (suc (suc j)) l x y apart share lap = omega (arith, y.is_op)
k4_boards r run (suc zero) k (suc (suc j)) l x y apart share lap = omega (arith, y.is_op)
k4_boards r run (suc (suc i)) k j l x y apart share lap = omega (arith, x.is_op)

k4_values : (q : ℕ) → ValuesRightAt k4 (spaced q)
unfolding ValuesRightAt
k4_values q r run c i k zero l y reads source = absurd (in_zero c reads)
k4_values q r run c i k (suc zero) l y reads source = absurd (in_zero c reads)
k4_values q r run c i k (suc (suc j)) l y reads source = absurd (in_zero c reads)

k4_right : Right k4 2
k4_right = record { boards = k4_boards; values = k4_values 2 }

-- the only mode twice
pub twice : (p b c : ℕ) (os : List Op) → IsRun (one_mode p b c os) (0 ∷ 0 ∷ [])
unfolding has
twice p b c os = record { some = omega arith; begins = refl; goes = go }
  where
    go : (k : ℕ) → suc k < 2 → In (mode (0 ∷ 0 ∷ []) (suc k)) (get_or (1 ∷ []) (mode (0 ∷ 0 ∷ []) k) 0)
    go zero h = refl
    go (suc k) h = absurd (omega arith)

pub k4_wrong : BoardsRightAt k4 (spaced 3) → ⊥
unfolding BoardsRightAt has
k4_wrong right =
    right (0 ∷ 0 ∷ []) (twice 4 1 0 _) 1 0 0 1
    (record { cycle = omega arith; is_op = omega arith; in_mode = refl })
    (record { cycle = omega arith; is_op = omega arith; in_mode = refl })
    (λ e. omega (arith, e.1))
    (0, refl, refl)
    (omega arith)

-- ---- a carried value: K7 is wrong at 2, by what mode 0 wrote and mode 2 reads, past the idle mode 1
run7 : IsRun k7 (0 ∷ 1 ∷ 2 ∷ [])
unfolding has
run7 = record { some = omega arith; begins = refl; goes = go }
  where
    go : (k : ℕ) → suc k < 3 → In (mode (0 ∷ 1 ∷ 2 ∷ []) (suc k)) (get_or (2 ∷ 4 ∷ 1 ∷ []) (mode (0 ∷ 1 ∷ 2 ∷ []) k) 0)
    go zero h = refl
    go (suc zero) h = refl
    go (suc (suc k)) h = absurd (omega arith)

k7_source : Source k7 (0 ∷ 1 ∷ 2 ∷ []) 0 (plain_start k7 1 2) 0 0
unfolding has
k7_source =
    record {
      runs = record { cycle = omega arith; is_op = omega arith; in_mode = refl };
      writes = refl;
      before = omega arith;
      last = go;
    }
  where
    go : (u m : ℕ) → Runs k7 (0 ∷ 1 ∷ 2 ∷ []) m u → In 0 (op k7 u).writes → plain_end k7 u m ≤ plain_start k7 1 2
        → plain_end k7 u m ≤ plain_end k7 0 0
    go zero zero x w h = omega arith
    go zero (suc zero) x w h = absurd (false≢true x.in_mode)
    go zero (suc (suc zero)) x w h = absurd (false≢true x.in_mode)
    go zero (suc (suc (suc m))) x w h = absurd (omega (arith, x.cycle))
    go (suc zero) m x w h = absurd (false≢true w)
    go (suc (suc u)) m x w h = absurd (false≢true w)

pub k7_wrong : ValuesRightAt k7 (spaced 2) → ⊥
unfolding ValuesRightAt has
k7_wrong right =
    let h = right (0 ∷ 1 ∷ 2 ∷ []) run7 0 0 0 1 2 (record { cycle = omega arith; is_op = omega arith; in_mode = refl }) refl k7_source in omega arith

-- its boards fit there: each operation is its board's only one, and as long as the period at most
k7_boards : BoardsRightAt k7 (spaced 2)
unfolding BoardsRightAt has
k7_boards r run zero k zero l x y apart share lap = apart (refl, omega arith)
k7_boards r run zero k (suc zero) l x y apart (b, u, v) lap = omega (arith, only_one b u, only_zero b v)
k7_boards r run (suc zero) k zero l x y apart (b, u, v) lap = omega (arith, only_zero b u, only_one b v)
k7_boards r run (suc zero) k (suc zero) l x y apart share lap = apart (refl, omega arith)
k7_boards r run zero k (suc (suc j)) l x y apart share lap = omega (arith, y.is_op)
k7_boards r run (suc zero) k (suc (suc j)) l x y apart share lap = omega (arith, y.is_op)
k7_boards r run (suc (suc i)) k j l x y apart share lap = omega (arith, x.is_op)

-- ---- modes that no run reaches: K9 is right at 1
k9_mode : (r : List ℕ) → IsRun k9 r → (k : ℕ) → k < length r → mode r k ≡ 1
k9_mode r run zero h = only_one (mode r 0) run.begins
k9_mode r run (suc k) h =
    only_one (mode r (suc k))
    (subst (λ (a : ℕ). In (mode r (suc k)) (followers k9 a)) (k9_mode r run k (omega arith)) (run.goes k h))

pub k9_idle : (r : List ℕ) → IsRun k9 r → (k i : ℕ) → Runs k9 r k i → ⊥
unfolding has
k9_idle r run k zero x = false≢true (subst (λ (a : ℕ). In a 1) (k9_mode r run k x.cycle) x.in_mode)
k9_idle r run k (suc i) x = omega (arith, x.is_op)

k9_right : Right k9 1
unfolding BoardsRightAt ValuesRightAt
k9_right =
    record {
      boards = λ r run i k j l x y ne b lap. k9_idle r run k i x;
      values = λ r run c i k j l y v s. absurd (k9_idle r run l j y);
    }

-- so its period is 1 and no other: 0 is none, and a longer one is not the smallest
k9_period : IsPeriod k9 1 × ((q : ℕ) → IsPeriod k9 q → q ≡ 1)
k9_period = (
  record { low = omega arith; high = omega arith; right = k9_right; least = λ q low h. absurd (omega arith) },
  λ q x. only q x (dec_lt 1 q),
)
  where
    only : (q : ℕ) → IsPeriod k9 q → Dec (1 < q) → q ≡ 1
    only q x (yes h) = absurd (x.least 1 (omega arith) h k9_right)
    only q x (no h) = omega arith

-- ---- better knowledge: a table with two modes and one operation, by its first modes, followers, boards and duration
abbrev known : ℕ → List ℕ → ℕ → ℕ → Table
known first follow boards dur =
    record { len = 4; boards = 2; cells = 1; modes = 2; first = first; follow = follow; ops = opn 0 dur boards 1 1 3 ∷ []; decider = nobody }

-- a set below 4 is within another where its members 0 and 1 are
two_within : (s t : ℕ) → s < 4 → (In 0 s → In 0 t) → (In 1 s → In 1 t) → Within s t
two_within s t h a b zero x = a x
two_within s t h a b (suc zero) x = b x
two_within s t h a b (suc (suc m)) x = absurd (in_small 2 s (suc (suc m)) h (omega arith) x)

-- K5 permits fewer turns than K6
k5_turns : (a : ℕ) → Within (followers k5 a) (followers k6 a)
unfolding has
k5_turns zero = two_within 2 3 (omega arith) (λ _. refl) (λ _. refl)
k5_turns (suc zero) = two_within 1 3 (omega arith) (λ _. refl) (λ _. refl)
k5_turns (suc (suc a)) = λ m h. h

k5_better : Better k6 k5
k5_better = record { len = refl; count = refl; each = same; firsts = λ m h. h; turns = k5_turns; decider = refl }
  where
    same : (i : ℕ) → i < 2 → OpBetter (op k6 i) (op k5 i)
    same i h = record { start = refl; reads = refl; writes = refl; modes = refl; dur = omega arith; hold = omega arith; boards = λ m x. x }

-- a shorter duration, a board less, a first mode less, a turn less in each mode
all_better : Better (known 3 (3 ∷ 3 ∷ []) 3 4) (known 1 (2 ∷ 1 ∷ []) 2 3)
unfolding has
all_better = record { len = refl; count = refl; each = op_better; firsts = two_within 1 3 (omega arith) (λ _. refl) (λ _. refl); turns = k5_turns; decider = refl }
  where
    op_better : (i : ℕ) → i < 1 → OpBetter (op (known 3 (3 ∷ 3 ∷ []) 3 4) i) (op (known 1 (2 ∷ 1 ∷ []) 2 3) i)
    op_better zero h =
        record {
          start = refl;
          reads = refl;
          writes = refl;
          modes = refl;
          dur = omega arith;
          hold = omega arith;
          boards = two_within 2 3 (omega arith) (λ _. refl) (λ _. refl);
        }
    op_better (suc i) h = absurd (omega arith)

-- not better: a longer duration, a board more, a first mode more, a turn more
longer_not : Better (known 1 (2 ∷ 1 ∷ []) 1 3) (known 1 (2 ∷ 1 ∷ []) 1 4) → ⊥
longer_not x = omega (arith, (x.each 0 (omega arith)).dur)

board_not : Better (known 1 (2 ∷ 1 ∷ []) 1 3) (known 1 (2 ∷ 1 ∷ []) 3 3) → ⊥
unfolding has
board_not x = false≢true ((x.each 0 (omega arith)).boards 1 refl)

first_not : Better (known 1 (2 ∷ 1 ∷ []) 1 3) (known 3 (2 ∷ 1 ∷ []) 1 3) → ⊥
unfolding has
first_not x = false≢true (x.firsts 1 refl)

turn_not : Better (known 1 (2 ∷ 1 ∷ []) 1 3) (known 1 (3 ∷ 1 ∷ []) 1 3) → ⊥
unfolding has
turn_not x = false≢true (x.turns 0 0 refl)

-- not the same decider: another, none, one where there was none
decider_not : Better analyzer (with_decider analyzer (decides 1)) ⊎ (Better analyzer (with_decider analyzer nobody) ⊎ Better (with_decider analyzer nobody) analyzer) → ⊥
decider_not (inl x) = let e = x.decider in let z : ◌≡◌ {A = ℕ} 1 0 = cc in omega arith
decider_not (inr (inl x)) = let e = x.decider in let z : ◌≡◌ {A = ℕ} 1 0 = cc in omega arith
decider_not (inr (inr x)) = let e = x.decider in let z : ◌≡◌ {A = ℕ} 1 0 = cc in omega arith

-- ---- who decides: document 02, No. 4

-- not so decided: a step that starts a tick too early; a decider that does not run in the warm, or in one that no run reaches; a step that
-- runs in every mode but that one; a number that is no operation
hasty_not : DecidedBy hasty 0 → ⊥
unfolding has
hasty_not x = let h = x.later 1 (omega arith) (λ all. false≢true (all 1 (omega arith))) in omega arith

half_not : DecidedBy half 1 → ⊥
unfolding has
half_not x = false≢true (x.always 1 (omega arith))

unreached_not : DecidedBy unreached_half 0 → ⊥
unfolding has
unreached_not x = false≢true (x.always 1 (omega arith))

unreached_hasty_not : DecidedBy unreached_hasty 0 → ⊥
unfolding has
unreached_hasty_not x = let h = x.later 1 (omega arith) (λ all. false≢true (all 1 (omega arith))) in omega arith

no_op_not : Decided analyzer (decides 3) → ⊥
no_op_not x = omega (arith, x.is_op)

-- so that table is not accepted
hasty_refused : Accepted hasty → ⊥
hasty_refused x = hasty_not x.decided

-- "in every mode", of two
both_modes : (T : Table) (o : Op) → T.modes ≡ 2 → o.modes ≡ 3 → Always T o
unfolding has
both_modes T o e f zero h = rw f
both_modes T o e f (suc zero) h = rw f
both_modes T o e f (suc (suc m)) h = absurd (omega arith)

-- so decided: steps that start at the decider's end; and one that runs in every mode and starts before
analyzer_decided : DecidedBy analyzer 0
analyzer_decided = record { is_op = omega arith; always = both_modes analyzer (op analyzer 0) refl refl; later = go }
  where
    go : (i : ℕ) → i < 3 → (Always analyzer (op analyzer i) → ⊥) → 2 ≤ (op analyzer i).start
    go zero h n = absurd (n (both_modes analyzer (op analyzer 0) refl refl))
    go (suc zero) h n = omega arith
    go (suc (suc zero)) h n = omega arith
    go (suc (suc (suc i))) h n = absurd (omega arith)

sampled_decided : DecidedBy sampled 1
sampled_decided = record { is_op = omega arith; always = both_modes sampled (op sampled 1) refl refl; later = go }
  where
    go : (i : ℕ) → i < 3 → (Always sampled (op sampled i) → ⊥) → 3 ≤ (op sampled i).start
    go zero h n = absurd (n (both_modes sampled (op sampled 0) refl refl))
    go (suc zero) h n = absurd (n (both_modes sampled (op sampled 1) refl refl))
    go (suc (suc zero)) h n = omega arith
    go (suc (suc (suc i))) h n = absurd (omega arith)

-- all of three modes
always_three : Always k7 (opn 0 1 1 0 0 3) → ⊥
unfolding has
always_three x = false≢true (x 2 (omega arith))

-- nobody decides: nothing is asked
nobody_decided : Decided hasty nobody
nobody_decided = tt

-- ---- the margin on K4: of the first operation and the second, and the other way round at distance 1 and 2
k4_margins : margin k4 0 1 1 3 ∷ margin k4 1 0 1 3 ∷ margin k4 1 0 2 3 ∷ [] ≡ pos 5 ∷ negsuc 0 ∷ pos 2 ∷ []
unfolding margin
k4_margins = refl

-- ---- fold and unfold, K2 and K3
k2_folded : reply_of k2 2 ≡ record { period = ticks 2; rows = row 0 0 ∷ row 0 1 ∷ row 0 2 ∷ [] }
unfolding reply_of
k2_folded = refl

k3_folded : reply_of k3 4 ≡ record { period = ticks 4; rows = row 0 0 ∷ row 2 0 ∷ row 0 1 ∷ [] }
unfolding reply_of
k3_folded = refl

k3_unfolded : starts_of (reply_of k3 4) ≡ ticks 0 ∷ ticks 2 ∷ ticks 4 ∷ []
unfolding reply_of starts_of
k3_unfolded = refl

-- "Unfolding writes the starts in order, 2 bytes each."
k3_starts : starts_bytes (starts_of (reply_of k3 4)) ≡ 0 ∷ 0 ∷ 0 ∷ 2 ∷ 0 ∷ 4 ∷ []
unfolding starts_bytes starts_of reply_of
k3_starts = refl

-- ---- the reply of document 01's example
k1_reply : reply_bytes (reply_of k1 3) ≡ 17 ∷ 0 ∷ 2 ∷ 0 ∷ 3 ∷ 18 ∷ 0 ∷ 4 ∷ 0 ∷ 1 ∷ 0 ∷ 0 ∷ []
unfolding reply_bytes reply_of
k1_reply = refl

-- ---- bytes and the judge
k1_written : table_bytes k1 ≡ k1_bytes
unfolding table_bytes k1_bytes
k1_written = refl

-- K1 with another length, another duration, its operation n times
k1_with : ℕ → ℕ → ℕ → List ℕ
unfolding table_bytes
k1_with p d n = table_bytes (one_mode p 1 0 (replicate n (opn 1 d 1 0 0 1)))

-- document 01's own cases, and what is easily got wrong: the order of the tests within a field and between fields
inputs : List (List ℕ)
unfolding k1_bytes k1_with table_bytes
inputs =
    []
    ∷ (255 ∷ 0 ∷ [])
    ∷ (255 ∷ 0 ∷ 0 ∷ [])
    ∷ (1 ∷ 0 ∷ 2 ∷ [])
    ∷ (1 ∷ 0 ∷ 3 ∷ [])
    ∷ (1 ∷ 0 ∷ 2 ∷ 0 ∷ 0 ∷ [])
    ∷ take 5 k1_bytes
    ∷ (take 11 k1_bytes ++ (4 ∷ 0 ∷ 18 ∷ []))
    ∷ take 22 k1_bytes
    ∷ take 42 k1_bytes
    ∷ (k1_bytes ++ (0 ∷ 0 ∷ []))
    ∷ (k1_bytes ++ (0 ∷ 0 ∷ 0 ∷ []))
    ∷ (k1_bytes ++ (4 ∷ 0 ∷ 0 ∷ []))
    ∷ (k1_bytes ++ (4 ∷ 0 ∷ 18 ∷ []))
    ∷ k1_with 1001 3 1
    ∷ k1_with 1000 3 1
    ∷ k1_with 5 5 1
    ∷ k1_with 5 4 1
    ∷ k1_with 5 3 2
    ∷ (k1_with 5 3 2 ++ (0 ∷ []))
    ∷ table_bytes k10
    ∷ table_bytes k10_touching
    ∷ []

verdicts : List (Verdict Table)
verdicts =
    refused 2 0 0
    ∷ refused 1 0 0
    ∷ refused 2 0 0
    ∷ refused 1 0 0
    ∷ refused 3 0 0
    ∷ refused 4 0 3
    ∷ refused 2 5 0
    ∷ refused 2 11 0
    ∷ refused 2 22 0
    ∷ refused 1 22 0
    ∷ refused 1 43 0
    ∷ refused 2 43 0
    ∷ refused 3 43 0
    ∷ refused 1 43 0
    ∷ refused 4 0 3
    ∷ accepted (one_mode 1000 1 0 (opn 1 3 1 0 0 1 ∷ []))
    ∷ refused 4 22 27
    ∷ accepted (one_mode 5 1 0 (opn 1 4 1 0 0 1 ∷ []))
    ∷ refused 6 0 1
    ∷ refused 1 64 0
    ∷ refused 6 0 1
    ∷ accepted k10_touching
    ∷ []

judged : map judge inputs ≡ verdicts
unfolding judge inputs verdicts
judged = refl

-- "K1's operation .. 33 times: refused 5 694 0"
many_judged : judge (k1_with 5 3 33) ≡ refused 5 694 0
unfolding judge k1_with
many_judged = refl

-- "header complete, tag due, not a 33rd, length": where one operation more may come, and what stands behind K1's would be a second; at a 05 the
-- operations end
seconds : List (Verdict (List Op))
unfolding ops_from k1_bytes
seconds = map (λ (s : List ℕ). ops_from k1 (k1_bytes ++ s) 1 22) ([] ∷ (4 ∷ []) ∷ (6 ∷ 0 ∷ 18 ∷ []) ∷ (4 ∷ 0 ∷ 1 ∷ []) ∷ (5 ∷ []) ∷ [])

second_judged : seconds ≡ accepted k1.ops ∷ refused 1 43 0 ∷ refused 2 43 0 ∷ refused 5 43 0 ∷ accepted k1.ops ∷ []
unfolding seconds
second_judged = refl

-- operations 0 and 1 race, 2 and 3 clash: all of CLASH comes before RACE
clash_first : judge (table_bytes (one_mode 4 4 1 (opn 0 2 1 0 1 1 ∷ opn 1 2 2 1 0 1 ∷ opn 0 2 4 0 0 1 ∷ opn 1 2 4 0 0 1 ∷ []))) ≡ refused 6 2 3
unfolding judge table_bytes
clash_first = refl

race_next : judge (table_bytes (one_mode 4 4 1 (opn 0 2 1 0 1 1 ∷ opn 1 2 2 1 0 1 ∷ opn 0 2 4 0 0 1 ∷ opn 2 2 4 0 0 1 ∷ []))) ≡ refused 7 0 1
unfolding judge table_bytes
race_next = refl

-- ---- both sides of every range. A table's bytes, judged; in range; RANGE at a field, with the place of the number that is wrong
tried : Table → Test
unfolding judge table_bytes ◌then◌
tried T = judge (table_bytes T) then accepted tt

abbrev good : Test
good = accepted tt

abbrev range : ℕ → ℕ → Test
range at place = refused 4 at place

-- "table length p, in ticks | 1 to 1000"
lengths : map (λ (p : ℕ). tried (one_mode p 1 0 (opn 0 1 1 0 0 1 ∷ []))) (0 ∷ 1 ∷ 1000 ∷ 1001 ∷ []) ≡ range 0 3 ∷ good ∷ good ∷ range 0 3 ∷ []
unfolding tried
lengths = refl

-- "boards | 1 to 16", "cells | 0 to 32", "modes | 1 to 32"
boards_counted : map (λ (b : ℕ). tried (one_mode 5 b 0 (opn 0 1 1 0 0 1 ∷ []))) (0 ∷ 1 ∷ 16 ∷ 17 ∷ []) ≡ range 5 8 ∷ good ∷ good ∷ range 5 8 ∷ []
unfolding tried
boards_counted = refl

cells_counted : map (λ (c : ℕ). tried (one_mode 5 1 c (opn 0 1 1 0 0 1 ∷ []))) (0 ∷ 32 ∷ 33 ∷ []) ≡ good ∷ good ∷ range 5 9 ∷ []
unfolding tried
cells_counted = refl

moded : ℕ → Table
moded m = record { len = 5; boards = 1; cells = 0; modes = m; first = 1; follow = replicate m 1; ops = opn 0 1 1 0 0 1 ∷ []; decider = nobody }

modes_counted : map (λ (m : ℕ). tried (moded m)) (0 ∷ 1 ∷ 32 ∷ 33 ∷ []) ≡ range 5 10 ∷ good ∷ good ∷ range 5 10 ∷ []
unfolding tried moded
modes_counted = refl

-- "a duration d of at least 1, with t + d at most p": of an operation that starts at 1 in a table of 5
durations : map (λ (d : ℕ). tried (one_mode 5 1 0 (opn 1 d 1 0 0 1 ∷ []))) (0 ∷ 1 ∷ 4 ∷ 5 ∷ []) ≡ range 22 27 ∷ good ∷ good ∷ range 22 27 ∷ []
unfolding tried
durations = refl

-- "not empty", "either set may be empty", "A set names nothing beyond the table's counts": with 2 boards, 2 cells and 2 modes, the empty set,
-- the full one and one that names 2
setted : ℕ → ℕ → ℕ → Op → Table
setted first after0 after1 o =
    record { len = 5; boards = 2; cells = 2; modes = 2; first = first; follow = after0 ∷ after1 ∷ []; ops = o ∷ []; decider = nobody }

each_set : (ℕ → Table) → List Test
unfolding tried
each_set f = map (λ (s : ℕ). tried (f s)) (0 ∷ 3 ∷ 4 ∷ [])

sets_of_modes : each_set (λ s. setted s 1 1 (opn 0 1 1 0 0 1)) ∷ each_set (λ s. setted 1 s 1 (opn 0 1 1 0 0 1)) ∷ each_set (λ s. setted 1 1 s (opn 0 1 1 0 0 1)) ∷ []
    ≡ map (λ (b : ℕ). range 11 b ∷ good ∷ range 11 b ∷ []) (14 ∷ 18 ∷ 22 ∷ [])
unfolding each_set setted
sets_of_modes = refl

sets_of_steps : each_set (λ s. setted 1 1 1 (opn 0 1 s 0 0 1))
    ∷ each_set (λ s. setted 1 1 1 (opn 0 1 1 s 0 1))
    ∷ each_set (λ s. setted 1 1 1 (opn 0 1 1 0 s 1))
    ∷ each_set (λ s. setted 1 1 1 (opn 0 1 1 0 0 s))
    ∷ []
    ≡ (range 26 33 ∷ good ∷ range 26 33 ∷ [])
    ∷ (good ∷ good ∷ range 26 35 ∷ [])
    ∷ (good ∷ good ∷ range 26 39 ∷ [])
    ∷ (range 26 43 ∷ good ∷ range 26 43 ∷ [])
    ∷ []
unfolding each_set setted
sets_of_steps = refl

-- 32 cells, modes and 16 boards, each set with every member
sets_full : tried (record { len = 1000; boards = 16; cells = 32; modes = 32; first = 4294967295; follow = replicate 32 4294967295; ops = opn 999 1 65535 4294967295 4294967295 4294967295 ∷ []; decider = nobody })
    ≡ good
unfolding tried
sets_full = refl

-- ---- "The longest table has 818 bytes", now 886: 32 modes, 32 operations with a hold, and a decider. That such a table is accepted, and none that is
-- longer, is proved in theory/proofs/Lengths.
longest_length : length (table_bytes (record { len = 0; boards = 0; cells = 0; modes = 0; first = 0; follow = replicate 32 0; ops = replicate 32 (held 0 0 1 0 0 0 0); decider = decides 0 }))
    ≡ longest_table
unfolding table_bytes
longest_length = refl

-- and a header more is looked at
far : farthest ≡ longest_table + 3
far = refl

-- ---- a table handed over as numbers: K1's, with another length, counts, first modes, follower words, operations' numbers

-- as many unset marks as there are operations, with a hold that is ignored
unset : List ℕ → List ℕ
unfolding joined
unset ops = joined (λ (n : ℕ). 0 ∷ 7 ∷ []) (replicate ((length ops + 5) / 6) 0)

handed : ℕ → ℕ → ℕ → ℕ → ℕ → List ℕ → List ℕ → Test
unfolding judge_numbers unset ◌then◌
handed p boards cells modes first follow ops =
    judge_numbers (record { len = p; boards = boards; cells = cells; modes = modes; first = first; follow = follow; ops = ops; holds = unset ops; mark = 0; decider = 0 }) then accepted tt

-- with other first modes, follower words and operations' numbers; with other operations' numbers
worded : ℕ → List ℕ → List ℕ → Test
unfolding handed
worded = handed 5 1 0 1

stepped : List ℕ → Test
unfolding worded
stepped = worded 1 (1 ∷ [])

one_op : List ℕ
one_op = 1 ∷ 3 ∷ 1 ∷ 0 ∷ 0 ∷ 1 ∷ []

-- the count of words before their ranges; none; missing numbers before ranges; of a second operation; of a 33rd
numbers_judged : worded 0 [] one_op
    ∷ worded 0 (1 ∷ []) one_op
    ∷ worded 1 (1 ∷ 1 ∷ []) one_op
    ∷ stepped []
    ∷ stepped (70000 ∷ 0 ∷ 1 ∷ [])
    ∷ stepped one_op
    ∷ stepped (one_op ++ (1 ∷ []))
    ∷ stepped (joined (λ (n : ℕ). one_op) (replicate 32 0) ++ (1 ∷ []))
    ∷ []
    ≡ refused 3 11 0
    ∷ refused 4 11 14
    ∷ refused 3 11 0
    ∷ refused 2 22 0
    ∷ refused 1 22 0
    ∷ good
    ∷ refused 1 43 0
    ∷ refused 5 694 0
    ∷ []
unfolding stepped one_op joined
numbers_judged = refl

-- "a number too large for its field RANGE": each of them would be K1's if its high bits were lost
too_large : handed 65541 1 0 1 1 (1 ∷ []) one_op
    ∷ handed 5 257 0 1 1 (1 ∷ []) one_op
    ∷ handed 5 1 256 1 1 (1 ∷ []) one_op
    ∷ handed 5 1 0 257 1 (1 ∷ []) one_op
    ∷ worded 4294967297 (1 ∷ []) one_op
    ∷ worded 1 (4294967297 ∷ []) one_op
    ∷ stepped (65537 ∷ 3 ∷ 1 ∷ 0 ∷ 0 ∷ 1 ∷ [])
    ∷ stepped (1 ∷ 65539 ∷ 1 ∷ 0 ∷ 0 ∷ 1 ∷ [])
    ∷ stepped (1 ∷ 3 ∷ 65537 ∷ 0 ∷ 0 ∷ 1 ∷ [])
    ∷ stepped (1 ∷ 3 ∷ 1 ∷ 4294967296 ∷ 0 ∷ 1 ∷ [])
    ∷ stepped (1 ∷ 3 ∷ 1 ∷ 0 ∷ 4294967296 ∷ 1 ∷ [])
    ∷ stepped (1 ∷ 3 ∷ 1 ∷ 0 ∷ 0 ∷ 4294967297 ∷ [])
    ∷ []
    ≡ range 0 3 ∷ (map (range 5) (8 ∷ 9 ∷ 10 ∷ []) ++ map (range 11) (14 ∷ 18 ∷ []) ++ map (range 22) (25 ∷ 27 ∷ 29 ∷ 31 ∷ 35 ∷ 39 ∷ []))
unfolding stepped one_op
too_large = refl

-- ---- a reply read for unfolding

-- K1's; no row; 33 rows
reply_inputs : List (List ℕ)
unfolding joined
reply_inputs =
    (17 ∷ 0 ∷ 2 ∷ 0 ∷ 3 ∷ 18 ∷ 0 ∷ 4 ∷ 0 ∷ 1 ∷ 0 ∷ 0 ∷ [])
    ∷ (17 ∷ 0 ∷ 2 ∷ 0 ∷ 3 ∷ [])
    ∷ (17 ∷ 0 ∷ 2 ∷ 0 ∷ 3 ∷ joined (λ (n : ℕ). 18 ∷ 0 ∷ 4 ∷ 0 ∷ 1 ∷ 0 ∷ 0 ∷ []) (replicate 33 0))
    ∷ []

replies_judged : map judge_reply reply_inputs
    ≡ accepted (record { period = ticks 3; rows = row 1 0 ∷ [] }) ∷ refused 2 5 0 ∷ refused 5 229 0 ∷ []
unfolding judge_reply reply_inputs
replies_judged = refl

-- "the period is 1 to 1000, each folded start is below it, each unfolded start is at most 999": one row, at a period
rowed : ℕ → ℕ → ℕ → Test
unfolding judge_reply reply_bytes ◌then◌
rowed q s f = judge_reply (reply_bytes (record { period = ticks q; rows = row s f ∷ [] })) then accepted tt

periods : map (λ (q : ℕ). rowed q 0 0) (0 ∷ 1 ∷ 1000 ∷ 1001 ∷ []) ≡ range 0 3 ∷ good ∷ good ∷ range 0 3 ∷ []
unfolding rowed
periods = refl

-- at 3 and at 500; the last would be in range if numbers had 16 bits
rows : rowed 3 2 0 ∷ rowed 3 3 0 ∷ rowed 500 499 1 ∷ rowed 500 0 2 ∷ rowed 1000 0 8192 ∷ [] ≡ good ∷ range 5 8 ∷ good ∷ range 5 10 ∷ range 5 10 ∷ []
unfolding rowed
rows = refl

-- ---- document 02, No. 7, as one list: which number is blamed, of a table's bytes, of numbers handed over and of a reply

-- K1 with other counts, and as many follower words, all one set; with another operation
counted : ℕ → ℕ → ℕ → ℕ → ℕ → Test
unfolding tried
counted boards cells modes first after =
    tried (record { len = 5; boards = boards; cells = cells; modes = modes; first = first; follow = replicate modes after; ops = opn 1 3 1 0 0 1 ∷ []; decider = nobody })

timed : ℕ → ℕ → ℕ → ℕ → ℕ → ℕ → Test
unfolding tried
timed t d b r w m = tried (one_mode 5 1 0 (opn t d b r w m ∷ []))

-- the first n bytes of K1 and other bytes behind them
continued : ℕ → List ℕ → Test
unfolding judge k1_bytes ◌then◌
continued n s = judge (take n k1_bytes ++ s) then accepted tt

-- the largest counts, with the followers of mode 31, and operations
filled : ℕ → List Op → Test
unfolding tried
filled last os =
    tried
    (record {
      len = 1000;
      boards = 16;
      cells = 32;
      modes = 32;
      first = 4294967295;
      follow = replicate 31 4294967295 ++ (last ∷ []);
      ops = os;
      decider = nobody;
    })

-- where one operation more may come, and no second
single : List ℕ → Test
unfolding ops_of_numbers unset ◌then◌
single ns = ops_of_numbers k1 ns (unset ns) 1 22 then accepted tt

-- two rows at a period
paired : ℕ → ℕ → ℕ → ℕ → ℕ → Test
unfolding judge_reply reply_bytes ◌then◌
paired q s f t g = judge_reply (reply_bytes (record { period = ticks q; rows = row s f ∷ row t g ∷ [] })) then accepted tt

blamed : List Test
unfolding tried counted timed continued filled rowed paired handed worded stepped single one_op k1_with judge judge_reply table_bytes ◌then◌
blamed =
    -- K1 with duration 5; a start at p, and the highest, with a duration of 1; no duration, and all behind it wrong too
    timed 1 5 1 0 0 1
    ∷ timed 5 1 1 0 0 1
    ∷ timed 65535 1 1 0 0 1
    ∷ timed 5 0 0 1 1 0
    -- each of the others, with all behind it wrong too
    ∷ timed 1 3 0 1 1 0
    ∷ timed 1 3 1 1 1 0
    ∷ timed 1 3 1 0 1 0
    ∷ timed 1 3 1 0 0 0
    -- the second operation, where the first is fine; the first, where both are wrong, and where the input then ends inside a field
    ∷ tried (one_mode 5 1 0 (opn 1 3 1 0 0 1 ∷ opn 1 0 1 0 0 1 ∷ []))
    ∷ tried (one_mode 5 1 0 (opn 1 3 2 0 0 1 ∷ opn 1 0 1 0 0 1 ∷ []))
    ∷ (judge (k1_with 5 0 1 ++ (4 ∷ [])) then accepted tt)
    -- the length before the counts, and the counts one after the other
    ∷ tried (one_mode 0 0 0 [])
    ∷ counted 0 33 0 0 0
    ∷ counted 17 33 33 0 0
    ∷ counted 1 33 0 0 0
    ∷ counted 1 32 33 0 0
    -- the first modes, the followers of mode 0, and those of mode 2 alone
    ∷ counted 1 0 3 0 0
    ∷ counted 1 0 3 1 8
    ∷ tried (record { len = 5; boards = 1; cells = 0; modes = 3; first = 1; follow = 1 ∷ 7 ∷ 0 ∷ []; ops = opn 1 3 1 0 0 1 ∷ []; decider = nobody })
    -- the ranges of a field before what is missing behind it: of the counts, and of the sets
    ∷ continued 5 (2 ∷ 0 ∷ 3 ∷ 1 ∷ 33 ∷ 1 ∷ [])
    ∷ continued 11 (3 ∷ 0 ∷ 8 ∷ 0 ∷ 0 ∷ 0 ∷ 1 ∷ 0 ∷ 0 ∷ 0 ∷ 2 ∷ [])
    -- the followers of the last of 32 modes; the modes of a seventh operation, whose other sets are full
    ∷ filled 0 []
    ∷ filled 4294967295 (replicate 6 (opn 0 1 1 0 0 1) ++ (opn 0 1 65535 4294967295 4294967295 0 ∷ []))
    -- handed over: the length before the counts, and the sets before operations that are missing; a start too large for its field before all
    -- else, one that is not; counts, and sets, of which two are too large; the start of a second operation; numbers missing are SHORT; one
    -- operation too many is MANY whatever its numbers, but not before the first one's
    ∷ handed 0 0 0 1 1 (1 ∷ []) []
    ∷ worded 1 (2 ∷ []) []
    ∷ stepped (65536 ∷ 0 ∷ 0 ∷ 1 ∷ 1 ∷ 0 ∷ [])
    ∷ stepped (65535 ∷ 1 ∷ 0 ∷ 1 ∷ 1 ∷ 0 ∷ [])
    ∷ handed 5 257 256 1 1 (1 ∷ []) one_op
    ∷ handed 5 1 256 257 1 (1 ∷ []) one_op
    ∷ handed 5 1 0 2 4294967297 (4294967297 ∷ 4294967297 ∷ []) one_op
    ∷ handed 5 1 0 2 1 (1 ∷ 4294967297 ∷ []) one_op
    ∷ stepped (one_op ++ (65536 ∷ 3 ∷ 1 ∷ 0 ∷ 0 ∷ 1 ∷ []))
    ∷ stepped (one_op ++ (65536 ∷ 3 ∷ 1 ∷ 0 ∷ 0 ∷ []))
    ∷ single (one_op ++ (65536 ∷ 0 ∷ 0 ∷ 1 ∷ 1 ∷ 0 ∷ []))
    ∷ single ((65536 ∷ 0 ∷ 0 ∷ 1 ∷ 1 ∷ 0 ∷ []) ++ one_op)
    -- a folded start at the period, whatever its start index; an unfolded start of 1000, the folded start counted in; the second row; the
    -- period before the rows, and before rows that are missing
    ∷ rowed 500 500 2
    ∷ rowed 500 0 2
    ∷ rowed 600 399 1
    ∷ rowed 600 400 1
    ∷ paired 500 0 1 499 65535
    ∷ paired 500 0 1 500 0
    ∷ paired 1001 1001 1 0 0
    ∷ (judge_reply (17 ∷ 0 ∷ 2 ∷ 0 ∷ 0 ∷ []) then accepted tt)
    ∷ []

places_told : blamed
    ≡ replicate 4 (range 22 27)
    ++ map (range 22) (29 ∷ 31 ∷ 35 ∷ 39 ∷ [])
    ++ (range 43 48 ∷ range 22 29 ∷ range 22 27 ∷ [])
    ++ (range 0 3 ∷ map (range 5) (8 ∷ 8 ∷ 9 ∷ 10 ∷ []))
    ++ map (range 11) (14 ∷ 18 ∷ 26 ∷ [])
    ++ (range 5 9 ∷ range 11 18 ∷ range 11 142 ∷ range 272 289 ∷ [])
    ++ (range 0 3 ∷ range 11 18 ∷ range 22 25 ∷ range 22 27 ∷ range 5 8 ∷ range 5 9 ∷ range 11 14 ∷ range 11 22 ∷ [])
    ++ (range 43 46 ∷ refused 1 43 0 ∷ refused 5 43 0 ∷ range 22 25 ∷ [])
    ++ (range 5 8 ∷ range 5 10 ∷ good ∷ range 5 10 ∷ range 12 17 ∷ range 12 15 ∷ range 0 3 ∷ range 0 3 ∷ [])
unfolding blamed
places_told = refl

-- ---- document 02, No. 4, as one list: the decider's field

-- behind K1, and the numbers of K1 with a mark, a decider and other numbers of operations
behind_k1 : List ℕ → Test
unfolding continued
behind_k1 = continued 43

marked : ℕ → ℕ → List ℕ → Test
unfolding judge_numbers unset ◌then◌
marked mark who ops =
    judge_numbers (record { len = 5; boards = 1; cells = 0; modes = 1; first = 1; follow = 1 ∷ []; ops = ops; holds = unset ops; mark = mark; decider = who }) then accepted tt

fields_05 : List Test
unfolding behind_k1 continued marked one_op
fields_05 =
    -- the header before all else, then the length, the value, and its range
    behind_k1 (5 ∷ 0 ∷ [])
    ∷ behind_k1 (5 ∷ 0 ∷ 0 ∷ [])
    ∷ behind_k1 (5 ∷ 0 ∷ 2 ∷ 0 ∷ 0 ∷ [])
    ∷ behind_k1 (5 ∷ 0 ∷ 1 ∷ [])
    ∷ behind_k1 (5 ∷ 0 ∷ 1 ∷ 0 ∷ [])
    ∷ behind_k1 (5 ∷ 0 ∷ 1 ∷ 1 ∷ [])
    ∷ behind_k1 (5 ∷ 0 ∷ 1 ∷ 255 ∷ 4 ∷ [])
    -- "a field after 05 is ORDER", whatever its tag, and a header that is not there SHORT
    ∷ behind_k1 (5 ∷ 0 ∷ 1 ∷ 0 ∷ 4 ∷ [])
    ∷ behind_k1 (5 ∷ 0 ∷ 1 ∷ 0 ∷ 5 ∷ 0 ∷ [])
    ∷ behind_k1 (5 ∷ 0 ∷ 1 ∷ 0 ∷ 4 ∷ 0 ∷ 18 ∷ [])
    ∷ behind_k1 (5 ∷ 0 ∷ 1 ∷ 0 ∷ 5 ∷ 0 ∷ 1 ∷ 0 ∷ [])
    ∷ behind_k1 (5 ∷ 0 ∷ 1 ∷ 0 ∷ 0 ∷ 0 ∷ 0 ∷ [])
    -- before any operation it is not due
    ∷ continued 22 (5 ∷ 0 ∷ [])
    ∷ continued 22 (5 ∷ 0 ∷ 1 ∷ 0 ∷ [])
    -- handed over: with the mark unset the number is ignored, any other mark is one; no operation, and too large for a byte, though its low bits
    -- would be fine; numbers missing, and none at all
    ∷ marked 0 256 one_op
    ∷ marked 1 0 one_op
    ∷ marked 256 1 one_op
    ∷ marked 1 1 one_op
    ∷ marked 1 256 one_op
    ∷ marked 1 0 (one_op ++ (1 ∷ []))
    ∷ marked 1 0 (1 ∷ 3 ∷ 1 ∷ 0 ∷ 0 ∷ [])
    ∷ marked 1 0 []
    -- behind two operations; their ranges, and numbers that are missing, come before; then the whole
    ∷ marked 1 2 (one_op ++ one_op)
    ∷ marked 1 256 (1 ∷ 0 ∷ 1 ∷ 0 ∷ 0 ∷ 1 ∷ [])
    ∷ marked 1 256 (one_op ++ (1 ∷ []))
    ∷ marked 1 1 (one_op ++ one_op)
    ∷ []

deciders_told : fields_05
    ≡ (refused 1 43 0 ∷ refused 3 43 0 ∷ refused 3 43 0 ∷ refused 1 43 0 ∷ good ∷ range 43 46 ∷ range 43 46 ∷ [])
    ++ (refused 1 47 0 ∷ refused 1 47 0 ∷ replicate 3 (refused 2 47 0))
    ++ (refused 1 22 0 ∷ refused 2 22 0 ∷ [])
    ++ (good ∷ good ∷ range 43 46 ∷ range 43 46 ∷ range 43 46 ∷ refused 1 43 0 ∷ refused 1 22 0 ∷ refused 2 22 0 ∷ [])
    ++ (range 64 67 ∷ range 22 27 ∷ refused 1 43 0 ∷ refused 6 0 1 ∷ [])
unfolding fields_05
deciders_told = refl

-- who decides is read, and written exactly where it is marked
k1_decided : judge (k1_bytes ++ (5 ∷ 0 ∷ 1 ∷ 0 ∷ [])) ≡ accepted (with_decider k1 (decides 0))
unfolding judge k1_bytes
k1_decided = refl

mark_written : map (λ (mark : ℕ). bytes_of table_bytes (judge_numbers (record { len = 5; boards = 1; cells = 0; modes = 1; first = 1; follow = 1 ∷ []; ops = one_op; holds = unset one_op; mark = mark; decider = 0 }))) (0 ∷ 1 ∷ [])
    ≡ accepted k1_bytes ∷ accepted (k1_bytes ++ (5 ∷ 0 ∷ 1 ∷ 0 ∷ [])) ∷ []
unfolding bytes_of table_bytes judge_numbers one_op unset k1_bytes
mark_written = refl

-- EARLY, on the tables of the bench
early_told : map tried (analyzer ∷ sampled ∷ hasty ∷ hasty_first ∷ half ∷ unreached_half ∷ unreached_hasty ∷ racing ∷ clashing ∷ [])
    ≡ good
    ∷ good
    ∷ refused 10 0 1
    ∷ refused 10 1 0
    ∷ refused 10 1 1
    ∷ refused 10 0 0
    ∷ refused 10 0 1
    ∷ refused 7 0 1
    ∷ refused 6 0 1
    ∷ []
unfolding tried
early_told = refl

-- the decider starts after 0, and a step starts between its start and its end; a step that is over before the decider starts
late_decider : tried (cold_warm each_turn (opn 0 1 4 0 0 3 ∷ opn 1 2 1 0 0 3 ∷ opn 2 1 2 0 0 1 ∷ []) (decides 1))
    ∷ tried (cold_warm each_turn (opn 0 1 2 0 0 1 ∷ opn 2 1 1 0 0 3 ∷ []) (decides 1))
    ∷ []
    ≡ refused 10 1 2 ∷ refused 10 1 0 ∷ []
unfolding tried
late_decider = refl

-- three modes: a decider in all of them; without the second, the third, the first
three : ℕ → Test
unfolding tried
three m = tried (record { len = 6; boards = 2; cells = 1; modes = 3; first = 1; follow = replicate 3 7; ops = opn 0 1 1 0 0 m ∷ []; decider = decides 0 })

three_told : map three (7 ∷ 5 ∷ 3 ∷ 6 ∷ []) ≡ good ∷ replicate 3 (refused 10 0 0)
unfolding three
three_told = refl

-- no operation at all, with two modes
no_op_05 : tried (cold_warm each_turn [] (decides 0)) ≡ refused 2 26 0
unfolding tried
no_op_05 = refl

-- handed over, too
hasty_handed : judge_numbers (record { len = 6; boards = 3; cells = 1; modes = 2; first = 1; follow = 3 ∷ 3 ∷ []; ops = 0 ∷ 2 ∷ 1 ∷ 0 ∷ 0 ∷ 3 ∷ 1 ∷ 2 ∷ 2 ∷ 0 ∷ 0 ∷ 1 ∷ []; holds = 0 ∷ 0 ∷ 0 ∷ 0 ∷ []; mark = 1; decider = 0 })
    ≡ refused 10 0 1
unfolding judge_numbers
hasty_handed = refl

-- a reply has no decider
reply_05 : judge_reply (17 ∷ 0 ∷ 2 ∷ 0 ∷ 3 ∷ 18 ∷ 0 ∷ 4 ∷ 0 ∷ 1 ∷ 0 ∷ 0 ∷ 5 ∷ 0 ∷ 1 ∷ 0 ∷ []) ≡ refused 2 12 0
unfolding judge_reply
reply_05 = refl

-- 32 modes: all of them, and all but the highest
every_mode : ℕ → Test
unfolding tried
every_mode modes =
    tried
    (record {
      len = 2;
      boards = 1;
      cells = 0;
      modes = 32;
      first = 1;
      follow = replicate 32 1;
      ops = opn 0 1 1 0 0 4294967295 ∷ opn 1 1 1 0 0 modes ∷ [];
      decider = decides 1;
    })

every_mode_told : every_mode 4294967295 ∷ every_mode 2147483647 ∷ [] ≡ good ∷ refused 10 1 1 ∷ []
unfolding every_mode
every_mode_told = refl

-- ---- document 02, No. 9, as one list: an operation's field with a hold

-- K1 with a field of 20 bytes for its operation, and with two operations by their holds
twenty : ℕ → ℕ → Test
unfolding judge ◌then◌
twenty d h = judge (k1_20 d h) then accepted tt

-- K1's numbers, with these marks and holds, and other numbers of operations
settled : List ℕ → List ℕ → Test
unfolding judge_numbers ◌then◌
settled ops holds =
    judge_numbers (record { len = 5; boards = 1; cells = 0; modes = 1; first = 1; follow = 1 ∷ []; ops = ops; holds = holds; mark = 0; decider = 0 }) then accepted tt

-- the operation behind one of 20 bytes
second : Op → Test
unfolding tried
second o = tried (one_mode 9 1 1 (held 1 3 1 1 0 0 1 ∷ o ∷ []))

-- where one operation more may come, and no second
single_held : List ℕ → List ℕ → Test
unfolding ops_of_numbers ◌then◌
single_held ns hs = ops_of_numbers k1 ns hs 1 22 then accepted tt

fields_20 : List Test
unfolding twenty settled second single_held tried continued one_op
fields_20 =
    -- held to p, by a tick less, by a tick more; hold 0; the duration before the hold, which is past p as well or 0
    twenty 3 1
    ∷ twenty 2 1
    ∷ twenty 3 2
    ∷ twenty 3 0
    ∷ twenty 3 255
    ∷ twenty 5 0
    ∷ twenty 5 1
    ∷ twenty 0 0
    ∷ twenty 0 1
    -- no wrap at 16 bits; a hold of two bytes that is in time
    ∷ tried (one_mode 5 1 0 (held 1 3 65535 1 0 0 1 ∷ []))
    ∷ tried (one_mode 5 1 0 (held 65535 1 1 1 0 0 1 ∷ []))
    ∷ tried (one_mode 1000 1 0 (held 1 3 996 1 0 0 1 ∷ []))
    -- "SIZE now admits 18 and 20"; the length before a value that is cut; a field that is cut by a byte, and by two
    ∷ continued 22 (4 ∷ 0 ∷ 19 ∷ [])
    ∷ continued 22 (4 ∷ 0 ∷ 21 ∷ [])
    ∷ continued 22 (4 ∷ 0 ∷ 17 ∷ [])
    ∷ continued 22 (4 ∷ 0 ∷ 22 ∷ [])
    ∷ continued 22 (4 ∷ 1 ∷ 20 ∷ [])
    ∷ continued 22 (4 ∷ 0 ∷ 20 ∷ [])
    ∷ continued 22 (4 ∷ 0 ∷ 20 ∷ replicate 19 0)
    ∷ continued 22 (4 ∷ 0 ∷ 20 ∷ replicate 18 0)
    -- each number of a second field, with all behind it wrong too: it begins at 45, behind one of 20 bytes
    ∷ second (held 5 0 0 0 2 2 0)
    ∷ second (held 5 1 9 0 2 2 0)
    ∷ second (held 5 1 1 0 2 2 0)
    ∷ second (held 5 1 1 1 2 2 0)
    ∷ second (held 5 1 1 1 0 2 0)
    ∷ second (held 5 1 1 1 0 0 0)
    ∷ second (opn 5 1 0 2 2 0)
    ∷ second (opn 5 1 1 0 0 0)
    -- the field of the decider behind it; the 20-byte field behind one of 18
    ∷ tried (with_decider (one_mode 5 1 0 (held 1 3 1 1 0 0 1 ∷ [])) (decides 1))
    ∷ tried (one_mode 9 1 1 (opn 1 3 1 0 0 1 ∷ held 5 1 9 1 0 0 1 ∷ []))
    ∷ []

fields_20_told : fields_20
    ≡ (good ∷ good ∷ replicate 3 (range 22 29))
    ++ replicate 4 (range 22 27)
    ++ (range 22 29 ∷ range 22 27 ∷ good ∷ [])
    ++ (replicate 5 (refused 3 22 0) ++ replicate 3 (refused 1 22 0))
    ++ map (range 45) (50 ∷ 52 ∷ 54 ∷ 56 ∷ 60 ∷ 64 ∷ 52 ∷ 62 ∷ [])
    ++ (range 45 48 ∷ range 43 50 ∷ [])
unfolding fields_20
fields_20_told = refl

holds_handed : List Test
unfolding settled single_held one_op
holds_handed =
    -- unmarked, its number is ignored; any other mark is one; hold 0 marked, a hold past p, one too large for its field though its low bits would do
    settled one_op (0 ∷ 65536 ∷ [])
    ∷ settled one_op (1 ∷ 1 ∷ [])
    ∷ settled one_op (256 ∷ 1 ∷ [])
    ∷ settled one_op (256 ∷ 2 ∷ [])
    ∷ settled one_op (1 ∷ 0 ∷ [])
    ∷ settled one_op (1 ∷ 2 ∷ [])
    ∷ settled one_op (1 ∷ 65537 ∷ [])
    -- the start before the duration, and that before the hold
    ∷ settled (65536 ∷ 5 ∷ 1 ∷ 0 ∷ 0 ∷ 1 ∷ []) (1 ∷ 0 ∷ [])
    ∷ settled (1 ∷ 5 ∷ 1 ∷ 0 ∷ 0 ∷ 1 ∷ []) (1 ∷ 0 ∷ [])
    -- a mark that is missing, a hold that is missing, only these, and none of all; with ranges that are wrong as well
    ∷ settled one_op []
    ∷ settled one_op (0 ∷ [])
    ∷ settled (1 ∷ 9 ∷ 0 ∷ 0 ∷ 0 ∷ 1 ∷ []) (1 ∷ [])
    ∷ settled [] (0 ∷ 0 ∷ [])
    ∷ settled [] (1 ∷ [])
    ∷ settled (1 ∷ 3 ∷ 1 ∷ 0 ∷ 0 ∷ []) (0 ∷ 0 ∷ [])
    ∷ settled [] []
    -- the place of a second operation behind one that is marked, and behind one that is not; of one that has only a mark; MANY, whichever goes on
    ∷ settled (one_op ++ (1 ∷ 5 ∷ 1 ∷ 0 ∷ 0 ∷ 1 ∷ [])) (1 ∷ 1 ∷ 0 ∷ 0 ∷ [])
    ∷ settled (one_op ++ (1 ∷ 3 ∷ 2 ∷ 0 ∷ 0 ∷ 1 ∷ [])) (0 ∷ 1 ∷ 1 ∷ 1 ∷ [])
    ∷ settled (one_op ++ one_op) (1 ∷ 1 ∷ 1 ∷ [])
    ∷ settled one_op (1 ∷ 1 ∷ 0 ∷ [])
    ∷ single_held one_op (1 ∷ 1 ∷ 0 ∷ [])
    ∷ single_held (one_op ++ (1 ∷ [])) (0 ∷ 1 ∷ [])
    ∷ []

holds_told : holds_handed
    ≡ (good ∷ good ∷ good ∷ replicate 4 (range 22 29))
    ++ (range 22 25 ∷ range 22 27 ∷ [])
    ++ (replicate 6 (refused 1 22 0) ++ (refused 2 22 0 ∷ []))
    ++ (range 45 50 ∷ range 43 52 ∷ refused 1 45 0 ∷ refused 1 45 0 ∷ refused 5 45 0 ∷ refused 5 43 0 ∷ [])
unfolding holds_handed
holds_told = refl

-- handed over with two modes, the first operation would be at 26: where there is none, and where numbers are missing
two_modes_handed : handed 5 1 0 2 1 (1 ∷ 1 ∷ []) [] ∷ handed 5 1 0 2 1 (1 ∷ 1 ∷ []) (1 ∷ []) ∷ [] ≡ refused 2 26 0 ∷ refused 1 26 0 ∷ []
unfolding handed
two_modes_handed = refl

-- the decider handed over behind an operation with a hold and one without
decider_handed : judge_numbers (record { len = 5; boards = 1; cells = 0; modes = 1; first = 1; follow = 1 ∷ []; ops = one_op ++ one_op; holds = 1 ∷ 1 ∷ 0 ∷ 0 ∷ []; mark = 1; decider = 2 })
    ≡ refused 4 66 69
unfolding judge_numbers one_op
decider_handed = refl

-- a hold is read, and written exactly where it is marked; forms may be mixed
k1_read : judge (k1_20 3 1) ≡ accepted (k1_held 1)
unfolding judge
k1_read = refl

hold_written : map (λ (mark : ℕ). bytes_of table_bytes (judge_numbers (record { len = 5; boards = 1; cells = 0; modes = 1; first = 1; follow = 1 ∷ []; ops = one_op; holds = mark ∷ 1 ∷ []; mark = 0; decider = 0 }))) (0 ∷ 1 ∷ [])
    ≡ accepted k1_bytes ∷ accepted (k1_20 3 1) ∷ []
unfolding bytes_of table_bytes judge_numbers one_op k1_bytes
hold_written = refl

mixed : Table
mixed = one_mode 9 1 1 (opn 0 1 1 0 0 1 ∷ held 1 1 2 1 1 0 1 ∷ opn 4 1 1 0 1 1 ∷ [])

mixed_read : judge (table_bytes mixed) ≡ accepted mixed
unfolding judge table_bytes mixed
mixed_read = refl

-- the same two steps in the other order
abbrev good_last : Table
good_last = one_mode 6 2 1 (opn 2 1 2 1 0 1 ∷ held 0 2 2 1 0 1 1 ∷ [])

-- CLASH by both holds; neither RACE nor EARLY by any; on the tables of the bench
settling_told : map tried (polarised 2 ∷ polarised_last 2 ∷ polarised 1 ∷ polarised_last 1 ∷ already_good ∷ good_last ∷ good_next_cycle ∷ decides_settling ∷ [])
    ≡ refused 6 0 1 ∷ refused 6 0 1 ∷ replicate 6 good
unfolding tried
settling_told = refl

-- as definitions: these clash, and do not race
polarised_clash : Clash (op (polarised 2) 0) (op (polarised 2) 1) × Clash (op (polarised_last 2) 0) (op (polarised_last 2) 1)
unfolding has
polarised_clash = (
  record { board = (0, refl, refl); mode = (0, refl, refl); lap = (omega arith, omega arith) },
  record { board = (0, refl, refl); mode = (0, refl, refl); lap = (omega arith, omega arith) },
)

good_no_race : Race (op already_good 0) (op already_good 1) ⊎ Race (op good_last 0) (op good_last 1) → ⊥
good_no_race (inl x) = omega (arith, x.lap.1)
good_no_race (inr x) = omega (arith, x.lap.0)

-- held to where the other starts, they do not clash
polarised_no_clash : Clash (op (polarised 1) 0) (op (polarised 1) 1) ⊎ Clash (op (polarised_last 1) 0) (op (polarised_last 1) 1) → ⊥
polarised_no_clash (inl x) = omega (arith, x.lap.1)
polarised_no_clash (inr x) = omega (arith, x.lap.0)

-- "start + duration + hold, which may not pass p": K1 with hold 0 and 1 is so, with hold 2 not; nor without a duration
held_ok : (h : ℕ) → h ≤ 1 → OpOk (k1_held h) (op (k1_held h) 0)
held_ok h x =
    record {
      lasts = omega arith;
      fits = omega arith;
      boards = record { some = omega arith; small = omega arith };
      reads = omega arith;
      writes = omega arith;
      modes = record { some = omega arith; small = omega arith };
    }

held_past : OpOk (k1_held 2) (op (k1_held 2) 0) ⊎ OpOk k1 (held 1 0 3 1 0 0 1) → ⊥
held_past (inl x) = omega (arith, x.fits)
held_past (inr x) = omega (arith, x.lasts)

-- what stands past the operations
past_op : no_op ≡ opn 0 0 0 0 0 0
past_op = refl

-- each byte of a field of 18, and of 20
whole_18 : List ℕ
whole_18 = 4 ∷ 0 ∷ 18 ∷ 1 ∷ 2 ∷ 3 ∷ 4 ∷ 7 ∷ 8 ∷ 9 ∷ 10 ∷ 11 ∷ 12 ∷ 13 ∷ 14 ∷ 15 ∷ 16 ∷ 17 ∷ 18 ∷ 19 ∷ 20 ∷ []

whole_20 : List ℕ
whole_20 = 4 ∷ 0 ∷ 20 ∷ 1 ∷ 2 ∷ 3 ∷ 4 ∷ 5 ∷ 6 ∷ 7 ∷ 8 ∷ 9 ∷ 10 ∷ 11 ∷ 12 ∷ 13 ∷ 14 ∷ 15 ∷ 16 ∷ 17 ∷ 18 ∷ 19 ∷ 20 ∷ []

whole_op : ℕ → Op
whole_op h = held 258 772 h 1800 151653132 219025168 286397204

whole_read : op_at whole_18 0 ∷ op_at whole_20 0 ∷ [] ≡ map whole_op (0 ∷ 1286 ∷ [])
unfolding op_at whole_18 whole_20 whole_op
whole_read = refl

whole_written : map (λ (h : ℕ). op_bytes (whole_op h)) (0 ∷ 1286 ∷ []) ≡ whole_18 ∷ whole_20 ∷ []
unfolding op_bytes whole_18 whole_20 whole_op
whole_written = refl

-- the margin is as it was
held_margins : map (λ (q : ℕ). margin (k1_held 1) 0 0 1 q) (2 ∷ 3 ∷ 4 ∷ []) ≡ negsuc 0 ∷ pos 0 ∷ pos 1 ∷ []
unfolding margin
held_margins = refl

-- two cycles of K1 with hold 1 overlap on their board at 3, whichever of them is named first
held_wrong : (k l : ℕ) → k + l ≡ 1 → BoardsRightAt (k1_held 1) (spaced 3) → ⊥
unfolding BoardsRightAt has
held_wrong k l one right =
    right (0 ∷ 0 ∷ []) (twice 5 1 0 _) 0 k 0 l
    (record { cycle = omega arith; is_op = omega arith; in_mode = in_each k (omega arith) })
    (record { cycle = omega arith; is_op = omega arith; in_mode = in_each l (omega arith) })
    (λ e. omega (arith, e.1)) (0, refl, refl) (omega arith, omega arith)
  where
    in_each : (m : ℕ) → m < 2 → In (mode (0 ∷ 0 ∷ []) m) 1
    in_each zero h = refl
    in_each (suc zero) h = refl
    in_each (suc (suc m)) h = absurd (omega arith)

-- "though the value is already good": it is the last write that ended at or before the reader's start, though the board settles
good_source : Source already_good (0 ∷ []) 0 (plain_start already_good 1 0) 0 0
unfolding has
good_source =
    record {
      runs = record { cycle = omega arith; is_op = omega arith; in_mode = refl };
      writes = refl;
      before = omega arith;
      last = go;
    }
  where
    go : (u m : ℕ) → Runs already_good (0 ∷ []) m u → In 0 (op already_good u).writes → plain_end already_good u m ≤ plain_start already_good 1 0
        → plain_end already_good u m ≤ plain_end already_good 0 0
    go zero zero x w h = omega arith
    go zero (suc m) x w h = absurd (omega (arith, x.cycle))
    go (suc zero) m x w h = absurd (false≢true w)
    go (suc (suc u)) m x w h = absurd (false≢true w)

-- the last write is the one that ended last, though the board of an earlier one settles longer
abbrev settles_longer : Table
settles_longer = one_mode 9 3 1 (held 0 1 5 1 0 1 1 ∷ opn 2 1 2 0 1 1 ∷ opn 4 1 4 1 0 1 ∷ [])

last_source : Source settles_longer (0 ∷ []) 0 (plain_start settles_longer 2 0) 1 0
unfolding has
last_source =
    record {
      runs = record { cycle = omega arith; is_op = omega arith; in_mode = refl };
      writes = refl;
      before = omega arith;
      last = go;
    }
  where
    go : (u m : ℕ) → Runs settles_longer (0 ∷ []) m u → In 0 (op settles_longer u).writes → plain_end settles_longer u m ≤ plain_start settles_longer 2 0
        → plain_end settles_longer u m ≤ plain_end settles_longer 1 0
    go zero zero x w h = omega arith
    go zero (suc m) x w h = absurd (omega (arith, x.cycle))
    go (suc zero) zero x w h = omega arith
    go (suc zero) (suc m) x w h = absurd (omega (arith, x.cycle))
    go (suc (suc zero)) m x w h = absurd (false≢true w)
    go (suc (suc (suc u))) m x w h = absurd (false≢true w)

-- and it arrives by its duration, a cycle later
good_values : ValuesRightAt good_next_cycle (spaced 4)
unfolding ValuesRightAt
good_values r run c i k zero l y reads source = absurd (in_zero c reads)
good_values r run c zero k (suc zero) l y reads source = omega (arith, source.before)
good_values r run c (suc zero) k (suc zero) l y reads source = absurd (in_zero c source.writes)
good_values r run c (suc (suc i)) k (suc zero) l y reads source = absurd (in_zero c source.writes)
good_values r run c i k (suc (suc j)) l y reads source = absurd (in_zero c reads)

-- the decider has ended where its board still settles
settling_decided : DecidedBy decides_settling 0
settling_decided = record { is_op = omega arith; always = both_modes decides_settling (op decides_settling 0) refl refl; later = go }
  where
    go : (i : ℕ) → i < 2 → (Always decides_settling (op decides_settling i) → ⊥) → 2 ≤ (op decides_settling i).start
    go zero h n = absurd (n (both_modes decides_settling (op decides_settling 0) refl refl))
    go (suc zero) h n = omega arith
    go (suc (suc i)) h n = absurd (omega arith)

-- not better: a longer hold, also with a duration that is as much shorter; a longer duration with a hold that is as much shorter
held_not : Better (k1_held 0) (k1_held 1) ⊎ (Better (k1_held 1) (one_mode 5 1 0 (held 1 2 2 1 0 0 1 ∷ [])) ⊎ Better (k1_held 1) (one_mode 5 1 0 (held 1 4 0 1 0 0 1 ∷ []))) → ⊥
held_not (inl x) = omega (arith, (x.each 0 (omega arith)).hold)
held_not (inr (inl x)) = omega (arith, (x.each 0 (omega arith)).hold)
held_not (inr (inr x)) = omega (arith, (x.each 0 (omega arith)).dur)

held_better : Better (k1_held 1) (k1_held 0)
held_better = record { len = refl; count = refl; each = less; firsts = λ m h. h; turns = λ a m h. h; decider = refl }
  where
    less : (i : ℕ) → i < 1 → OpBetter (op (k1_held 1) i) (op (k1_held 0) i)
    less zero h = record { start = refl; reads = refl; writes = refl; modes = refl; dur = omega arith; hold = omega arith; boards = λ m x. x }
    less (suc i) h = absurd (omega arith)

-- ---- a lent buffer: "K1 into 11 bytes: refused 8 12 0; into 12 accepted"; the rest of a longer one stays
k1_no_room : put (reply_bytes (reply_of k1 3)) (replicate 11 9) ≡ record { answer = refused 8 12 0; buffer = replicate 11 9 }
unfolding put reply_bytes reply_of
k1_no_room = refl

k1_room : put (reply_bytes (reply_of k1 3)) (replicate 12 9) ≡ record { answer = accepted 12; buffer = reply_bytes (reply_of k1 3) }
unfolding put reply_bytes reply_of
k1_room = refl

k1_rest : put (reply_bytes (reply_of k1 3)) (replicate 14 9)
    ≡ record { answer = accepted 12; buffer = reply_bytes (reply_of k1 3) ++ (9 ∷ 9 ∷ []) }
unfolding put reply_bytes reply_of
k1_rest = refl

-- K1's reply unfolds to its start, in a buffer of 3
k1_unfolded : IsUnfold (17 ∷ 0 ∷ 2 ∷ 0 ∷ 3 ∷ 18 ∷ 0 ∷ 4 ∷ 0 ∷ 1 ∷ 0 ∷ 0 ∷ []) (replicate 3 9)
    (record { answer = accepted 2; buffer = 0 ∷ 1 ∷ 9 ∷ [] })
unfolding written bytes_of judge_reply starts_bytes starts_of
k1_unfolded = refl

kept : written (refused 4 22 27) (replicate 3 9) ≡ record { answer = refused 4 22 27; buffer = replicate 3 9 }
unfolding written
kept = refl

-- the text of K2's reply: "Period 2; fst 0, 1, 2, folded starts 0."
k2_text : reply_text (reply_of k2 2)
    ≡ 112 ∷ 101 ∷ 114 ∷ 105 ∷ 111 ∷ 100 ∷ 32 ∷ 50 ∷ 10
    ∷ 111 ∷ 112 ∷ 32 ∷ 48 ∷ 32 ∷ 115 ∷ 116 ∷ 97 ∷ 114 ∷ 116 ∷ 32 ∷ 48 ∷ 32 ∷ 102 ∷ 115 ∷ 116 ∷ 32 ∷ 48 ∷ 10
    ∷ 111 ∷ 112 ∷ 32 ∷ 49 ∷ 32 ∷ 115 ∷ 116 ∷ 97 ∷ 114 ∷ 116 ∷ 32 ∷ 48 ∷ 32 ∷ 102 ∷ 115 ∷ 116 ∷ 32 ∷ 49 ∷ 10
    ∷ 111 ∷ 112 ∷ 32 ∷ 50 ∷ 32 ∷ 115 ∷ 116 ∷ 97 ∷ 114 ∷ 116 ∷ 32 ∷ 48 ∷ 32 ∷ 102 ∷ 115 ∷ 116 ∷ 32 ∷ 50 ∷ 10 ∷ []
unfolding reply_text reply_of
k2_text = refl

-- the line of "the operation .. 33 times: refused 5 694 0"
many_text : text_of (refused 5 694 0) ≡ 114 ∷ 101 ∷ 102 ∷ 117 ∷ 115 ∷ 101 ∷ 100 ∷ 32 ∷ 53 ∷ 32 ∷ 54 ∷ 57 ∷ 52 ∷ 32 ∷ 48 ∷ 10 ∷ []
unfolding text_of
many_text = refl

-- the text for "Empty input: refused 2 0 0"
pub empty_text : IsText [] (114 ∷ 101 ∷ 102 ∷ 117 ∷ 115 ∷ 101 ∷ 100 ∷ 32 ∷ 50 ∷ 32 ∷ 48 ∷ 32 ∷ 48 ∷ 10 ∷ [])
unfolding Answers judge text_of
empty_text = (refused 2 0 0, refl, refl)

-- ---- questions about K1: "i, j, n, q, places 0 to 3"
ask : ℕ → ℕ → ℕ → ℕ → Test
unfolding margin_test
ask = margin_test k1

questions : List Test
unfolding ask
questions =
    ask 0 0 1 5 ∷ ask 0 0 1000 1 ∷ ask 1 1 0 0 ∷ ask 0 1 0 0 ∷ ask 0 0 0 0 ∷ ask 0 0 1001 6 ∷ ask 0 0 1 0 ∷ ask 0 0 1 6 ∷ []

questions_asked : questions
    ≡ accepted tt
    ∷ accepted tt
    ∷ refused 9 0 0
    ∷ refused 9 1 0
    ∷ refused 9 2 0
    ∷ refused 9 2 0
    ∷ refused 9 3 0
    ∷ refused 9 3 0
    ∷ []
unfolding questions
questions_asked = refl

-- "q is place 0": K1 at 0, and at 6, which is above its length
boards_asked_lem : BoardsFit k1_bytes 0 (refused 9 0 0) × BoardsFit k1_bytes 6 (refused 9 0 0)
unfolding Answers judge k1_bytes asked
boards_asked_lem = (refl, refl)

values_asked_lem : ValuesArrive k1_bytes 0 (refused 9 0 0) × ValuesArrive k1_bytes 6 (refused 9 0 0)
unfolding Answers judge k1_bytes asked
values_asked_lem = (refl, refl)

-- K4 at 3: boards no, values yes
k4_answers : BoardsFit (table_bytes k4) 3 (accepted false) × ValuesArrive (table_bytes k4) 3 (accepted true)
unfolding Answers judge table_bytes asked
k4_answers =
    ((false, (λ e. absurd (false≢true e), λ x. absurd (k4_wrong x)), refl), (true, (λ e. k4_values 3, λ x. refl), refl))

-- K7 at 2: boards yes, values no
k7_answers : BoardsFit (table_bytes k7) 2 (accepted true) × ValuesArrive (table_bytes k7) 2 (accepted false)
unfolding Answers judge table_bytes asked
k7_answers =
    ((true, (λ e. k7_boards, λ x. refl), refl), (false, (λ e. absurd (false≢true e), λ x. absurd (k7_wrong x)), refl))

-- ---- the words of the program

abbrev boards_word : List ℕ
boards_word = 98 ∷ 111 ∷ 97 ∷ 114 ∷ 100 ∷ 115 ∷ []

abbrev values_word : List ℕ
values_word = 118 ∷ 97 ∷ 108 ∷ 117 ∷ 101 ∷ 115 ∷ []

abbrev margin_word_lem : List ℕ
margin_word_lem = 109 ∷ 97 ∷ 114 ∷ 103 ∷ 105 ∷ 110 ∷ []

abbrev unfold_word : List ℕ
unfold_word = 117 ∷ 110 ∷ 102 ∷ 111 ∷ 108 ∷ 100 ∷ []

-- "Boards", "board", "boardss", "-5", "0x10", "", "1 ", "5:", "/5"
abbrev others : List (List ℕ)
others = (66 ∷ 111 ∷ 97 ∷ 114 ∷ 100 ∷ 115 ∷ []) ∷ (98 ∷ 111 ∷ 97 ∷ 114 ∷ 100 ∷ []) ∷ (98 ∷ 111 ∷ 97 ∷ 114 ∷ 100 ∷ 115 ∷ 115 ∷ []) ∷ (45 ∷ 53 ∷ []) ∷ (48 ∷ 120 ∷ 49 ∷ 48 ∷ []) ∷ [] ∷ (49 ∷ 32 ∷ []) ∷ (53 ∷ 58 ∷ []) ∷ (47 ∷ 53 ∷ []) ∷ []

-- "0", "5", "007", "18446744073709551617"
abbrev zero_word : List ℕ
zero_word = 48 ∷ []

abbrev five : List ℕ
five = 53 ∷ []

abbrev seven : List ℕ
seven = 48 ∷ 48 ∷ 55 ∷ []

abbrev beyond : List ℕ
beyond = 49 ∷ 56 ∷ 52 ∷ 52 ∷ 54 ∷ 55 ∷ 52 ∷ 52 ∷ 48 ∷ 55 ∷ 51 ∷ 55 ∷ 48 ∷ 57 ∷ 53 ∷ 53 ∷ 49 ∷ 54 ∷ 49 ∷ 55 ∷ []

asked_words : map question_of
    ([]
    ∷ (boards_word ∷ five ∷ [])
    ∷ (values_word ∷ seven ∷ [])
    ∷ (margin_word_lem ∷ zero_word ∷ five ∷ seven ∷ beyond ∷ [])
    ∷ (unfold_word ∷ [])
    ∷ [])
    ≡ fold_asked ∷ boards_asked 5 ∷ values_asked 7 ∷ margin_asked 0 5 7 18446744073709551617 ∷ unfold_asked ∷ []
unfolding question_of
asked_words = refl

-- too few, too many, no question, no decimal number
unasked_words : map question_of
    ((boards_word ∷ [])
    ∷ (boards_word ∷ five ∷ five ∷ [])
    ∷ (values_word ∷ [])
    ∷ (values_word ∷ five ∷ five ∷ [])
    ∷ (margin_word_lem ∷ five ∷ five ∷ five ∷ [])
    ∷ (margin_word_lem ∷ five ∷ five ∷ five ∷ five ∷ five ∷ [])
    ∷ (unfold_word ∷ five ∷ [])
    ∷ (five ∷ [])
    ∷ (five ∷ boards_word ∷ [])
    ∷ (boards_word ∷ values_word ∷ [])
    ∷ [])
    ≡ replicate 10 nothing_asked
unfolding question_of
unasked_words = refl

other_words : map (λ (w : List ℕ). question_of (w ∷ five ∷ [])) others ++ map (λ (w : List ℕ). question_of (boards_word ∷ w ∷ [])) others
    ≡ replicate 18 nothing_asked
unfolding question_of
other_words = refl

-- ---- the lines that are printed

-- "yes" and "no", with the end of the line
yes_no : yes_no_line true ∷ yes_no_line false ∷ [] ≡ (121 ∷ 101 ∷ 115 ∷ 10 ∷ []) ∷ (110 ∷ 111 ∷ 10 ∷ []) ∷ []
unfolding yes_no_line
yes_no = refl

-- "margin 0", "margin 12", "margin -1", "margin -12"
margin_lines : map margin_line (pos 0 ∷ pos 12 ∷ negsuc 0 ∷ negsuc 11 ∷ [])
    ≡ (109 ∷ 97 ∷ 114 ∷ 103 ∷ 105 ∷ 110 ∷ 32 ∷ 48 ∷ 10 ∷ [])
    ∷ (109 ∷ 97 ∷ 114 ∷ 103 ∷ 105 ∷ 110 ∷ 32 ∷ 49 ∷ 50 ∷ 10 ∷ [])
    ∷ (109 ∷ 97 ∷ 114 ∷ 103 ∷ 105 ∷ 110 ∷ 32 ∷ 45 ∷ 49 ∷ 10 ∷ [])
    ∷ (109 ∷ 97 ∷ 114 ∷ 103 ∷ 105 ∷ 110 ∷ 32 ∷ 45 ∷ 49 ∷ 50 ∷ 10 ∷ [])
    ∷ []
unfolding margin_line
margin_lines = refl

-- K3's reply: "op 0 start 0", "op 1 start 2", "op 2 start 4"
start_lines_lem : starts_text (reply_of k3 4)
    ≡ (111 ∷ 112 ∷ 32 ∷ 48 ∷ 32 ∷ 115 ∷ 116 ∷ 97 ∷ 114 ∷ 116 ∷ 32 ∷ 48 ∷ 10 ∷ [])
    ++ (111 ∷ 112 ∷ 32 ∷ 49 ∷ 32 ∷ 115 ∷ 116 ∷ 97 ∷ 114 ∷ 116 ∷ 32 ∷ 50 ∷ 10 ∷ [])
    ++ (111 ∷ 112 ∷ 32 ∷ 50 ∷ 32 ∷ 115 ∷ 116 ∷ 97 ∷ 114 ∷ 116 ∷ 32 ∷ 52 ∷ 10 ∷ [])
unfolding starts_text reply_of
start_lines_lem = refl

-- K4 at 3 and K7 at 2, asked in words; and words that ask nothing, whatever is on standard input
k4_printed : IsPrinted (boards_word ∷ (51 ∷ []) ∷ []) (table_bytes k4) (record { out = yes_no_line false; err = [] })
unfolding question_of IsSaid printed
k4_printed = (yes_no_line false, (accepted false, k4_answers.0, refl), refl)

k7_printed : IsPrinted (values_word ∷ (50 ∷ []) ∷ []) (table_bytes k7) (record { out = yes_no_line false; err = [] })
unfolding question_of IsSaid printed
k7_printed = (yes_no_line false, (accepted false, k7_answers.1, refl), refl)

nothing_printed : IsPrinted (boards_word ∷ []) (table_bytes k4) (record { out = []; err = askable })
unfolding question_of IsSaid printed
nothing_printed = (askable, refl, refl)
