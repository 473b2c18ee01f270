-- What the promise shuts out: document 01's wrong planners, and the errors that a good planner still makes, each with its witness table.
-- Assumes nothing.
use Prim.Native.Nat.{ℕ, zero, suc, ◌+◌, ◌-◌, ◌*◌, ◌/◌, ◌^◌, ◌<◌, ◌≤◌}
use mathlib.Core.Path.{◌≡◌, refl, sym, ap, subst, ◌∙◌}
use mathlib.Core.Bool.{true, false, false≢true}
use mathlib.Core.List.{List, [], ◌∷◌, ◌++◌}
use native.Mathlib.Nat.{pow-suc}
use native.Mathlib.Omega.{arith}
use lib.ListN.{length, get_or, drop, replicate}
use Rattle.rules.specs.Sets.{has, In, Share, Overlap}
use Rattle.rules.specs.Table.{Table, nops, op, end_of, followers, Accepted}
use Rattle.rules.specs.Runs.{mode, IsRun, Runs, plain_start, plain_end, ValuesRightAt, Right, spaced, IsPeriod}
use Rattle.rules.specs.Rows.{reply_of}
use Rattle.rules.specs.Verdicts.{accepted, refused}
use Rattle.rules.specs.Bytes.{num16, table_bytes, reply_bytes}
use Rattle.rules.specs.Judge.{judge}
use Rattle.rules.specs.Answers.{Written, IsPlan}
use Rattle.rules.specs.Bench.{k1, k2, k4, k5, k7, k8, k9}
use Rattle.theory.specs.Walks.{Reach, begin, turn, Walk, last, more, Any}
use Rattle.theory.specs.Near.{BoardPair, Quiet, ValuePair}
use Rattle.theory.specs.Tests.{rightb, period_of, reach_set, values_fine}
use Rattle.theory.specs.Planners.{RightInRuns, IsPairPeriod, NoneNext, LateSource, LateRight}
use Rattle.theory.proofs.Order.{Cmp, cmp}
use Rattle.theory.proofs.Sets.{in_none, in_zero, in_suc}
use Rattle.theory.proofs.Modes.{walk_pos}
use Rattle.theory.proofs.Tests.{says_values_right}
use Rattle.theory.proofs.Verdicts.{never_refused}
use Rattle.theory.proofs.Exists.{in_reach, says_right, period_found}
use Rattle.theory.proofs.Judging.{judge_accepted}
use Rattle.theory.proofs.Answering.{put_room, plan_put}

-- ---- the witnesses: that they are accepted, by computing

abbrev Read : Table → Type 0
Read T = judge (table_bytes T) ≡ accepted T

k1_read : Read k1
unfolding judge table_bytes
k1_read = refl

k2_read : Read k2
unfolding judge table_bytes
k2_read = refl

k4_read : Read k4
unfolding judge table_bytes
k4_read = refl

k5_read : Read k5
unfolding judge table_bytes
k5_read = refl

k7_read : Read k7
unfolding judge table_bytes
k7_read = refl

k8_read : Read k8
unfolding judge table_bytes
k8_read = refl

k9_read : Read k9
unfolding judge table_bytes
k9_read = refl

module _ (T : Table) (read : Read T) where
  ok : Accepted T
  ok = judge_accepted (table_bytes T) T read

  tests_right : (q : ℕ) → 1 ≤ q → rightb T q ≡ true → Right T q
  tests_right q low e = (says_right T ok q low).0 e

  tests_wrong : (q : ℕ) → 1 ≤ q → rightb T q ≡ false → Right T q → ⊥
  tests_wrong q low e x = false≢true (sym e ∙ (says_right T ok q low).1 x)

  -- what the promise of plan makes of the table's bytes where there is room, whatever code meets it
  planned : (out : List ℕ) (w : Written) → length (reply_bytes (reply_of T (period_of T))) ≤ length out → IsPlan (table_bytes T) out w
      → w ≡ record {
        answer = accepted (length (reply_bytes (reply_of T (period_of T))));
        buffer = reply_bytes (reply_of T (period_of T)) ++ drop (length (reply_bytes (reply_of T (period_of T)))) out;
      }
  planned out w h p = plan_put (table_bytes T) out w T read p ∙ put_room (reply_bytes (reply_of T (period_of T))) out h

-- ---- "one that refuses everything": K1 with room is not refused
pub not_refuse_all : (out : List ℕ) (w : Written) → 12 ≤ length out → IsPlan (table_bytes k1) out w → (n a b : ℕ) → w.answer ≡ refused n a b → ⊥
unfolding reply_bytes reply_of period_of
not_refuse_all out w h p n a b e = never_refused (sym e ∙ ap (λ (x : Written). x.answer) (planned k1 k1_read out w h p))

-- ---- "one that does nothing": K1 changes a buffer of 12 zero bytes
pub not_do_nothing : (w : Written) → IsPlan (table_bytes k1) (replicate 12 0) w → w.buffer ≡ replicate 12 0 → ⊥
unfolding reply_bytes reply_of period_of
not_do_nothing w p e =
    omega (arith, ap (λ (b : List ℕ). get_or b 0 0) (sym e ∙ ap (λ (x : Written). x.buffer) (planned k1 k1_read (replicate 12 0) w (omega arith) p)))

-- ---- "one that always says p, or always 1": the period that is written for K1 is 3, its length is 5
pub k1_period : (out : List ℕ) (w : Written) → 12 ≤ length out → IsPlan (table_bytes k1) out w → num16 w.buffer 3 ≡ 3
unfolding reply_bytes reply_of period_of
k1_period out w h p = ap (λ (x : Written). num16 x.buffer 3) (planned k1 k1_read out w h p)

pub not_always_length : (out : List ℕ) (w : Written) → 12 ≤ length out → IsPlan (table_bytes k1) out w → num16 w.buffer 3 ≡ k1.len → ⊥
not_always_length out w h p e = omega (arith, k1_period out w h p)

pub not_always_one : (out : List ℕ) (w : Written) → 12 ≤ length out → IsPlan (table_bytes k1) out w → num16 w.buffer 3 ≡ 1 → ⊥
not_always_one out w h p e = omega (arith, k1_period out w h p)

-- ---- "one with invented start indices": those that are written for K2 are the quotients of its starts 0, 2, 4 by its period 2
pub not_invented : (out : List ℕ) (w : Written) → 26 ≤ length out → IsPlan (table_bytes k2) out w
    → (num16 w.buffer 10 ≡ 0) × (num16 w.buffer 17 ≡ 1) × (num16 w.buffer 24 ≡ 2)
unfolding reply_bytes reply_of period_of
not_invented out w h p =
    let e = planned k2 k2_read out w h p in (
      ap (λ (x : Written). num16 x.buffer 10) e,
      ap (λ (x : Written). num16 x.buffer 17) e,
      ap (λ (x : Written). num16 x.buffer 24) e,
    )

-- ---- halving: rightness is not monotone (K4)
pub not_monotone : Right k4 2 × (Right k4 3 → ⊥)
unfolding rightb
not_monotone = (tests_right k4 k4_read 2 (omega arith) refl, tests_wrong k4 k4_read 3 (omega arith) refl)

-- ---- the data bound without the boards: K2's values are right at 1, and its period is 2
pub bound_not_enough : ValuesRightAt k2 (spaced 1) × IsPeriod k2 2
unfolding period_of rightb values_fine reach_set
bound_not_enough = (
  (says_values_right k2 (reach_set k2) (in_reach k2 (ok k2 k2_read)) 1 (omega arith) (ok k2 k2_read)).0 refl,
  period_found k2 (ok k2 k2_read),
)

-- ---- sets with one member
single : (m k : ℕ) → In m (2 ^ k) → m ≡ k
single zero zero h = refl
single zero (suc k) h = absurd (omega (arith, (in_zero (2 ^ suc k)).0 h, pow-suc 2 k))
single (suc m) zero h = absurd (in_none m ((in_suc 1 m).0 h))
single (suc m) (suc k) h =
    let half : 2 ^ suc k / 2 ≡ 2 ^ k = omega (arith, pow-suc 2 k) in ap suc (single m k (rw half at ((in_suc (2 ^ suc k) m).0 h)))

-- ---- "one that tests the first pair of cycles only" (K5: in two cycles nothing is held twice, even at 1)

-- no mode of K5 follows itself
k5_turn : (a b : ℕ) → In b (followers k5 a) → a ≡ b → ⊥
k5_turn zero b h e = omega (arith, single b 1 h)
k5_turn (suc zero) b h e = omega (arith, single b 0 h)
k5_turn (suc (suc a)) b h e = in_none b h

-- each operation of K5 has a board and a mode of its own
k5_own : (i : ℕ) → i < 2 → ((op k5 i).boards ≡ 2 ^ i) × ((op k5 i).modes ≡ 2 ^ i)
k5_own zero h = (refl, refl)
k5_own (suc zero) h = (refl, refl)
k5_own (suc (suc i)) h = absurd (omega arith)

k5_same : (i j : ℕ) → i < 2 → j < 2 → Share (op k5 i).boards (op k5 j).boards → i ≡ j
k5_same i j hi hj (m, x, y) =
    sym (single m i (rw (k5_own i hi).0 at x)) ∙ single m j (rw (k5_own j hj).0 at y)

k5_mode : (r : List ℕ) (k i : ℕ) → Runs k5 r k i → mode r k ≡ i
k5_mode r k i x = single (mode r k) i (rw (k5_own i x.is_op).1 at x.in_mode)

-- instances that share a board are of one operation, so not of neighbouring cycles
k5_apart : (r : List ℕ) → IsRun k5 r → (i k j l : ℕ) → Runs k5 r k i → Runs k5 r l j → Share (op k5 i).boards (op k5 j).boards → l ≡ suc k → ⊥
k5_apart r run i k j l x y b e =
    let y' : Runs k5 r (suc k) j = rw e at y in
    k5_turn (mode r k) (mode r (suc k)) (run.goes k y'.cycle)
    (k5_mode r k i x ∙ k5_same i j x.is_op y.is_op b ∙ sym (k5_mode r (suc k) j y'))

k5_no_reads : (j : ℕ) → (op k5 j).reads ≡ 0
k5_no_reads zero = refl
k5_no_reads (suc zero) = refl
k5_no_reads (suc (suc j)) = refl

k5_pairs : RightInRuns 2 k5 1
k5_pairs =
    record {
      boards = λ r run short i k j l x y ne b lap. go r run short i k j l x y ne b (cmp k l);
      values = λ r run short c i k j l y v s. absurd (in_none c (rw (k5_no_reads j) at v));
    }
  where
    go : (r : List ℕ) → IsRun k5 r → length r ≤ 2 → (i k j l : ℕ) → Runs k5 r k i → Runs k5 r l j → ((i ≡ j) × (k ≡ l) → ⊥)
        → Share (op k5 i).boards (op k5 j).boards → Cmp k l → ⊥
    go r run short i k j l x y ne b (Cmp.less h) = k5_apart r run i k j l x y b (omega (arith, y.cycle))
    go r run short i k j l x y ne b (Cmp.same h) = ne (k5_same i j x.is_op y.is_op b, h)
    go r run short i k j l x y ne b (Cmp.more h) =
        k5_apart r run j l i k y x (b.0, b.2, b.1) (omega (arith, x.cycle))

-- so in the first pair of cycles the smallest is 1 ..
pub pair_period : IsPairPeriod k5 1
pair_period = record { low = omega arith; high = omega arith; right = k5_pairs; least = λ q low h. absurd (omega arith) }

-- .. and 1 is not written
pub not_first_pair : (out : List ℕ) (w : Written) → 19 ≤ length out → IsPlan (table_bytes k5) out w → num16 w.buffer 3 ≡ 1 → ⊥
unfolding reply_bytes reply_of period_of
not_first_pair out w h p e = omega (arith, ap (λ (x : Written). num16 x.buffer 3) (planned k5 k5_read out w h p))

-- ---- cycles one apart only: one turn on, nothing shares a board and nothing is read in K5 and K7; yet K5 is wrong at 1 and K7 at 2

one_turn : {T : Table} {P : ℕ → Type 0} {n a b : ℕ} → Walk T P n a b → n ≡ 1 → In b (followers T a)
one_turn (last f) e = f
one_turn (more f p w) e = absurd (omega (arith, walk_pos w))

-- where each operation has boards and one mode of its own, and no mode follows itself
module _ (T : Table) (m : ℕ → ℕ) (own : (i : ℕ) → i < nops T → (op T i).modes ≡ 2 ^ m i)
    (alone : (i j : ℕ) → i < nops T → j < nops T → Share (op T i).boards (op T j).boards → i ≡ j)
    (moves : (a b : ℕ) → In b (followers T a) → a ≡ b → ⊥) where
  no_boards_next : (i j a b : ℕ) → BoardPair T 1 i j a b → ⊥
  no_boards_next i j a b p =
      moves a b (one_turn p.walk refl)
      (single a (m i) (rw (own i p.first) at p.runs)
      ∙ ap m (alone i j p.first p.second p.board)
      ∙ sym (single b (m j) (rw (own j p.second) at p.ends)))

pub distance_two_boards : NoneNext k5 × (Right k5 1 → ⊥)
unfolding rightb
distance_two_boards = (
  record {
    boards = no_boards_next k5 (λ i. i) (λ i h. (k5_own i h).1) k5_same k5_turn;
    values = λ c i j a b p. in_none c (rw (k5_no_reads j) at p.reads);
  },
  tests_wrong k5 k5_read 1 (omega arith) refl,
)

-- in K7 the first operation alone writes, and the second alone reads; the one has board 1, the other board 0; no mode follows itself
k7_writes : (i c : ℕ) → In c (op k7 i).writes → (op k7 i).modes ≡ 2 ^ 0
k7_writes zero c h = refl
k7_writes (suc zero) c h = absurd (in_none c h)
k7_writes (suc (suc i)) c h = absurd (in_none c h)

k7_reads : (j c : ℕ) → In c (op k7 j).reads → (op k7 j).modes ≡ 2 ^ 2
k7_reads zero c h = absurd (in_none c h)
k7_reads (suc zero) c h = refl
k7_reads (suc (suc j)) c h = absurd (in_none c h)

k7_own : (i : ℕ) → i < 2 → ((op k7 i).boards ≡ 2 ^ (1 - i)) × ((op k7 i).modes ≡ 2 ^ (i + i))
k7_own zero h = (refl, refl)
k7_own (suc zero) h = (refl, refl)
k7_own (suc (suc i)) h = absurd (omega arith)

k7_same : (i j : ℕ) → i < 2 → j < 2 → Share (op k7 i).boards (op k7 j).boards → i ≡ j
k7_same i j hi hj (m, x, y) =
    omega (arith, single m (1 - i) (rw (k7_own i hi).0 at x), single m (1 - j) (rw (k7_own j hj).0 at y))

k7_turn : (a b : ℕ) → In b (followers k7 a) → a ≡ b → ⊥
k7_turn zero b h e = omega (arith, single b 1 h)
k7_turn (suc zero) b h e = omega (arith, single b 2 h)
k7_turn (suc (suc zero)) b h e = omega (arith, single b 0 h)
k7_turn (suc (suc (suc a))) b h e = in_none b h

pub distance_two_values : NoneNext k7 × (Right k7 2 → ⊥)
unfolding rightb
distance_two_values = (
  record { boards = no_boards_next k7 (λ i. i + i) (λ i h. (k7_own i h).1) k7_same k7_turn; values = values },
  tests_wrong k7 k7_read 2 (omega arith) refl,
)
  where
    values : (c i j a b : ℕ) → ValuePair k7 1 c i j a b → ⊥
    values c i j a b p =
        let from : a ≡ 0 = single a 0 (rw (k7_writes i c p.writer.writes) at p.writer.runs) in
        let next : In b (2 ^ 1) = rw from at (one_turn p.walk refl) in
        omega (arith, single b 1 next, single b 2 (rw (k7_reads j c p.reads) at p.runs))

-- ---- an idle mode hides nothing: mode 1 of K7 is idle, and the value passes it
pub idle_carries : Quiet k7 0 1 × ValuePair k7 2 0 0 1 0 2 × (Right k7 2 → ⊥)
unfolding has
idle_carries = (
  λ u h x w. quiet 1 (omega arith) u x w,
  record {
    reach = begin refl;
    writer = record { is_op = omega arith; runs = refl; writes = refl; last = latest };
    walk = more {m = 1} refl (λ u h x w. quiet 1 (omega arith) u x w) (last refl);
    is_op = omega arith;
    reads = refl;
    runs = refl;
    quiet = λ u h x w e. quiet 2 (omega arith) u x w;
  },
  distance_two_values.1,
)
  where
    quiet : (m : ℕ) → 0 < m → (u : ℕ) → In m (op k7 u).modes → In 0 (op k7 u).writes → ⊥
    quiet m h u x w = omega (arith, single m 0 (rw (k7_writes u 0 w) at x))

    latest : (u : ℕ) → u < nops k7 → In 0 (op k7 u).modes → In 0 (op k7 u).writes → end_of (op k7 u) ≤ end_of (op k7 0)
    latest zero h x w = omega arith
    latest (suc zero) h x w = omega arith
    latest (suc (suc u)) h x w = omega arith

k9_reach : {a : ℕ} → Reach k9 a → a ≡ 1
k9_reach (begin {a = a} h) = single a 1 h
k9_reach (turn {a = a} {b = b} x f) = single b 1 (subst (λ (m : ℕ). In b (followers k9 m)) (k9_reach x) f)

-- ---- modes that no run reaches do not count: K9's operation would meet itself at 1, in mode 0
pub unreached : Walk k9 Any 1 0 0 × Overlap 0 4 (0 + 1) (4 + 1) × (Reach k9 0 → ⊥) × Right k9 1
unfolding has rightb
unreached = (last refl, omega arith, λ x. omega (arith, k9_reach x), tests_right k9 k9_read 1 (omega arith) refl)

k8_reads : (j c : ℕ) → In c (op k8 j).reads → (op k8 j).start ≡ 2
k8_reads zero c h = absurd (in_none c h)
k8_reads (suc zero) c h = refl
k8_reads (suc (suc zero)) c h = absurd (in_none c h)
k8_reads (suc (suc (suc j))) c h = absurd (in_none c h)

-- ---- order at one date: with starts before ends K8 would be right at 4 and at no shorter period; it is right at 3
run8 : IsRun k8 (0 ∷ 0 ∷ [])
unfolding has
run8 = record { some = omega arith; begins = refl; goes = go }
  where
    go : (k : ℕ) → suc k < 2 → In (mode (0 ∷ 0 ∷ []) (suc k)) (followers k8 (mode (0 ∷ 0 ∷ []) k))
    go zero h = refl
    go (suc k) h = absurd (omega arith)

late_source : LateSource k8 (0 ∷ 0 ∷ []) 0 (plain_start k8 1 1) 2 0
unfolding has
late_source =
    record {
      runs = record { cycle = omega arith; is_op = omega arith; in_mode = refl };
      writes = refl;
      before = omega arith;
      last = go;
    }
  where
    go : (u m : ℕ) → Runs k8 (0 ∷ 0 ∷ []) m u → In 0 (op k8 u).writes → plain_end k8 u m < plain_start k8 1 1
        → plain_end k8 u m ≤ plain_end k8 2 0
    go zero m x w h = omega arith
    go (suc zero) m x w h = absurd (in_none 0 w)
    go (suc (suc zero)) m x w h = omega arith
    go (suc (suc (suc u))) m x w h = absurd (in_none 0 w)

pub starts_first : IsPeriod k8 3 × LateRight k8 4 × ((shorter : ℕ) → shorter < 4 → LateRight k8 shorter → ⊥)
unfolding period_of rightb has
starts_first = (
  period_found k8 (ok k8 k8_read),
  record {
    boards = (tests_right k8 k8_read 4 (omega arith) refl).boards;
    values = λ r run c i k j l y v s. at_four c i k j l v s.writes s.before;
  },
  λ q less right.
      let h = right.values (0 ∷ 0 ∷ []) run8 0 2 0 1 1 (record { cycle = omega arith; is_op = omega arith; in_mode = refl }) refl late_source in
      omega arith,
)
  where
    at_four : (c i k j l : ℕ) → In c (op k8 j).reads → In c (op k8 i).writes → plain_end k8 i k < plain_start k8 j l
        → end_of (op k8 i) + k * 4 ≤ (op k8 j).start + l * 4
    at_four c zero k j l v w h = omega (arith, k8_reads j c v)
    at_four c (suc zero) k j l v w h = absurd (in_none c w)
    at_four c (suc (suc zero)) k j l v w h = omega (arith, k8_reads j c v)
    at_four c (suc (suc (suc i))) k j l v w h = absurd (in_none c w)
