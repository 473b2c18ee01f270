-- Document 02, No. 6, "Cycles started by the operator": a gap serves exactly when it passes a test of pairs; the length serves; the gap is one, and
-- is never below the period; every longer gap serves; demand 3 in the same words.
-- Assumes nothing.
use Prim.Native.Nat.{ℕ, zero, suc, ◌+◌, ◌-◌, ◌*◌, ◌≤◌}
use mathlib.Core.Path.{◌≡◌, ap}
use mathlib.Core.Logic.{◌↔◌}
use native.Mathlib.Nat.{mul-le-mul_right}
use native.Mathlib.Decide.{dec_le}
use native.Mathlib.Omega.{arith}
use Rattle.rules.specs.Table.{Table, op, held_to, Accepted}
use Rattle.rules.specs.Runs.{mode, BoardsRightAt, RightAt, Right, spaced, IsPeriod}
use Rattle.rules.specs.Gaps.{Apart, Serves, IsGap}
use Rattle.rules.specs.Better.{Better}
use Rattle.theory.specs.Near.{BoardsClear, ValuesClear}
use Rattle.theory.specs.Tests.{reach_set, servesb, gap_of}
use Rattle.theory.proofs.Says.{Says, says_by, says_and}
use Rattle.theory.proofs.Order.{not_below, distance}
use Rattle.theory.proofs.Apart.{spaced_apart, apart_less, apart_turns}
use Rattle.theory.proofs.Walks.{realise}
use Rattle.theory.proofs.Period.{boards_by_lem}
use Rattle.theory.proofs.Boards.{meet_pair}
use Rattle.theory.proofs.Values.{values_clear, clear_values}
use Rattle.theory.proofs.Tests.{says_boards_clear}
use Rattle.theory.proofs.Exists.{Least, least_of, in_reach, says_arrive}
use Rattle.theory.proofs.Carry.{better_right_at}

-- ---- whatever the table

-- a gap that serves is a right period: equal gaps are one such sequence
pub serves_right : (T : Table) (g : ℕ) → Serves T g → Right T g
serves_right T g x = x (spaced g) (spaced_apart (omega arith))

-- "every longer gap up to p also serves"
pub gap_longer : (T : Table) (g h : ℕ) → g ≤ h → Serves T g → Serves T h
gap_longer T g h l x s a = x s (apart_less l a)

-- a table has one gap
pub gap_unique : (T : Table) (g h : ℕ) → IsGap T g → IsGap T h → g ≡ h
gap_unique T g h x y =
    omega (arith, not_below (λ z. Serves T z) y.least x.low x.serves, not_below (λ z. Serves T z) x.least y.low y.serves)

-- "the gap is never below the period"
pub gap_not_below : (T : Table) (q g : ℕ) → IsPeriod T q → IsGap T g → q ≤ g
gap_not_below T q g x y = not_below (λ z. Right T z) x.least y.low (serves_right T g y.serves)

-- ---- starts that make two operations meet: equal gaps, but for the one behind cycle k, which is longer by e

-- nothing until then, and e from then on
abbrev extra : ℕ → ℕ → ℕ
extra e zero = 0
extra e (suc d) = e

extra_grows : (e d : ℕ) → extra e d ≤ extra e (suc d)
extra_grows e zero = omega arith
extra_grows e (suc d) = omega arith

abbrev late : ℕ → ℕ → ℕ → ℕ → ℕ
late g k e m = m * g + extra e (m - k)

late_apart : (g k e : ℕ) → Apart g (late g k e)
late_apart g k e = record { next = λ m. go m (dec_le k m) }
  where
    go : (m : ℕ) → Dec (k ≤ m) → late g k e m + g ≤ late g k e (suc m)
    go m (yes h) = let d : suc m - k ≡ suc (m - k) = omega arith in omega (arith, extra_grows e (m - k), ap (extra e) d)
    go m (no h) = let d : suc m - k ≡ m - k = omega arith in omega (arith, ap (extra e) d)

module _ (T : Table) (ok : Accepted T) (g : ℕ) where
  -- two operations that can run n cycles apart: where the first holds its boards too long for n gaps, some starts make them meet
  clear_of : ((e k : ℕ) → BoardsRightAt T (late g k e)) → BoardsClear T g
  unfolding BoardsRightAt BoardsClear
  clear_of right n low i j a b p = go (dec_le (held_to (op T i)) ((op T j).start + n * g))
    where
      -- so late that j has not let go of its boards when i starts
      e : ℕ
      e = suc (op T i).start - (held_to (op T j) + n * g)

      go : Dec (held_to (op T i) ≤ (op T j).start + n * g) → held_to (op T i) ≤ (op T j).start + n * g
      go (yes h) = h
      go (no h) =
          let (r, k, w) = realise T p.reach p.walk in
          let before : k - k ≡ 0 = omega arith in
          let after : (k + n) - k ≡ suc (n - 1) = omega arith in
          absurd
          (right e k r w.ends.run i k j (k + n)
          (record { cycle = omega (arith, w.ends.size); is_op = p.first; in_mode = rw w.from p.runs })
          (record { cycle = omega (arith, w.ends.size); is_op = p.second; in_mode = rw w.ends.at p.ends })
          (λ x. omega (arith, x.1))
          p.board
          (omega (
            arith,
            ap (extra e) before,
            ap (extra e) after,
            (ok.each i p.first).lasts,
            (ok.each j p.second).lasts,
          )))

  -- boards that are let go in time at every distance are right for all starts that are so far apart
  clear_boards : BoardsClear T g → (s : ℕ → ℕ) → Apart g s → BoardsRightAt T s
  unfolding BoardsClear
  clear_boards clear s x =
      boards_by_lem T ok s (λ r i k j l m.
      let (n, e) = distance m.earlier in
      omega (
        arith,
        m.lap,
        apart_turns x n k l e,
        clear (suc n) (omega arith) i j (mode r k) (mode r l) (meet_pair T r i k j l n m e),
      ))

  -- the finite test: g serves exactly when n·g is at least what each pair n turns apart asks
  pub gap_iff : Serves T g ↔ (BoardsClear T g × ValuesClear T g)
  gap_iff = (
    λ x. (clear_of (λ e k. (x (late g k e) (late_apart g k e)).boards), values_clear T ok g (serves_right T g x).values),
    λ (b, v) s a. record { boards = clear_boards b s a; values = clear_values T ok g v s a },
  )

  -- it is enough to look at sequences whose first cycle starts at 0
  pub first_at_0 : ((s : ℕ → ℕ) → Apart g s → s 0 ≡ 0 → RightAt T s) → Serves T g
  first_at_0 x =
      gap_iff.1 (
        clear_of (λ e k. (x (late g k e) (late_apart g k e) (zero_first e k)).boards),
        values_clear T ok g (x (spaced g) (spaced_apart (omega arith)) (omega arith)).values,
      )
    where
      zero_first : (e k : ℕ) → late g k e 0 ≡ 0
      zero_first e k = let d : 0 - k ≡ 0 = omega arith in omega (arith, ap (extra e) d)

module _ (T : Table) (ok : Accepted T) where
  -- the length serves
  pub length_serves : Serves T T.len
  unfolding BoardsClear ValuesClear
  length_serves =
      (gap_iff T ok T.len).1 (
        λ n low i j a b p. omega (arith, mul-le-mul_right T.len low, (ok.each i p.first).fits),
        λ n low c i j a b p. omega (arith, mul-le-mul_right T.len low, (ok.each i p.writer.is_op).fits),
      )

  -- the computed test says whether a gap serves
  says_serves : (g : ℕ) → 1 ≤ g → Says (servesb T g) (Serves T g)
  unfolding servesb
  says_serves g low =
      says_by (says_and _ _ (says_boards_clear T (reach_set T) (in_reach T ok) g low ok) (says_arrive T ok g low))
      (λ (b, v). (gap_iff T ok g).1 (b, values_clear T ok g v))
      (λ x. (((gap_iff T ok g).0 x).0, (serves_right T g x).values))

  -- the smallest that serves up to the length is the gap
  least_gap : (g : ℕ) → Least (λ g. Serves T g) T.len g → IsGap T g
  least_gap g x = record { low = x.low; high = x.high; serves = x.holds; least = x.none }

  -- every accepted table has a gap, and the search finds it
  pub gap_found : IsGap T (gap_of T)
  unfolding gap_of
  gap_found = least_gap (gap_of T) (least_of (λ g. Serves T g) (servesb T) says_serves T.len ok.len_low length_serves)

module _ (T S : Table) (okT : Accepted T) (okS : Accepted S) (le : Better T S) where
  -- demand 3 "for the gap in the same words": each gap that serves the first, up to the table's length, serves the second
  pub better_serves : (g : ℕ) → 1 ≤ g → g ≤ T.len → Serves T g → Serves S g
  better_serves g low high x s a = better_right_at T S okT okS le s (x s a)

  -- "so its smallest" gap "is no longer"
  pub better_gap : (g h : ℕ) → IsGap T g → IsGap S h → h ≤ g
  better_gap g h x y = not_below (λ z. Serves S z) y.least x.low (better_serves g x.low x.high x.serves)
