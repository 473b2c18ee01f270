-- Every accepted table has a period, and the set of its reachable modes is found by adding what follows until nothing is new.
-- Assumes nothing.
use Prim.Native.Nat.{ℕ, zero, suc, ◌+◌, ◌-◌, ◌^◌, ◌<◌, ◌≤◌}
use mathlib.Core.Path.{◌≡◌, subst}
use mathlib.Core.Bool.{Bool, cond}
use mathlib.Core.List.{List, [], ◌∷◌}
use mathlib.Core.Logic.{◌↔◌, inl, inr}
use native.Mathlib.Decide.{ℕ_discrete, dec_lt}
use native.Mathlib.Omega.{arith}
use lib.Dec.{eqb}
use lib.Pow.{pow_pos}
use borrow.Author.Tests.{eq-eqb, ne_eqb}
use lib.Bits.{bit_or, or_add_and, and_le_r, or_lt}
use lib.ListN.{length, get_or, get_or-eq_default}
use Rattle.rules.specs.Sets.{has, In, Within}
use Rattle.rules.specs.Table.{Table, followers, Accepted}
use Rattle.rules.specs.Runs.{mode, IsRun, BoardsRightAt, ValuesRightAt, Right, spaced, IsPeriod}
use Rattle.theory.specs.Walks.{Reach, begin, turn, IsReach}
use Rattle.theory.specs.Tests.{step, close, reach_set, boards_fine, values_fine, rightb, first_from, period_of}
use Rattle.theory.proofs.Order.{Cmp, cmp, not_below}
use Rattle.theory.proofs.Says.{Says, Known, holds, fails, known, clash_bool}
use Rattle.theory.proofs.Sets.{in_or, in_small}
use Rattle.theory.proofs.Modes.{in_step, grown}
use Rattle.theory.proofs.Tests.{says_boards_right, says_values_right, says_right_at}
use Rattle.theory.proofs.Values.{values_longer}
use Rattle.theory.proofs.Period.{length_right}

-- ---- the smallest number from 1 up at which a statement holds
pub record Least (P : ℕ → Type 0) (top q : ℕ) : Type 0 where
  pub low : 1 ≤ q
  pub high : q ≤ top
  pub holds : P q
  pub none : (shorter : ℕ) → 1 ≤ shorter → shorter < q → P shorter → ⊥

module _ (P : ℕ → Type 0) (f : ℕ → Bool) (says : (q : ℕ) → 1 ≤ q → Says (f q) (P q)) where
  -- one number more is passed
  passed : (q : ℕ) → ((p : ℕ) → 1 ≤ p → p < q → P p → ⊥) → (P q → ⊥) → (p : ℕ) → 1 ≤ p → p < suc q → P p → ⊥
  passed q n here p a b x = by (cmp p q)
    where
      by : Cmp p q → ⊥
      by (Cmp.less c) = n p a c x
      by (Cmp.same c) = here (subst (λ (y : ℕ). P y) c x)
      by (Cmp.more c) = omega arith

  -- the search from q on, n steps short of the top, where it holds
  least_from : (n q top : ℕ) → q + n ≡ top → 1 ≤ q → P top → ((p : ℕ) → 1 ≤ p → p < q → P p → ⊥) → Least P top (first_from f n q)
  unfolding first_from
  least_from zero q top e h x none =
      record { low = h; high = omega arith; holds = subst (λ (y : ℕ). P y) (omega arith) x; none = none }
  least_from (suc n) q top e h x none =
      go (known (f q)) (λ here. least_from n (suc q) top (omega arith) (omega arith) x (passed q none here))
    where
      go : Known (f q) → ((P q → ⊥) → Least P top (first_from f n (suc q))) → Least P top (cond (f q) q (first_from f n (suc q)))
      go (holds y) k = rw y (record { low = h; high = omega arith; holds = (says q h).0 y; none = none })
      go (fails y) k = rw y (k (λ z. clash_bool ((says q h).1 z) y))

  pub least_of : (top : ℕ) → 1 ≤ top → P top → Least P top (first_from f (top - 1) 1)
  least_of top h x = least_from (top - 1) 1 top (omega arith) (omega arith) x (λ p a b. absurd (omega arith))

-- ---- adding to a set: the number grows, or there was nothing new. So 2 ^ n less the set falls where what follows is added
or_grows : (a b : ℕ) → (bit_or a b ≡ a → ⊥) → a < bit_or a b
or_grows a b n = omega (arith, or_add_and a b, and_le_r a b)

or_same : (a b : ℕ) → bit_or a b ≡ a → Within b a
or_same a b e m h = subst (λ (x : ℕ). In m x) e ((in_or m a b).1 (inr h))

cond_lt : (t : Bool) (f k : ℕ) → f < k → cond t f 0 < k
cond_lt Bool.true f k h = h
cond_lt Bool.false f k h = omega arith

step_lt : (F : List ℕ) (k s : ℕ) → ((a : ℕ) → get_or F a 0 < 2 ^ k) → step F s < 2 ^ k
unfolding step
step_lt [] k s h = pow_pos k
step_lt (f ∷ fs) k s h =
    or_lt k (cond (has s 0) f 0) _ (cond_lt (has s 0) f (2 ^ k) (h 0)) (step_lt fs k _ (λ a. h (suc a)))

module _ (T : Table) (ok : Accepted T) where
  -- nothing follows a mode that the table does not have
  pub no_followers : (a : ℕ) → T.modes ≤ a → followers T a ≡ 0
  no_followers a h = get_or-eq_default T.follow 0 {n = a} (omega (arith, ok.words))

  pub followers_lt : (a : ℕ) → followers T a < 2 ^ T.modes
  followers_lt a = go (dec_lt a T.modes)
    where
      go : Dec (a < T.modes) → followers T a < 2 ^ T.modes
      go (yes h) = (ok.follows a h).small
      go (no h) = omega (arith, no_followers a (omega arith), pow_pos T.modes)

  -- a run has modes of the table
  pub run_mode : (r : List ℕ) → IsRun T r → (k : ℕ) → k < length r → mode r k < T.modes
  run_mode r run zero h = in_small (mode r 0) T.modes T.first ok.firsts.small run.begins
  run_mode r run (suc k) h = in_small (mode r (suc k)) T.modes _ (followers_lt (mode r k)) (run.goes k h)

  -- a set that has the first modes, and to which a turn adds nothing, has all that a run can reach
  shut_in : (s : ℕ) → Within T.first s → bit_or s (step T.follow s) ≡ s → {b : ℕ} → Reach T b → In b s
  shut_in s f e (begin {a = a} h) = f a h
  shut_in s f e (turn {a = a} {b = b} x h) =
      or_same s (step T.follow s) e b ((in_step T.follow s b).1 (a, shut_in s f e x, h))

  pub shut_reach : (s : ℕ) → Within T.first s → ((m : ℕ) → In m s → Reach T m) → bit_or s (step T.follow s) ≡ s → IsReach T s
  unfolding IsReach
  shut_reach s f g e a = (g a, λ x. shut_in s f e x)

  close_reach : (n s : ℕ) → s < 2 ^ T.modes → 2 ^ T.modes ≤ s + n → Within T.first s → ((m : ℕ) → In m s → Reach T m)
      → IsReach T (close T.follow n s)
  unfolding close
  close_reach zero s h l i g = absurd (omega arith)
  close_reach (suc n) s h l i g =
      go (ℕ_discrete (bit_or s (step T.follow s)) s)
      (λ ne. close_reach n (bit_or s (step T.follow s))
      (or_lt T.modes s (step T.follow s) h (step_lt T.follow T.modes s followers_lt))
      (omega (arith, or_grows s (step T.follow s) ne))
      (λ m x. (in_or m s (step T.follow s)).1 (inl (i m x)))
      (grown T s g))
    where
      next : ℕ
      next = bit_or s (step T.follow s)

      go : Dec (next ≡ s) → ((next ≡ s → ⊥) → IsReach T (close T.follow n next))
          → IsReach T (cond (eqb next s) s (close T.follow n next))
      go (yes e) k = rw (eq-eqb next s e) (shut_reach s i g e)
      go (no ne) k = rw (ne_eqb next s ne) (k ne)

  -- the computed set is that of the modes that a run can reach
  pub in_reach : IsReach T (reach_set T)
  unfolding reach_set
  in_reach = close_reach (2 ^ T.modes) T.first ok.firsts.small (omega arith) (λ m h. h) (λ m h. begin h)

  -- the computed tests say whether the boards fit, whether the values arrive, and whether a period is right
  pub says_fit : (q : ℕ) → 1 ≤ q → Says (boards_fine T (reach_set T) q) (BoardsRightAt T (spaced q))
  says_fit q low = says_boards_right T (reach_set T) in_reach q low ok

  pub says_arrive : (q : ℕ) → 1 ≤ q → Says (values_fine T (reach_set T) q) (ValuesRightAt T (spaced q))
  says_arrive q low = says_values_right T (reach_set T) in_reach q low ok

  pub says_right : (q : ℕ) → 1 ≤ q → Says (rightb T q) (Right T q)
  unfolding rightb
  says_right q low = says_right_at T (reach_set T) in_reach q low ok

  -- the smallest right one up to the length is the period
  least_period : (q : ℕ) → Least (λ q. Right T q) T.len q → IsPeriod T q
  least_period q x = record { low = x.low; high = x.high; right = x.holds; least = x.none }

  -- every accepted table has a period, and the search finds it
  pub period_found : IsPeriod T (period_of T)
  unfolding period_of
  period_found =
      least_period (period_of T) (least_of (λ q. Right T q) (rightb T) says_right T.len ok.len_low (length_right T ok))

  -- values are right exactly from a bound up
  pub values_bound : (bound : ℕ) × ((q : ℕ) → 1 ≤ q → ValuesRightAt T (spaced q) ↔ bound ≤ q)
  values_bound =
      (bound, λ q low. (not_below (λ q. ValuesRightAt T (spaced q)) found.none low, λ h. values_longer T ok bound q h found.holds))
    where
      bound : ℕ
      bound = first_from (values_fine T (reach_set T)) (T.len - 1) 1

      found : Least (λ q. ValuesRightAt T (spaced q)) T.len bound
      found =
          least_of (λ q. ValuesRightAt T (spaced q)) (values_fine T (reach_set T)) says_arrive
          T.len ok.len_low (length_right T ok).values
