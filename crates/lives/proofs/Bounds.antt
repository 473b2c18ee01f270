-- The number of places is unique; it is at most one more than operations times length, so at most 32001; it is 1 at the length, and for a
-- cell that nobody writes.
-- Assumes nothing.
use Prim.Native.Nat.{ℕ, suc, ◌*◌, ◌<◌, ◌≤◌}
use mathlib.Core.Path.{◌≡◌}
use native.Mathlib.Nat.{mul-le-mul_right}
use native.Mathlib.Omega.{arith}
use native.Mathlib.Decide.{dec_lt}
use Rattle.rules.specs.Sets.{In}
use Rattle.rules.specs.Table.{Table, nops, op, Accepted}
use Rattle.theory.proofs.Order.{Cmp, cmp}
use Rattle.rules.specs.Places.{Enough, IsPlaces}
use Rattle.lives.specs.Near.{NearBy, NearDiffer}
use Rattle.lives.proofs.Chain.{differ_enough}
use Rattle.lives.proofs.Finite.{differ_near, counted_low, near_short, differ_most}

-- a cell has one number of places
pub places_unique : (T : Table) (q c R S : ℕ) → IsPlaces T q c R → IsPlaces T q c S → R ≡ S
places_unique T q c R S x y = go (cmp R S)
  where
    go : Cmp R S → R ≡ S
    go (Cmp.less h) = absurd (y.least R x.low h x.enough)
    go (Cmp.same e) = e
    go (Cmp.more h) = absurd (x.least S y.low h y.enough)

-- a cell that no operation writes needs one place, at every period
pub places_unwritten : (T : Table) (q c : ℕ) → ((i : ℕ) → i < nops T → In c (op T i).writes → ⊥) → IsPlaces T q c 1
unfolding Enough
places_unwritten T q c none =
    record {
      low = omega arith;
      enough = λ r run w v j l i k e x. none i x.write.runs.is_op x.write.writes;
      least = λ f a b x. omega arith;
    }

module _ (T : Table) (ok : Accepted T) (c : ℕ) where
  -- at the length, and at every longer distance of the cycles, one place is enough
  pub places_length : (q : ℕ) → T.len ≤ q → IsPlaces T q c 1
  unfolding NearDiffer
  places_length q h =
      record {
        low = omega arith;
        enough =
            differ_enough T ok q c 1 (omega arith)
            (λ x. let (n, s, a, b, j, e, i, y) = differ_near T ok c q 1 x in far n (near_short T ok c q 1 n s a b j e i y) (turns y));
        least = λ f a b x. omega arith;
      }
    where
      turns : {d n s a b j e i : ℕ} → NearBy T q c d n s a b j e i → 1 ≤ n
      turns y = counted_low T ok c y.walk

      far : (n : ℕ) → n * q < T.len → 1 ≤ n → ⊥
      far n x y = omega (arith, mul-le-mul_right q y)

  -- a number above all differences is enough
  pub enough_above : (q R : ℕ) → 1 ≤ q → nops T * T.len < R → Enough T q c R
  enough_above q R low h =
      differ_enough T ok q c R (omega arith) (λ x. omega (arith, differ_most T ok c q R low x))

  -- operations times length is at most 32000
  pub area : nops T * T.len ≤ 32000
  area = omega (arith, mul-le-mul_right T.len ok.ops_high, ok.len_high)

  pub enough_always : (q : ℕ) → 1 ≤ q → Enough T q c 32001
  enough_always q low = enough_above q 32001 low (omega (arith, area))

  pub places_most : (q R : ℕ) → 1 ≤ q → IsPlaces T q c R → R ≤ suc (nops T * T.len)
  places_most q R low x = go (dec_lt (suc (nops T * T.len)) R)
    where
      go : Dec (suc (nops T * T.len) < R) → R ≤ suc (nops T * T.len)
      go (no h) = omega arith
      go (yes h) = absurd (x.least (suc (nops T * T.len)) (omega arith) h (enough_above q (suc (nops T * T.len)) low (omega arith)))

  pub places_bound : (q R : ℕ) → 1 ≤ q → IsPlaces T q c R → R ≤ 32001
  places_bound q R low x = omega (arith, places_most q R low x, area)
