-- What it takes to raise a bound, and how far a quotient does.
-- Assumes nothing.
use Rattle.std.specs.Prelude.{ℕ, suc, ◌+◌, ◌-◌, ◌*◌, ◌/◌, ◌<◌, ◌≤◌, ◌↔◌}
use Rattle.std.proofs.Common.{mul_comm, mul-le-mul, mul-le-mul_left, mul-le-mul_right, div-lt_iff_lt-mul, arith}
use Rattle.std.proofs.Math.Decide.{dec_le}
use Rattle.raises.specs.Raises.{Raised, InTime}

-- ---- raising

module _ {b r : ℕ} {Q : ℕ → Type 0} (x : Raised b Q r) where
  -- not below b
  pub raised_up : b ≤ r
  raised_up = ((x.exact r).0 (omega arith)).0

  -- and not above any number from b up at which Q holds
  pub raised_to : (q : ℕ) → b ≤ q → Q q → r ≤ q
  raised_to q h y = (x.exact q).1 (h, y)

-- nothing is asked for
pub raised_not : {Q : ℕ → Type 0} (b : ℕ) → ((q : ℕ) → b ≤ q → Q q) → Raised b Q b
raised_not b f = record { exact = λ q. (λ h. (h, f q h), λ h. h.0) }

-- the same in other words
pub raised_as : {P Q : ℕ → Type 0} {b r : ℕ} → ((q : ℕ) → P q ↔ Q q) → Raised b P r → Raised b Q r
raised_as f x =
    record { exact = λ q. (λ h. let (l, y) = (x.exact q).0 h in (l, (f q).0 y), λ (l, y). (x.exact q).1 (l, (f q).1 y)) }

-- ---- in time

-- a value in time at b is in time from b on
pub in_time_on : (end start n b q : ℕ) → InTime end start n b → b ≤ q → InTime end start n q
in_time_on end start n b q h l = omega (arith, mul-le-mul_left (suc n) l)

-- n + 1 cycles of a bound, both in range
pub cycles_fit : (n b : ℕ) → n ≤ 1016 → b ≤ 1000 → (n + 1) * b ≤ 1017000
cycles_fit n b h l = let k : n + 1 ≤ 1017 = omega arith in omega (arith, mul-le-mul k l)

-- what is written at `end` is in time at every period from `end` up
pub in_time_late : (end start n q : ℕ) → end ≤ q → InTime end start n q
in_time_late end start n q h = let l : 1 ≤ suc n = omega arith in omega (arith, mul-le-mul_right q l)

-- a value that is not in time at b raises it to the quotient, rounded up
pub quotient_asked : (end start n b : ℕ) → start + suc n * b < end → Raised b (InTime end start n) ((end - start + n) / suc n)
quotient_asked end start n b h = record { exact = λ q. (fwd q, λ (l, y). bwd q y) }
  where
    over : (q : ℕ) → ((end - start + n) / suc n < suc q) ↔ (end - start + n < suc q * suc n)
    over q = div-lt_iff_lt-mul (omega arith)

    late : (q : ℕ) → InTime end start n q → Dec (b ≤ q) → b ≤ q
    late q y (yes l) = l
    late q y (no l) = omega (arith, mul-le-mul_left {m = q} {n = b} (suc n) (omega arith))

    fwd : (q : ℕ) → (end - start + n) / suc n ≤ q → (b ≤ q) × InTime end start n q
    fwd q l =
        let y : InTime end start n q = omega (arith, (over q).0 (omega arith), mul_comm (suc q) (suc n)) in
        (late q y (dec_le b q), y)

    bwd : (q : ℕ) → InTime end start n q → (end - start + n) / suc n ≤ q
    bwd q y = omega (arith, (over q).1 (omega (arith, mul_comm (suc q) (suc n))))
