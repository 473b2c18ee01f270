-- A value that is carried from cycle to cycle: the steps of the search over distances.
-- Assumes nothing.
use Prim.Native.Nat.{ℕ, zero, suc, ◌+◌, ◌*◌, ◌≤◌}
use Rattle.std.specs.Prelude.{◌≡◌, List, ◌↔◌, ◌⊎◌, get_or}
use Rattle.std.proofs.Common.{inl, inr, mul-le-mul_right, eq-eqb}
use Rattle.std.proofs.Math.Nat.{mul-le-mul}
use native.Mathlib.Omega.{arith}
use Rattle.std.specs.Int.Bits.{bit_or}
use Rattle.rules.specs.Sets.{In, Share, Within}
use Rattle.theory.specs.Tests.{without, step, via}
use Rattle.theory.proofs.Sets.{in_none, in_or, in_without, says_shares, says_within}
use Rattle.theory.proofs.Modes.{in_step}
use Rattle.columns.specs.Columns.{op_by}
use Rattle.columns.specs.declared.Dated.{Dated}
use Rattle.cells.specs.Cells.{Early}
use Rattle.arrivals.specs.Arrivals.{Every, ReaderFine}
use Rattle.raises.specs.Raises.{Raised, InTime}
use Rattle.values.specs.Bounds.{TurnsFine}
use Rattle.raises.specs.RaiseLaws.{raised_up}

module _ (F : List ℕ) (cols : List Dated) (readers : ℕ) (fresh : ℕ → ℕ) (w end : ℕ) where
  -- the readers n + 1 cycles later, where the value has come to the modes `modes`
  abbrev ReadersFine : ℕ → ℕ → ℕ → Type 0
  ReadersFine modes n = Every (ReaderFine cols fresh modes end n) readers

  -- a value in time is in time at every further distance
  further : (start n m q : ℕ) → n ≤ m → InTime end start n q → InTime end start m q
  further start n m q h l = omega (arith, mul-le-mul_right q h)

  -- ---- what the search keeps: b stands for what was asked at the first n distances, and the rest for the others; one more turn of the
  -- modes that were seen leads to those seen and those that come next; whoever finds the value in a mode that was seen was asked
  pub record Carried (from b₀ n modes seen b : ℕ) : Type 0 where
    pub whole : (q : ℕ) → ((b₀ ≤ q) × TurnsFine F cols readers fresh w end 0 from q) ↔ ((b ≤ q) × TurnsFine F cols readers fresh w end n modes q)
    pub shut : (m : ℕ) → In m (step F (without seen w)) → In m seen ⊎ In m (step F modes)
    pub asked : (q : ℕ) → b ≤ q → ReadersFine seen n q

  pub carried_none : (from b : ℕ) → Carried from b 0 from 0 b
  carried_none from b =
      record {
        whole = λ q. (λ x. x, λ x. x);
        shut = λ m h. let (a, x, y) = (in_step F (without 0 w) m).0 h in absurd (in_none a ((in_without a 0 w).0 x).0);
        asked = λ q l j h e. let (m, x, y) = (says_shares 0 (fresh j)).0 e in absurd (in_none m x);
      }

  -- ---- one distance more
  turns_more : (n modes q : ℕ)
      → TurnsFine F cols readers fresh w end n modes q
      ↔ (ReadersFine (step F modes) n q × TurnsFine F cols readers fresh w end (n + 1) (without (step F modes) w) q)
  unfolding TurnsFine via
  turns_more n modes q = (
    λ x. (λ j h e. omega (arith, x 0 j h e), λ m j h e. omega (arith, x (suc m) j h e)),
    λ (x, y) m. go x y m,
  )
    where
      go : ReadersFine (step F modes) n q → TurnsFine F cols readers fresh w end (n + 1) (without (step F modes) w) q
          → (m : ℕ) → ReadersFine (via F w m modes) (n + m) q
      go x y zero j h e = omega (arith, x j h e)
      go x y (suc m) j h e = omega (arith, y m j h e)

  module _ (from b₀ n modes seen b : ℕ) (x : Carried from b₀ n modes seen b) where
    abbrev next : ℕ
    next = step F modes

    pub carried_more : (r : ℕ) → Raised b (ReadersFine next n) r → Carried from b₀ (n + 1) (without next w) (bit_or seen next) r
    carried_more r y =
        record {
          whole = λ q. (
            λ z. let (l, u) = (x.whole q).0 z in let (g, v) = (turns_more n modes q).0 u in ((y.exact q).1 (l, g), v),
            λ (l, v). let (m, g) = (y.exact q).0 l in (x.whole q).1 (m, (turns_more n modes q).1 (g, v)),
          );
          shut = shut;
          asked = λ q l j h e. asked q l j h ((says_shares (bit_or seen next) (fresh j)).0 e);
        }
      where
        back : (m : ℕ) → In m seen ⊎ In m next → In m (bit_or seen next)
        back m z = (in_or m seen next).1 z

        shut : (m : ℕ) → In m (step F (without (bit_or seen next) w)) → In m (bit_or seen next) ⊎ In m (step F (without next w))
        shut m h = let (a, z, f) = (in_step F (without (bit_or seen next) w) m).0 h in go a f ((in_without a (bit_or seen next) w).0 z)
          where
            which : (a : ℕ) → In m (get_or F a 0) → (In a w → ⊥) → In a seen ⊎ In a next
                → In m (bit_or seen next) ⊎ In m (step F (without next w))
            which a f u (inl z) =
                inl (back m (x.shut m ((in_step F (without seen w) m).1 (a, (in_without a seen w).1 (z, u), f))))
            which a f u (inr z) = inr ((in_step F (without next w) m).1 (a, (in_without a next w).1 (z, u), f))

            go : (a : ℕ) → In m (get_or F a 0) → In a (bit_or seen next) × (In a w → ⊥)
                → In m (bit_or seen next) ⊎ In m (step F (without next w))
            go a f (z, u) = which a f u ((in_or a seen next).0 z)

        asked : (q : ℕ) → r ≤ q → (j : ℕ) → In j readers → Share (bit_or seen next) (fresh j) → InTime end (op_by cols j).start (n + 1) q
        asked q l j h (m, z, f) = further (op_by cols j).start n (n + 1) q (omega arith) (go ((in_or m seen next).0 z))
          where
            go : In m seen ⊎ In m next → InTime end (op_by cols j).start n q
            go (inl u) = x.asked q (omega (arith, raised_up y)) j h ((says_shares seen (fresh j)).1 (m, u, f))
            go (inr u) = ((y.exact q).0 l).1 j h ((says_shares next (fresh j)).1 (m, u, f))

    -- ---- the end: no distance that is left asks for more
    done : ((q : ℕ) → b ≤ q → TurnsFine F cols readers fresh w end n modes q) → Raised b₀ (TurnsFine F cols readers fresh w end 0 from) b
    done f = record { exact = λ q. (λ h. (x.whole q).1 (h, f q h), λ y. ((x.whole q).0 y).0) }

    -- since n + 1 cycles of b take until the value's end, from the first start of a reader on
    pub carried_far : (early : ℕ) → Early cols readers early → end ≤ early + (n + 1) * b → Raised b₀ (TurnsFine F cols readers fresh w end 0 from) b
    unfolding TurnsFine
    carried_far early first l =
        done (λ q h m j g e. let k : n + 1 ≤ suc (n + m) = omega arith in omega (arith, mul-le-mul k h, first.each j g))

    -- since no mode is new: all that the value can still come to was seen
    pub carried_seen : without next seen ≡ 0 → Raised b₀ (TurnsFine F cols readers fresh w end 0 from) b
    unfolding TurnsFine via
    carried_seen e =
        done (λ q h m j g s.
        let (a, z, f) = (says_shares (via F w m modes) (fresh j)).0 s in
        further (op_by cols j).start n (n + m) q (omega arith)
        (x.asked q h j g ((says_shares seen (fresh j)).1 (a, stays m modes old a z, f))))
      where
        old : Within next seen
        old = (says_within next seen).0 (eq-eqb (without next seen) 0 e)

        onwards : Within (step F (without seen w)) seen
        onwards m h = go (x.shut m h)
          where
            go : In m seen ⊎ In m next → In m seen
            go (inl z) = z
            go (inr z) = old m z

        stays : (m s : ℕ) → Within (step F s) seen → Within (via F w m s) seen
        stays zero s h = h
        stays (suc m) s h =
            stays m (without (step F s) w)
            (λ a z.
            let (d, u, f) = (in_step F (without (step F s) w) a).0 z in
            let (v, ne) = (in_without d (step F s) w).0 u in
            onwards a ((in_step F (without seen w) a).1 (d, (in_without d seen w).1 (h d v, ne), f)))
