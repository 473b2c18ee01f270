-- What is known of places at a right period: it does not matter whether "its own read" means the instance or the operation, and a longer period
-- needs no more places.
-- Assumes nothing.
use Prim.Native.Nat.{ℕ, ◌≤◌}
use mathlib.Core.Path.{◌≡◌, ap, subst}
use mathlib.Core.List.{List}
use native.Mathlib.Nat.{mul-le-mul_left}
use native.Mathlib.Omega.{arith}
use Rattle.rules.specs.Sets.{In}
use Rattle.rules.specs.Table.{Table, op, Accepted}
use Rattle.rules.specs.Runs.{IsRun, BoardsRightAt, ValuesRightAt, spaced}
use Rattle.theory.proofs.Order.{Cmp, cmp, later, not_below}
use Rattle.theory.proofs.Sets.{some_in}
use Rattle.rules.specs.Places.{Conflict, Enough, IsPlaces}
use Rattle.lives.specs.Near.{Uses, NearDiffer}
use Rattle.lives.proofs.Chain.{lives_use, enough_differ, differ_enough}
use Rattle.lives.proofs.Finite.{use_runs, not_before, differ_near, near_differ}

module _ (T : Table) (ok : Accepted T) (q c : ℕ) where
  -- ---- "its own read": where boards are right, nothing conflicts with a life that lasts until the same operation has ended in another cycle, so
  -- that it is all one whether this is said of the instance or of the operation
  pub never_itself : BoardsRightAt T (spaced q) → (r : List ℕ) → IsRun T r → (w v j l i k : ℕ) → Conflict T q r c w v j l i k → i ≡ j → ⊥
  unfolding BoardsRightAt
  never_itself boards r run w v j l i k x e = go (cmp k l)
    where
      uses : Uses T r c w j l
      uses = lives_use T ok q c r w j l x.lives

      go : Cmp k l → ⊥
      go (Cmp.less h) =
          not_before T ok c r run q w v j l i k
          (record { uses = uses; write = x.write; later = x.later; soon = x.soon; other = x.other }) h
      go (Cmp.same h) = x.other (e, h)
      go (Cmp.more h) =
          let (b, y) = some_in (op T i).boards (ok.each i x.write.runs.is_op).boards.some in
          boards r run i k j l x.write.runs (use_runs T ok c r run w j l uses) (λ f. x.other f)
          (b, y, subst (λ (m : ℕ). In b (op T m).boards) e y)
          (omega (arith, x.soon), omega (arith, later q h, ap (λ (m : ℕ). (op T m).start) e, (ok.each i x.write.runs.is_op).lasts))

  -- ---- longer periods
  near_longer : (p d : ℕ) → q ≤ p → NearDiffer T p c d → NearDiffer T q c d
  unfolding NearDiffer
  near_longer p d h (n, s, a, b, j, e, i, x) = (
    n,
    s,
    a,
    b,
    j,
    e,
    i,
    record {
      reach = x.reach;
      used = x.used;
      walk = x.walk;
      write = x.write;
      soon = omega (arith, x.soon, mul-le-mul_left n h);
      count = x.count;
    },
  )

  -- what is enough at q is enough at every longer period
  pub enough_longer : ValuesRightAt T (spaced q) → (p R : ℕ) → q ≤ p → 1 ≤ R → Enough T q c R → Enough T p c R
  enough_longer values p R h low e =
      differ_enough T ok p c R low
      (λ x. enough_differ T ok q c values R e (near_differ T ok c q R (near_longer p R h (differ_near T ok c p R x))))

  pub places_longer : ValuesRightAt T (spaced q) → (p R S : ℕ) → q ≤ p → IsPlaces T q c R → IsPlaces T p c S → S ≤ R
  places_longer values p R S h x y =
      not_below (λ (n : ℕ). Enough T p c n) y.least x.low (enough_longer values p R h x.low x.enough)
