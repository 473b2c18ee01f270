-- Sums and counts.
-- Assumes nothing.
use Prim.Native.Nat.{ℕ, zero, suc, ◌+◌, ◌*◌, ◌<◌, ◌≤◌}
use mathlib.Core.Path.{◌≡◌, refl, sym, ap, ap₂, subst, ◌∙◌}
use mathlib.Core.Bool.{Bool, true, false, cond}
use native.Mathlib.Omega.{arith}
use native.Mathlib.Decide.{ℕ_discrete, dec_lt}
use lib.Dec.{eqb}
use borrow.Author.Tests.{eq-eqb, ne_eqb}
use Rattle.theory.proofs.Order.{Cmp, cmp}
use Rattle.theory.proofs.Says.{clash_bool}
use Rattle.rules.specs.Places.{sum, one}

pub sum_suc : (f : ℕ → ℕ) (n : ℕ) → sum f (suc n) ≡ sum f n + f n
unfolding sum
sum_suc f n = refl

-- sums of the same numbers are the same
pub sum_same : (f g : ℕ → ℕ) (n : ℕ) → ((m : ℕ) → m < n → f m ≡ g m) → sum f n ≡ sum g n
unfolding sum
sum_same f g zero h = refl
sum_same f g (suc n) h = ap₂ (λ (x y : ℕ). x + y) (sum_same f g n (λ m x. h m (omega arith))) (h n (omega arith))

pub sum_zero : (f : ℕ → ℕ) (n : ℕ) → ((m : ℕ) → m < n → f m ≡ 0) → sum f n ≡ 0
unfolding sum
sum_zero f zero h = refl
sum_zero f (suc n) h = omega (arith, sum_zero f n (λ m x. h m (omega arith)), h n (omega arith))

-- the sum of sums
pub sum_add : (f g h : ℕ → ℕ) (n : ℕ) → ((m : ℕ) → m < n → h m ≡ f m + g m) → sum h n ≡ sum f n + sum g n
unfolding sum
sum_add f g h zero e = refl
sum_add f g h (suc n) e = omega (arith, sum_add f g h n (λ m x. e m (omega arith)), e n (omega arith))

pub sum_le : (f g : ℕ → ℕ) (n : ℕ) → ((m : ℕ) → m < n → f m ≤ g m) → sum f n ≤ sum g n
unfolding sum
sum_le f g zero h = omega arith
sum_le f g (suc n) h = omega (arith, sum_le f g n (λ m x. h m (omega arith)), h n (omega arith))

-- where one part is larger by x and no part is smaller, the sum is larger by x
sum_more : (f g : ℕ → ℕ) (n k x : ℕ) → ((m : ℕ) → m < n → f m ≤ g m) → k < n → f k + x ≤ g k → sum f n + x ≤ sum g n
unfolding sum
sum_more f g zero k x h a b = absurd (omega arith)
sum_more f g (suc n) k x h a b = go (cmp k n) (λ y. sum_more f g n k x (λ m z. h m (omega arith)) y b)
  where
    go : Cmp k n → (k < n → sum f n + x ≤ sum g n) → sum f n + f n + x ≤ sum g n + g n
    go (Cmp.less y) i = omega (arith, i y, h n (omega arith))
    go (Cmp.same y) i =
        let e : f n + x ≤ g n = subst (λ (z : ℕ). f z + x ≤ g z) y b in omega (arith, sum_le f g n (λ m z. h m (omega arith)))
    go (Cmp.more y) i = absurd (omega arith)

-- a part of a sum of larger numbers
pub sum_lt : (f g : ℕ → ℕ) (n k : ℕ) → ((m : ℕ) → m < n → f m ≤ g m) → k < n → f k < g k → sum f n < sum g n
sum_lt f g n k h a b = omega (arith, sum_more f g n k 1 h a (omega arith))

-- where a sum is larger, some part is
pub sum_grew : (f g : ℕ → ℕ) (n : ℕ) → sum f n < sum g n → (m : ℕ) × (m < n) × (f m < g m)
unfolding sum
sum_grew f g zero h = absurd (omega arith)
sum_grew f g (suc n) h = go (dec_lt (f n) (g n)) (λ x. sum_grew f g n x)
  where
    go : Dec (f n < g n) → (sum f n < sum g n → (m : ℕ) × (m < n) × (f m < g m)) → (m : ℕ) × (m < suc n) × (f m < g m)
    go (yes x) i = (n, omega arith, x)
    go (no x) i = let (m, a, b) = i (omega arith) in (m, omega arith, b)

-- one part at most is larger, and that by one: so is the sum
pub sum_one : (f g : ℕ → ℕ) (n : ℕ) → ((m : ℕ) → m < n → g m ≤ suc (f m))
    → ((a b : ℕ) → a < n → b < n → f a < g a → f b < g b → a ≡ b) → sum g n ≤ suc (sum f n)
unfolding sum
sum_one f g zero h u = omega arith
sum_one f g (suc n) h u =
    go (dec_lt (f n) (g n)) (dec_lt (sum f n) (sum g n)) (sum_one f g n (λ m x. h m (omega arith)) (λ a b x y. u a b (omega arith) (omega arith)))
  where
    go : Dec (f n < g n) → Dec (sum f n < sum g n) → sum g n ≤ suc (sum f n) → sum g n + g n ≤ suc (sum f n + f n)
    go (no x) y i = omega arith
    go (yes x) (no y) i = omega (arith, h n (omega arith))
    go (yes x) (yes y) i = let (m, a, b) = sum_grew f g n y in absurd (omega (arith, u m n (omega arith) (omega arith) b x))

-- a sum whose parts are those of g below l, and 0 after l
pub sum_cut : (f g : ℕ → ℕ) (n l : ℕ) → l < n → ((m : ℕ) → m < l → f m ≡ g m) → ((m : ℕ) → l < m → m < n → f m ≡ 0)
    → sum f n ≡ sum g l + f l
unfolding sum
sum_cut f g zero l h a b = absurd (omega arith)
sum_cut f g (suc n) l h a b = go (cmp l n) (λ x. sum_cut f g n l x a (λ m y z. b m y (omega arith)))
  where
    go : Cmp l n → (l < n → sum f n ≡ sum g l + f l) → sum f n + f n ≡ sum g l + f l
    go (Cmp.less x) i = omega (arith, i x, b n x (omega arith))
    go (Cmp.same x) i =
        let e : sum f l ≡ sum g l = sum_same f g l a in subst (λ (y : ℕ). sum f y + f y ≡ sum g l + f l) x (ap (λ (y : ℕ). y + f l) e)
    go (Cmp.more x) i = absurd (omega arith)

-- ---- counts
pub one_true : {b : Bool} → b ≡ true → one b ≡ 1
unfolding one
one_true {b = true} e = refl
one_true {b = false} e = absurd (clash_bool e refl)

pub one_false : {b : Bool} → b ≡ false → one b ≡ 0
unfolding one
one_false {b = true} e = absurd (clash_bool refl e)
one_false {b = false} e = refl

pub one_le : (b : Bool) → one b ≤ 1
unfolding one
one_le true = omega arith
one_le false = omega arith

-- a test that counts more passes where the other does not
pub one_lt : (a b : Bool) → one a < one b → (a ≡ false) × (b ≡ true)
unfolding one
one_lt true true h = absurd (omega arith)
one_lt true false h = absurd (omega arith)
one_lt false true h = (refl, refl)
one_lt false false h = absurd (omega arith)

-- a test that implies another counts no more
pub one_mono : (a b : Bool) → (a ≡ true → b ≡ true) → one a ≤ one b
unfolding one
one_mono true b h = omega (arith, one_true (h refl))
one_mono false b h = omega arith

pub sum_le_count : (f : ℕ → ℕ) (n : ℕ) → ((m : ℕ) → m < n → f m ≤ 1) → sum f n ≤ n
unfolding sum
sum_le_count f zero h = omega arith
sum_le_count f (suc n) h = omega (arith, sum_le_count f n (λ m x. h m (omega arith)), h n (omega arith))

-- where a sum is not 0, some part is not
pub sum_some : (f : ℕ → ℕ) (n : ℕ) → 0 < sum f n → (m : ℕ) × (m < n) × (0 < f m)
unfolding sum
sum_some f zero h = absurd (omega arith)
sum_some f (suc n) h = go (dec_lt 0 (f n)) (λ x. sum_some f n x)
  where
    go : Dec (0 < f n) → (0 < sum f n → (m : ℕ) × (m < n) × (0 < f m)) → (m : ℕ) × (m < suc n) × (0 < f m)
    go (yes x) i = (n, omega arith, x)
    go (no x) i = let (m, a, b) = i (omega arith) in (m, omega arith, b)

pub one_some : (b : Bool) → 0 < one b → b ≡ true
unfolding one
one_some true h = refl
one_some false h = absurd (omega arith)

pub sum_most : (f : ℕ → ℕ) (n k : ℕ) → ((m : ℕ) → m < n → f m ≤ k) → sum f n ≤ n * k
unfolding sum
sum_most f zero k h = omega arith
sum_most f (suc n) k h = omega (arith, sum_most f n k (λ m x. h m (omega arith)), h n (omega arith))

-- ---- a sum in another order

-- parts of a sum, each taken once, make no more than the sum: the others are parts of what is left where the last of them is made 0
sum_within : (f g s : ℕ → ℕ) (n m : ℕ) → ((i : ℕ) → i < n → s i < m) → ((i j : ℕ) → i < n → j < n → s i ≡ s j → i ≡ j)
    → ((i : ℕ) → i < n → f i ≤ g (s i)) → sum f n ≤ sum g m
unfolding sum
sum_within f g s zero m there apart h = omega arith
sum_within f g s (suc n) m there apart h =
    omega (
      arith,
      sum_within f left s n m (λ i x. there i (omega arith)) (λ i j x y. apart i j (omega arith) (omega arith)) others,
      sum_more left g m (s n) (g (s n)) (λ u x. less u (ℕ_discrete u (s n))) (there n (omega arith)) (omega (arith, taken)),
      h n (omega arith),
    )
  where
    left : ℕ → ℕ
    left u = cond (eqb u (s n)) 0 (g u)

    taken : left (s n) ≡ 0
    taken = rw (eq-eqb (s n) (s n) refl)

    kept : (u : ℕ) → (u ≡ s n → ⊥) → left u ≡ g u
    kept u ne = rw (ne_eqb u (s n) ne)

    less : (u : ℕ) → Dec (u ≡ s n) → left u ≤ g u
    less u (yes e) = omega (arith, ap left e, taken)
    less u (no ne) = omega (arith, kept u ne)

    others : (i : ℕ) → i < n → f i ≤ left (s i)
    others i x = omega (arith, h i (omega arith), kept (s i) (λ e. omega (arith, apart i n (omega arith) (omega arith) e)))

-- s takes the parts of one sum to those of the other, and t takes them back
pub sum_moved : (f g s t : ℕ → ℕ) (n m : ℕ) → ((i : ℕ) → i < n → s i < m) → ((u : ℕ) → u < m → t u < n) → ((i : ℕ) → i < n → t (s i) ≡ i)
    → ((u : ℕ) → u < m → s (t u) ≡ u) → ((i : ℕ) → i < n → f i ≡ g (s i)) → sum f n ≡ sum g m
sum_moved f g s t n m there back over onto h =
    omega (
      arith,
      sum_within f g s n m there (λ i j x y e. sym (over i x) ∙ ap t e ∙ over j y) (λ i x. omega (arith, h i x)),
      sum_within g f t m n back (λ u v x y e. sym (onto u x) ∙ ap s e ∙ onto v y)
          (λ u x. omega (arith, h (t u) (back u x), ap g (onto u x))),
    )
