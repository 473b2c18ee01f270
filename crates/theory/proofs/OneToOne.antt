-- Maps that are one to one: one from the numbers below n to themselves leaves none out and is taken back by another; and sets renamed by such maps.
-- Assumes nothing.
use Prim.Native.Nat.{ℕ, zero, suc, ◌/◌, ◌^◌, ◌<◌, ◌≤◌}
use mathlib.Core.Path.{◌≡◌, refl, sym, ap, subst, ◌∙◌}
use mathlib.Core.Bool.{cond}
use mathlib.Core.Logic.{◌↔◌}
use native.Mathlib.Decide.{ℕ_discrete, dec_lt}
use native.Mathlib.Nat.{pow-suc}
use native.Mathlib.Omega.{arith}
use lib.Dec.{eqb}
use borrow.Author.Tests.{eq-eqb, ne_eqb}
use Rattle.rules.specs.Sets.{In, Share}
use Rattle.rules.specs.Table.{SetOf}
use Rattle.rules.specs.Renamed.{OneToOne, Below, RenamedSet}
use Rattle.theory.specs.Renamed.{found}
use Rattle.theory.proofs.Sets.{in_suc, some_in, in_pos}

-- ---- no more numbers than there are names

-- with the name m taken away: what had it gets the name that n has
without_top : (f : ℕ → ℕ) → ℕ → ℕ → ℕ → ℕ
without_top f n m a = cond (eqb (f a) m) (f n) (f a)

module _ (f : ℕ → ℕ) (n m : ℕ) (one : OneToOne (Below (suc n)) (Below (suc m)) f) where
  freed : (a : ℕ) → f a ≡ m → without_top f n m a ≡ f n
  unfolding without_top
  freed a e = rw (eq-eqb (f a) m e)

  kept : (a : ℕ) → (f a ≡ m → ⊥) → without_top f n m a ≡ f a
  unfolding without_top
  kept a e = rw (ne_eqb (f a) m e)

  one_fewer : OneToOne (Below n) (Below m) (without_top f n m)
  one_fewer = record { there = λ a h. there a h (ℕ_discrete (f a) m); apart = λ a b x y e. apart a b x y e (ℕ_discrete (f a) m) (ℕ_discrete (f b) m) }
    where
      ne : (a : ℕ) → a < n → f a ≡ f n → ⊥
      ne a h e = omega (arith, one.apart a n (omega arith) (omega arith) e)

      there : (a : ℕ) → a < n → Dec (f a ≡ m) → without_top f n m a < m
      there a h (yes e) = let other : f n ≡ m → ⊥ = λ d. ne a h (e ∙ sym d) in omega (arith, freed a e, one.there n (omega arith))
      there a h (no e) = omega (arith, kept a e, one.there a (omega arith))

      apart : (a b : ℕ) → a < n → b < n → without_top f n m a ≡ without_top f n m b → Dec (f a ≡ m) → Dec (f b ≡ m) → a ≡ b
      apart a b x y e (yes p) (yes q) = one.apart a b (omega arith) (omega arith) (p ∙ sym q)
      apart a b x y e (yes p) (no q) = absurd (ne b y (sym (kept b q) ∙ sym e ∙ freed a p))
      apart a b x y e (no p) (yes q) = absurd (ne a x (sym (kept a p) ∙ e ∙ freed b q))
      apart a b x y e (no p) (no q) = one.apart a b (omega arith) (omega arith) (sym (kept a p) ∙ e ∙ kept b q)

enough_names : (n m : ℕ) (f : ℕ → ℕ) → OneToOne (Below n) (Below m) f → n ≤ m
enough_names zero m f one = omega arith
enough_names (suc n) zero f one = absurd (omega (arith, one.there 0 (omega arith)))
enough_names (suc n) (suc m) f one = let less = enough_names n m (without_top f n m) (one_fewer f n m one) in omega arith

-- ---- none is left out: a number that is no name could be one name more

-- f, and u for n itself
and_also : (ℕ → ℕ) → ℕ → ℕ → ℕ → ℕ
and_also f n u a = cond (eqb a n) u (f a)

module _ (n : ℕ) (f : ℕ → ℕ) (one : OneToOne (Below n) (Below n) f) where
  module _ (u : ℕ) (h : u < n) (none : (a : ℕ) → a < n → f a ≡ u → ⊥) where
    also_top : and_also f n u n ≡ u
    unfolding and_also
    also_top = rw (eq-eqb n n refl)

    also_below : (a : ℕ) → (a ≡ n → ⊥) → and_also f n u a ≡ f a
    unfolding and_also
    also_below a ne = rw (ne_eqb a n ne)

    one_more : OneToOne (Below (suc n)) (Below n) (and_also f n u)
    one_more = record { there = λ a x. there a x (ℕ_discrete a n); apart = λ a b x y e. apart a b x y e (ℕ_discrete a n) (ℕ_discrete b n) }
      where
        there : (a : ℕ) → a < suc n → Dec (a ≡ n) → and_also f n u a < n
        there a x (yes e) = omega (arith, ap (and_also f n u) e, also_top)
        there a x (no e) = omega (arith, also_below a e, one.there a (omega arith))

        apart : (a b : ℕ) → a < suc n → b < suc n → and_also f n u a ≡ and_also f n u b → Dec (a ≡ n) → Dec (b ≡ n) → a ≡ b
        apart a b x y e (yes p) (yes q) = p ∙ sym q
        apart a b x y e (yes p) (no q) = absurd (none b (omega arith) (sym (also_below b q) ∙ sym e ∙ ap (and_also f n u) p ∙ also_top))
        apart a b x y e (no p) (yes q) = absurd (none a (omega arith) (sym (also_below a p) ∙ e ∙ ap (and_also f n u) q ∙ also_top))
        apart a b x y e (no p) (no q) = one.apart a b (omega arith) (omega arith) (sym (also_below a p) ∙ e ∙ also_below b q)

  -- ---- taken back

  -- what is found is there, if there is any
  found_at : (k a : ℕ) → a < k → (found f k (f a) < k) × (f (found f k (f a)) ≡ f a)
  unfolding found
  found_at zero a h = absurd (omega arith)
  found_at (suc k) a h = go (ℕ_discrete (f k) (f a)) (λ l. found_at k a l)
    where
      go : Dec (f k ≡ f a) → (a < k → (found f k (f a) < k) × (f (found f k (f a)) ≡ f a))
          → (found f (suc k) (f a) < suc k) × (f (found f (suc k) (f a)) ≡ f a)
      go (yes e) rest = rw (eq-eqb (f k) (f a) e) (omega arith, e)
      go (no e) rest =
          let other : a ≡ k → ⊥ = λ d. e (ap f (sym d)) in
          let (less, same) = rest (omega arith) in
          rw (ne_eqb (f k) (f a) e) (omega arith, same)

  pub found_name : (a : ℕ) → a < n → found f n (f a) ≡ a
  found_name a h = let (less, same) = found_at n a h in one.apart (found f n (f a)) a less h same

  -- each is a name
  pub name_found : (u : ℕ) → u < n → (found f n u < n) × (f (found f n u) ≡ u)
  name_found u h = go (dec_lt (found f n u) n) (ℕ_discrete (f (found f n u)) u)
    where
      at : (a : ℕ) → a < n → f a ≡ u → (found f n u < n) × (f (found f n u) ≡ u)
      at a l e = subst (λ (x : ℕ). (found f n x < n) × (f (found f n x) ≡ x)) e (found_at n a l)

      go : Dec (found f n u < n) → Dec (f (found f n u) ≡ u) → (found f n u < n) × (f (found f n u) ≡ u)
      go (yes l) (yes e) = (l, e)
      go (no l) d = absurd (omega (arith, enough_names (suc n) n _ (one_more u h (λ a x e. l (at a x e).0))))
      go (yes l) (no d) = absurd (omega (arith, enough_names (suc n) n _ (one_more u h (λ a x e. d (at a x e).1))))

-- ---- sets renamed

-- a set whose members are below n
small_set : (n s : ℕ) → ((m : ℕ) → In m s → m < n) → s < 2 ^ n
small_set zero s h = go (dec_lt 0 s)
  where
    go : Dec (0 < s) → s < 1
    go (yes p) = let (m, x) = some_in s p in absurd (omega (arith, h m x))
    go (no p) = omega arith
small_set (suc n) s h =
    let half = small_set n (s / 2) (λ m x. let l = h (suc m) ((in_suc s m).1 x) in omega arith) in
    omega (arith, pow-suc 2 n)

module _ (P : ℕ → Type 0) (m : ℕ) (f : ℕ → ℕ) (one : OneToOne P (Below m) f) (s t : ℕ) (named : (a : ℕ) → In a s → P a) (set : RenamedSet f s t) where
  -- a member by its new name
  pub in_renamed : (a : ℕ) → P a → In a s ↔ In (f a) t
  in_renamed a p = (
    λ x. (set (f a)).1 (a, x, refl),
    λ y.
        let (b, x, e) = (set (f a)).0 y in
        subst (λ (c : ℕ). In c s) (one.apart b a (named b x) p e) x,
  )

  -- a set that is not empty is one, and names nothing beyond the count
  pub set_of_renamed : 0 < s → SetOf m t
  set_of_renamed some =
      record {
        some = let (a, x) = some_in s some in in_pos (f a) t ((set (f a)).1 (a, x, refl));
        small = small_set m t (λ b y. let (a, x, e) = (set b).0 y in subst (λ (c : ℕ). c < m) e (one.there a (named a x)));
      }

-- sets that share a new name share the one that it was given to
pub share_renamed : (P Q : ℕ → Type 0) (f : ℕ → ℕ) → OneToOne P Q f → (s t u v : ℕ) → ((a : ℕ) → In a s → P a) → ((a : ℕ) → In a u → P a)
    → RenamedSet f s t → RenamedSet f u v → Share s u ↔ Share t v
share_renamed P Q f one s t u v ps pu x y = (
  λ (a, p, q). (f a, (x (f a)).1 (a, p, refl), (y (f a)).1 (a, q, refl)),
  λ (b, p, q).
      let (a, p', d) = (x b).0 p in
      let (c, q', e) = (y b).0 q in
      let same : c ≡ a = one.apart c a (pu c q') (ps a p') (e ∙ sym d) in
      (a, p', subst (λ (k : ℕ). In k u) same q'),
)
