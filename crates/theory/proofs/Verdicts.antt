-- Laws of verdicts: what it takes that a row of tests accepts, and when two rows of tests agree.
-- Assumes nothing.
use Prim.Native.Nat.{ℕ, zero, suc, ◌+◌, ◌<◌, ◌≤◌}
use mathlib.Core.Path.{◌≡◌, refl, sym, ap, subst, ◌∙◌}
use mathlib.Core.Bool.{Bool, true, false}
use mathlib.Core.List.{List, ◌∷◌}
use native.Mathlib.Omega.{arith}
use Rattle.rules.specs.Verdicts.{Verdict, accepted, refused, Test, refuse_if, ◌then◌, onwards, more, each}
use Rattle.theory.proofs.Order.{Cmp, cmp}

-- an accepted verdict is no refusal
pub never_refused : {A X : Type 0} {x : A} {n a b : ℕ} → refused n a b ≡ accepted x → X
never_refused {A} {x = x} {n} {a} {b} e = let z : ◌≡◌ {A = ℕ} 0 1 = cc in absurd (omega arith)

-- two refusals that are one have the same figures
same_figures : {A : Type 0} {n a b m c d : ℕ} → ◌≡◌ {A = Verdict A} (refused n a b) (refused m c d) → (n ≡ m) × (a ≡ c) × (b ≡ d)
same_figures e = (cc, cc, cc)

-- ---- a test

pub passes : (fault : Bool) (n a b : ℕ) → fault ≡ false → refuse_if fault n a b ≡ accepted tt
unfolding refuse_if
passes fault n a b e = rw e

pub refuses : (fault : Bool) (n a b : ℕ) → fault ≡ true → refuse_if fault n a b ≡ refused n a b
unfolding refuse_if
refuses fault n a b e = rw e

pub passed : (fault : Bool) (n a b : ℕ) → refuse_if fault n a b ≡ accepted tt → fault ≡ false
unfolding refuse_if
passed false n a b e = refl
passed true n a b e = never_refused e

-- what a test refuses, it refuses with its own numbers
pub fault_refused : (fault : Bool) {n a b m c d : ℕ} → refuse_if fault n a b ≡ refused m c d → (fault ≡ true) × (m ≡ n) × (a ≡ c) × (b ≡ d)
unfolding refuse_if
fault_refused true e = (refl, cc, cc, cc)
fault_refused false e = never_refused (sym e)

-- ---- one after the other

module _ {A B : Type 0} where
  pub then_accepts : {x : A} {v : Verdict A} (w : Verdict B) → v ≡ accepted x → (v then w) ≡ w
  unfolding ◌then◌
  then_accepts w e = rw e

  pub then_refuses : {n a b : ℕ} {v : Verdict A} (w : Verdict B) → v ≡ refused n a b → (v then w) ≡ refused n a b
  unfolding ◌then◌
  then_refuses w e = rw e

  -- a row that accepts: the first accepts, and so does the rest
  pub then_first : (v : Verdict A) (w : Verdict B) {y : B} → (v then w) ≡ accepted y → (x : A) × (v ≡ accepted x)
  unfolding ◌then◌
  then_first (accepted x) w e = (x, refl)
  then_first (refused n a b) w e = never_refused e

  pub then_rest : (v : Verdict A) (w : Verdict B) {y : B} → (v then w) ≡ accepted y → w ≡ accepted y
  unfolding ◌then◌
  then_rest (accepted x) w e = e
  then_rest (refused n a b) w e = never_refused e

  -- what refuses is the first test, or the rest after a first that accepts
  pub then_refused : {X : Type 0} (v : Verdict A) (w : Verdict B) {n a b : ℕ} → (v then w) ≡ refused n a b
      → (v ≡ refused n a b → X) → ((x : A) → v ≡ accepted x → w ≡ refused n a b → X) → X
  unfolding ◌then◌
  then_refused (accepted x) w e first rest = rest x refl e
  then_refused (refused m c d) w e first rest = let (p, q, r) = same_figures e in first (rw (p, q, r))

  -- two rows agree where their firsts do, and their rests wherever the first accepts
  pub then_same : {v v' : Verdict A} {w w' : Verdict B} → v ≡ v' → ((x : A) → v' ≡ accepted x → w ≡ w') → (v then w) ≡ (v' then w')
  unfolding ◌then◌
  then_same {v} {v'} {w} {w'} e f = ap (λ (u : Verdict A). u then w) e ∙ go v' f
    where
      go : (u : Verdict A) → ((x : A) → u ≡ accepted x → w ≡ w') → (u then w) ≡ (u then w')
      go (accepted x) g = g x refl
      go (refused n a b) g = refl

  pub onwards_refuses : {n a b : ℕ} {v : Verdict A} (f : A → Verdict B) → v ≡ refused n a b → onwards v f ≡ refused n a b
  unfolding onwards
  onwards_refuses f e = rw e

  pub onwards_refused : {X : Type 0} (v : Verdict A) (f : A → Verdict B) {n a b : ℕ} → onwards v f ≡ refused n a b
      → (v ≡ refused n a b → X) → ((x : A) → v ≡ accepted x → f x ≡ refused n a b → X) → X
  unfolding onwards
  onwards_refused (accepted x) f e first rest = rest x refl e
  onwards_refused (refused m c d) f e first rest = let (p, q, r) = same_figures e in first (rw (p, q, r))

  pub onwards_accepts : {x : A} {v : Verdict A} (f : A → Verdict B) → v ≡ accepted x → onwards v f ≡ f x
  unfolding onwards
  onwards_accepts f e = rw e

  pub onwards_first : (v : Verdict A) (f : A → Verdict B) {y : B} → onwards v f ≡ accepted y → (x : A) × (v ≡ accepted x) × (f x ≡ accepted y)
  unfolding onwards
  onwards_first (accepted x) f e = (x, refl, e)
  onwards_first (refused n a b) f e = never_refused e

-- two ways to go on agree where they do on what was accepted
pub onwards_same : {A B : Type 0} (v : Verdict A) (f g : A → Verdict B) → ((x : A) → v ≡ accepted x → f x ≡ g x) → onwards v f ≡ onwards v g
unfolding onwards
onwards_same (accepted x) f g same = same x refl
onwards_same (refused n a b) f g same = refl

-- what comes behind, in other words
pub then_again : {A B : Type 0} (v : Verdict A) {w x : Verdict B} → w ≡ x → (v then w) ≡ (v then x)
then_again v e = ap (λ w. v then w) e

-- going on twice; going on from a test
pub onwards_onwards : {A B C : Type 0} (v : Verdict A) (f : A → Verdict B) (g : B → Verdict C)
    → onwards (onwards v f) g ≡ onwards v (λ x. onwards (f x) g)
unfolding onwards
onwards_onwards (accepted x) f g = refl
onwards_onwards (refused n a b) f g = refl

pub onwards_then : {A B : Type 0} (t : Test) (x : A) (g : A → Verdict B) → onwards (t then accepted x) g ≡ (t then g x)
unfolding onwards ◌then◌
onwards_then (accepted y) x g = refl
onwards_then (refused n a b) x g = refl

-- nothing comes behind a test
pub then_none : (v : Test) {w : Test} → w ≡ accepted tt → (v then w) ≡ v
unfolding ◌then◌
then_none (accepted x) e = e
then_none (refused n a b) e = refl

-- three in a row, whichever two are put together first
pub then_assoc : {A B C : Type 0} (u : Verdict A) (v : Verdict B) (w : Verdict C) → ((u then v) then w) ≡ (u then (v then w))
unfolding ◌then◌
then_assoc (accepted x) v w = refl
then_assoc (refused n a b) v w = refl

-- a row, and what is done with what it accepts
pub then_onwards : {A B C D : Type 0} (t : Verdict A) (v : Verdict B) (f : B → C) (g : C → Verdict D)
    → (t then onwards v (λ x. g (f x))) ≡ onwards (t then onwards v (λ x. accepted (f x))) g
unfolding ◌then◌ onwards
then_onwards (accepted x) (accepted y) f g = refl
then_onwards (accepted x) (refused n a b) f g = refl
then_onwards (refused n a b) v f g = refl

module _ {A : Type 0} where
  pub more_accepts : {xs : List A} {v : Verdict (List A)} (x : A) → v ≡ accepted xs → more x v ≡ accepted (x ∷ xs)
  unfolding more
  more_accepts x e = rw e

  pub more_refuses : {n a b : ℕ} {v : Verdict (List A)} (x : A) → v ≡ refused n a b → more x v ≡ refused n a b
  unfolding more
  more_refuses x e = rw e

  pub more_first : (x : A) (v : Verdict (List A)) {ys : List A} → more x v ≡ accepted ys → (xs : List A) × (v ≡ accepted xs) × (ys ≡ x ∷ xs)
  unfolding more
  more_first x (accepted xs) e = (xs, refl, cc)
  more_first x (refused n a b) e = never_refused e

  pub more_refused : (x : A) (v : Verdict (List A)) {n a b : ℕ} → more x v ≡ refused n a b → v ≡ refused n a b
  unfolding more
  more_refused x (accepted xs) e = never_refused (sym e)
  more_refused x (refused m c d) e = let (p, q, r) = same_figures e in rw (p, q, r)

-- ---- a test for each number
pub each_accepts : (f : ℕ → Test) (i n : ℕ) → ((k : ℕ) → i ≤ k → k < i + n → f k ≡ accepted tt) → each f i n ≡ accepted tt
unfolding each
each_accepts f i zero h = refl
each_accepts f i (suc n) h =
    then_accepts (each f (suc i) n) (h i (omega arith) (omega arith)) ∙ each_accepts f (suc i) n (λ k a b. h k (omega arith) (omega arith))

pub each_accepted : (f : ℕ → Test) (i n : ℕ) → each f i n ≡ accepted tt → (k : ℕ) → i ≤ k → k < i + n → f k ≡ accepted tt
unfolding each
each_accepted f i zero e k a b = absurd (omega arith)
each_accepted f i (suc n) e k a b = go (each_accepted f (suc i) n (then_rest (f i) (each f (suc i) n) e)) (cmp i k)
  where
    go : ((k : ℕ) → suc i ≤ k → k < suc i + n → f k ≡ accepted tt) → Cmp i k → f k ≡ accepted tt
    go rest (Cmp.less h) = rest k h (omega arith)
    go rest (Cmp.same h) = subst (λ (m : ℕ). f m ≡ accepted tt) h (then_first (f i) (each f (suc i) n) e).1
    go rest (Cmp.more h) = absurd (omega arith)
