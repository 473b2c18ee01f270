-- A test that computes says a statement when it is true exactly where the statement holds. The tests of this crate are put together from these.
-- Assumes nothing.
use Prim.Native.Nat.{ℕ, zero, suc, ◌<◌, ◌≤◌}
use mathlib.Core.Path.{◌≡◌, refl, sym, subst}
use mathlib.Core.Bool.{Bool, true, false, not, ◌&&◌, ◌||◌, false≢true, true≢false}
use mathlib.Core.Logic.{◌↔◌, ◌⊎◌, inl, inr}
use native.Mathlib.Omega.{arith}
use lib.Dec.{leb, ltb, eqb}
use borrow.Author.Tests.{leb-true, le-leb, ltb-true, lt-ltb, eqb-true, eq-eqb}
use Rattle.theory.specs.Tests.{all}
use Rattle.theory.proofs.Order.{Cmp, cmp}

abbrev pub Says : Bool → Type 0 → Type 0
Says b P = (b ≡ true) ↔ P

-- every test says that it is true
pub says_itself : {b : Bool} → Says b (b ≡ true)
says_itself = (λ e. e, λ e. e)

pub says_by : {P Q : Type 0} {b : Bool} → Says b P → (P → Q) → (Q → P) → Says b Q
says_by s f g = (λ e. f (s.0 e), λ q. s.1 (g q))

-- two tests are the same where what they say is
pub says_same : {P Q : Type 0} (a b : Bool) → Says a P → Says b Q → (P → Q) → (Q → P) → a ≡ b
says_same true b s t f g = sym (t.1 (f (s.0 refl)))
says_same false true s t f g = s.1 (g (t.0 refl))
says_same false false s t f g = refl

-- a test is true or it is not
pub data Known (b : Bool) : Type 0 where
  holds : b ≡ true → Known b
  fails : b ≡ false → Known b

pub known : (b : Bool) → Known b
known true = holds refl
known false = fails refl

pub clash_bool : {X : Type 0} {b : Bool} → b ≡ true → b ≡ false → X
clash_bool {b = true} p q = absurd (true≢false q)
clash_bool {b = false} p q = absurd (false≢true p)

pub says_leb : (a b : ℕ) → Says (leb a b) (a ≤ b)
says_leb a b = (leb-true a b, le-leb a b)

pub says_ltb : (a b : ℕ) → Says (ltb a b) (a < b)
says_ltb a b = (ltb-true a b, lt-ltb a b)

pub says_eqb : (a b : ℕ) → Says (eqb a b) (a ≡ b)
says_eqb a b = (eqb-true a b, eq-eqb a b)

pub says_and : {P Q : Type 0} (a b : Bool) → Says a P → Says b Q → Says (a && b) (P × Q)
says_and true b s t = (λ e. (s.0 refl, t.0 e), λ x. t.1 x.1)
says_and false b s t = (λ e. absurd (false≢true e), λ x. s.1 x.0)

pub says_or : {P Q : Type 0} (a b : Bool) → Says a P → Says b Q → Says (a || b) (P ⊎ Q)
says_or true b s t = (λ e. inl (s.0 refl), λ x. refl)
says_or {P} {Q} false b s t = (λ e. inr (t.0 e), go)
  where
    go : P ⊎ Q → b ≡ true
    go (inl p) = absurd (false≢true (s.1 p))
    go (inr q) = t.1 q

pub says_not : {P : Type 0} (a : Bool) → Says a P → Says (not a) (P → ⊥)
says_not true s = (λ e p. false≢true e, λ n. absurd (n (s.0 refl)))
says_not false s = (λ e p. false≢true (s.1 p), λ n. refl)

-- neither of two tests
pub or_false : (a b : Bool) → (a || b) ≡ false → (a ≡ false) × (b ≡ false)
or_false true b e = absurd (true≢false e)
or_false false b e = (refl, e)

-- the test is false exactly where the statement does not hold
pub says_false : {P : Type 0} (b : Bool) → Says b P → (b ≡ false) ↔ (P → ⊥)
says_false true s = (λ e p. false≢true (sym e), λ n. absurd (n (s.0 refl)))
says_false false s = (λ e p. false≢true (s.1 p), λ n. refl)

-- one number more
all_more : {P : ℕ → Type 0} (a b : Bool) (n : ℕ) → Says a (P n) → Says b ((k : ℕ) → k < n → P k) → Says (a && b) ((k : ℕ) → k < suc n → P k)
all_more {P} a b n s t = says_by (says_and a b s t) (λ x k h. go x k h (cmp k n)) (λ x. (x n (omega arith), λ k h. x k (omega arith)))
  where
    go : P n × ((k : ℕ) → k < n → P k) → (k : ℕ) → k < suc n → Cmp k n → P k
    go x k h (Cmp.less e) = x.1 k e
    go x k h (Cmp.same e) = subst (λ (m : ℕ). P m) (sym e) x.0
    go x k h (Cmp.more e) = absurd (omega arith)

pub says_all : {P : ℕ → Type 0} (f : ℕ → Bool) (n : ℕ) → ((k : ℕ) → k < n → Says (f k) (P k)) → Says (all f n) ((k : ℕ) → k < n → P k)
unfolding all
says_all f zero s = (λ e k h. absurd (omega arith), λ x. refl)
says_all {P} f (suc n) s = all_more {P = P} (f n) (all f n) n (s n (omega arith)) (says_all f n (λ k h. s k (omega arith)))
