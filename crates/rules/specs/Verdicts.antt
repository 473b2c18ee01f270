-- Document 01, "Numbers of refusal": a verdict, and how tests are put one after the other so that the first that fails is the answer.
-- Assumes nothing.
use Rattle.std.specs.Prelude.{ℕ, zero, suc, Bool, cond, List, ◌∷◌}

-- "A refusal returns its number, a and b"
pub data Verdict (A : Type 0) : Type 0 where
  accepted : A → Verdict A
  refused : (number a b : ℕ) → Verdict A

-- the numbers
abbrev pub SHORT : ℕ
SHORT = 1

abbrev pub ORDER : ℕ
ORDER = 2

abbrev pub SIZE : ℕ
SIZE = 3

abbrev pub RANGE : ℕ
RANGE = 4

abbrev pub MANY : ℕ
MANY = 5

abbrev pub CLASH : ℕ
CLASH = 6

abbrev pub RACE : ℕ
RACE = 7

abbrev pub ROOM : ℕ
ROOM = 8

abbrev pub ASK : ℕ
ASK = 9

-- document 02, No. 4
abbrev pub EARLY : ℕ
EARLY = 10

-- a test with nothing to hand on
abbrev pub Test : Type 0
Test = Verdict (Unit {0})

-- refused where the fault is there
unfoldable pub refuse_if : Bool → ℕ → ℕ → ℕ → Test
refuse_if fault number a b = cond fault (refused number a b) (accepted tt)

-- the first refusal counts
infixr 40 ◌then◌
unfoldable pub ◌then◌ : {A B : Type 0} → Verdict A → Verdict B → Verdict B
accepted x then v = v
refused number a b then v = refused number a b

-- go on with what was accepted
unfoldable pub onwards : {A B : Type 0} → Verdict A → (A → Verdict B) → Verdict B
onwards (accepted x) f = f x
onwards (refused number a b) f = refused number a b

-- one more in front of what is accepted
unfoldable pub more : {A : Type 0} → A → Verdict (List A) → Verdict (List A)
more x (accepted xs) = accepted (x ∷ xs)
more x (refused number a b) = refused number a b

-- the tests f i, f (i + 1), .., n of them, one after the other
unfoldable pub each : (ℕ → Test) → ℕ → ℕ → Test
unfolding ◌then◌
each f i zero = accepted tt
each f i (suc n) = f i then each f (suc i) n
