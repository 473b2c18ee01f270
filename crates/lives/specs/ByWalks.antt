-- A test that computes: whether a number is a difference, and the number of places. Not part of any promise, and slow: it is there so that a
-- number of places is shown to exist and small tables can be tried. proofs/ByWalks shows that it is what the request says.
-- Assumes nothing.
use Rattle.std.specs.Prelude.{ℕ, zero, suc, ◌+◌, ◌-◌, ◌*◌, Bool, false, not, ◌&&◌, ◌||◌, List, [], ◌∷◌, leb, ltb, eqb}
use Rattle.rules.specs.Sets.{has}
use Rattle.rules.specs.Table.{Table, nops, op, followers, end_of}
use Rattle.rules.specs.Verdicts.{Verdict, accepted, onwards}
use Rattle.rules.specs.Judge.{judge}
use Rattle.theory.specs.Tests.{reach_set, first_from, period_of}
use Rattle.rules.specs.Places.{writer}
use Rattle.lives.specs.Near.{writes_in, ended_in, ahead_in}

-- the test f passes at some number below n
unfoldable pub any : (ℕ → Bool) → ℕ → Bool
any f zero = false
any f (suc n) = f n || any f n

-- mode b follows mode a by n + 1 turns, with s writes of cell c between
unfoldable pub counted : Table → ℕ → ℕ → ℕ → ℕ → ℕ → Bool
unfolding has any writes_in
counted T c zero s a b = has (followers T a) b && eqb s 0
counted T c (suc n) s a b =
    any (λ m. has (followers T a) m && (leb (writes_in T c m) s && counted T c n (s - writes_in T c m) m b)) T.modes

-- the operation j uses, in mode a, a value of cell c after which d - s writes follow up to the end of operation i in mode b, n + 1 turns
-- later
unfoldable pub shown : Table → ℕ → ℕ → ℕ → ℕ → ℕ → ℕ → ℕ → ℕ → ℕ → Bool
unfolding has writer ended_in ahead_in counted
shown T c d n a b j e s i =
    eqb (ahead_in T c a e + s + ended_in T c b (end_of (op T i))) d && counted T c n s a b

-- d is a difference. R is the set of the modes that a run can reach.
unfoldable pub differs : Table → ℕ → ℕ → ℕ → ℕ → Bool
unfolding has any writer shown
differs T R q c d =
    any (λ n. any (λ j. any (λ i. any (λ a. any (λ b.
    ltb ((op T i).start + suc n * q) (end_of (op T j)) && (has R a && (has (op T j).modes a && (writer T c b i
    && ((has (op T j).reads c && any (λ s. shown T c d n a b j (op T j).start s i) (suc d))
    || (has (op T j).writes c && any (λ s. shown T c d n a b j (end_of (op T j)) s i) (suc d)))))))
    T.modes) T.modes) (nops T)) (nops T)) T.len

-- the number of places of cell c at the period q
unfoldable pub places_of : Table → ℕ → ℕ → ℕ
unfolding first_from differs reach_set
places_of T q c = first_from (λ R. not (differs T (reach_set T) q c R)) 32000 1

-- f k, f (k + 1), .., so many numbers
unfoldable pub listed : (ℕ → ℕ) → ℕ → ℕ → List ℕ
listed f k zero = []
listed f k (suc n) = f k ∷ listed f (suc k) n

-- the places of each cell at the table's period
unfoldable pub each_of : Table → List ℕ
unfolding listed places_of period_of
each_of T = listed (places_of T (period_of T)) 0 T.cells

-- the places of a table's bytes
unfoldable pub places_answer : List ℕ → Verdict (List ℕ)
unfolding onwards judge each_of
places_answer s = onwards (judge s) (λ T. accepted (each_of T))
