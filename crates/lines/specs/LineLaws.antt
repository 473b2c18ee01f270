-- The steps of writing a line.
-- Assumes nothing.
use Rattle.std.specs.Prelude.{ℕ, ◌+◌, ◌/◌, ◌%◌, ◌<◌, ◌≤◌, ◌≡◌, List, [], ◌∷◌, ◌++◌, length, get_or, take, set}
use Rattle.std.proofs.Math.Path.{refl}
use Rattle.std.proofs.Common.{◌∙◌, arith, add-one, length-append, take-suc, length-take-le}
use Rattle.rules.specs.Text.{decimal, period_word, newline, period_line}
use Rattle.theory.proofs.Text.{decimal_small, decimal_more, period_line_lem}
use Rattle.puts.specs.Puts.{stored}
use Rattle.puts.specs.PutLaws.{stored_then}
use Rattle.lines.specs.Lines.{Puts, line_of}

-- bytes behind bytes
pub puts_then : (out : List ℕ) (at : ℕ) (xs ys : List ℕ) {mid end : List ℕ} {m n : ℕ} → Puts out mid at m xs → Puts mid end m n ys
    → Puts out end at n (xs ++ ys)
puts_then out at xs ys (e, p) (f, q) = (stored_then out at xs ys e p f, omega (arith, length-append xs ys))

-- one byte
puts_one : (out : List ℕ) (at x : ℕ) → Puts out (set out at x) at (at + 1) (x ∷ [])
unfolding stored
puts_one out at x = (refl, refl)

-- ---- the digits of a number: the only one, and the last of several
module _ (out : List ℕ) (at n : ℕ) where
  pub digit_only : n < 10 → Puts out (set out at (48 + n)) at (at + 1) (decimal n)
  digit_only h = rw (decimal_small n h) (puts_one out at (48 + n))

  pub digit_last : {mid : List ℕ} {end : ℕ} → 10 ≤ n → Puts out mid at end (decimal (n / 10))
      → Puts out (set mid end (48 + n % 10)) at (end + 1) (decimal n)
  digit_last {mid} {end} h front =
      rw (decimal_more n h) (puts_then out at (decimal (n / 10)) ((48 + n % 10) ∷ []) front (puts_one mid end (48 + n % 10)))

-- ---- nothing stored yet
pub copy_none : (out : List ℕ) (at : ℕ) (w : List ℕ) → out ≡ stored out at (take 0 w)
unfolding stored
copy_none out at w = refl

-- bytes copied one by one
module _ (out : List ℕ) (at : ℕ) (w : List ℕ) where
  pub copy_turn : (i : ℕ) {mid : List ℕ} → i < length w → mid ≡ stored out at (take i w) → set mid (at + i) (get_or w i 0) ≡ stored out at (take (i + 1) w)
  copy_turn i {mid} h e =
      rw (add-one, take-suc w i 0 h)
      (stored_then out at (take i w) (get_or w i 0 ∷ []) e (omega (arith, length-take-le i w (omega arith))) (puts_one mid (at + i) (get_or w i 0)).0)

-- ---- a line's end behind its parts
module _ (out : List ℕ) (at : ℕ) where
  pub period_put : (q : ℕ) {mid end : List ℕ} {m n : ℕ} → Puts out mid at m (period_word ++ decimal q) → Puts mid end m n newline
      → Puts out end at n (period_line q)
  period_put q a b = rw (period_line_lem q) (puts_then out at (period_word ++ decimal q) newline a b)

  pub line_put : (u : List ℕ) (x : ℕ) (v : List ℕ) (y : ℕ) (w : List ℕ) (z : ℕ) {one two three end : List ℕ} {m k l n : ℕ}
      → Puts out one at m (u ++ decimal x) → Puts one two m k (v ++ decimal y) → Puts two three k l (w ++ decimal z)
      → Puts three end l n newline → Puts out end at n (line_of u x v y w z)
  line_put u x v y w z a b c d =
      let first = puts_then out at (u ++ decimal x) (v ++ decimal y) a b in
      let all = puts_then out at (u ++ decimal x ++ (v ++ decimal y)) (w ++ decimal z) first c in
      puts_then out at (u ++ decimal x ++ (v ++ decimal y) ++ (w ++ decimal z)) newline all d

pub line_length : (u : List ℕ) (x : ℕ) (v : List ℕ) (y : ℕ) (w : List ℕ) (z : ℕ)
    → length (line_of u x v y w z) ≡ length (u ++ decimal x) + length (v ++ decimal y) + length (w ++ decimal z) + 1
line_length u x v y w z =
    length-append (u ++ decimal x ++ (v ++ decimal y) ++ (w ++ decimal z)) newline
    ∙ omega (arith, length-append (u ++ decimal x ++ (v ++ decimal y)) (w ++ decimal z), length-append (u ++ decimal x) (v ++ decimal y))
