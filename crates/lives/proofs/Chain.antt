-- R places are enough exactly when no value and later write with difference R conflict: along the writes w, w + R, w + 2R, .. each starts
-- after the one before it has ended, so a conflict at a multiple of R gives one at R.
-- Assumes nothing.
use Prim.Native.Nat.{ℕ, zero, suc, ◌+◌, ◌*◌, ◌/◌, ◌%◌, ◌<◌, ◌≤◌}
use mathlib.Core.Path.{◌≡◌, refl, ap, ap₂, subst}
use mathlib.Core.List.{List}
use mathlib.Core.Logic.{◌↔◌, ◌⊎◌, inl, inr}
use native.Mathlib.Nat.{div-add-mod', add-mod_right}
use native.Mathlib.Omega.{arith}
use native.Mathlib.Decide.{dec_lt, ℕ_discrete}
use Rattle.rules.specs.Table.{Table, op, end_of, Accepted}
use Rattle.rules.specs.Runs.{IsRun, plain_end, ValuesRightAt, spaced}
use Rattle.theory.proofs.Order.{Cmp, cmp, later, distance}
use Rattle.rules.specs.Places.{writes_by, Writes, Reads, Unread, Lives, Conflict, Enough}
use Rattle.lives.specs.Near.{Uses, Meets, Differ}
use Rattle.lives.proofs.Counts.{number_write, value_source}

-- one and the same instance
abbrev pub Same : ℕ → ℕ → ℕ → ℕ → Type 0
Same i k j l = (i ≡ j) × (k ≡ l)

pub same_or_not : (i k j l : ℕ) → Same i k j l ⊎ (Same i k j l → ⊥)
same_or_not i k j l = go (ℕ_discrete i j) (ℕ_discrete k l)
  where
    go : Dec (i ≡ j) → Dec (k ≡ l) → Same i k j l ⊎ (Same i k j l → ⊥)
    go (yes a) (yes b) = inl (a, b)
    go (yes a) (no b) = inr (λ x. b x.1)
    go (no a) b = inr (λ x. a x.0)

-- what writes a value uses it
pub own_use : (T : Table) (r : List ℕ) (c w i k : ℕ) → Writes T r c w i k → Uses T r c w i k
unfolding Uses
own_use T r c w i k x = inr x

-- two numbers with one place are a multiple of R apart
multiple : (R w v : ℕ) → w < v → v % R ≡ w % R → (t : ℕ) × (v ≡ w + suc t * R)
multiple R w v h e = go (cmp (w / R) (v / R))
  where
    go : Cmp (w / R) (v / R) → (t : ℕ) × (v ≡ w + suc t * R)
    go (Cmp.less x) =
        let (t, f) = distance x in
        (t, omega (arith, div-add-mod' w R, div-add-mod' v R, e, ap (λ (y : ℕ). y * R) f))
    go (Cmp.same x) = absurd (omega (arith, div-add-mod' w R, div-add-mod' v R, e, ap (λ (y : ℕ). y * R) x))
    go (Cmp.more x) = absurd (omega (arith, div-add-mod' w R, div-add-mod' v R, e, later R x))

module _ (T : Table) (ok : Accepted T) (q c : ℕ) where
  module _ (r : List ℕ) (R : ℕ) (low : 1 ≤ R) (none : (w j l i k : ℕ) → Meets T q r c w (w + R) j l i k → ⊥) where
    -- a write R later is the user itself, or starts when it has ended
    next : (w v j l i k : ℕ) → v ≡ w + R → Uses T r c w j l → Writes T r c v i k → Same i k j l ⊎ (end_of (op T j) + l * q ≤ (op T i).start + k * q)
    next w v j l i k e x y = go (same_or_not i k j l) (dec_lt ((op T i).start + k * q) (end_of (op T j) + l * q))
      where
        go : Same i k j l ⊎ (Same i k j l → ⊥) → Dec ((op T i).start + k * q < end_of (op T j) + l * q)
            → Same i k j l ⊎ (end_of (op T j) + l * q ≤ (op T i).start + k * q)
        go (inl s) d = inl s
        go (inr n) (no h) = inr (omega arith)
        go (inr n) (yes h) =
            absurd
            (none w j l i k
            (record { uses = x; write = subst (λ (z : ℕ). Writes T r c z i k) e y; later = omega arith; soon = h; other = n }))

    -- two steps of the chain
    onward : (j l u n i k m v : ℕ) → v ≡ m + R → Writes T r c m u n → Writes T r c v i k
        → Same u n j l ⊎ (end_of (op T j) + l * q ≤ (op T u).start + n * q)
        → Same i k u n ⊎ (end_of (op T u) + n * q ≤ (op T i).start + k * q)
        → end_of (op T j) + l * q ≤ (op T i).start + k * q
    onward j l u n i k m v e x y a (inl (f, g)) =
        absurd (omega (arith, x.value, y.value, ap₂ (λ (s t : ℕ). writes_by T r c (plain_end T s t)) f g))
    onward j l u n i k m v e x y (inl (f, g)) (inr h) = omega (arith, ap₂ (λ (s t : ℕ). end_of (op T s) + t * q) f g)
    onward j l u n i k m v e x y (inr a) (inr h) = omega arith

    -- the write (t + 1) * R later
    chain : (t w v j l i k : ℕ) → v ≡ w + suc t * R → Uses T r c w j l → Writes T r c v i k
        → Same i k j l ⊎ (end_of (op T j) + l * q ≤ (op T i).start + k * q)
    chain zero w v j l i k e x y = next w v j l i k (omega arith) x y
    chain (suc t) w v j l i k e x y =
        let m = w + suc t * R in
        let h : m ≤ writes_by T r c (plain_end T i k) = omega (arith, y.value) in
        let g : 1 ≤ m = omega arith in
        let (u, n, z) = number_write T r c ok (plain_end T i k) m g h in
        inr (onward j l u n i k m v (omega arith) z y (chain t w m j l u n refl x z) (next m v u n i k (omega arith) (own_use T r c m u n z) y))

  -- what R is not a difference of is enough
  pub lives_use : (r : List ℕ) (w j l : ℕ) → Lives T r c w j l → Uses T r c w j l
  unfolding Lives Uses
  lives_use r w j l (inl x) = inl x
  lives_use r w j l (inr x) = inr x.0

  pub differ_enough : (R : ℕ) → 1 ≤ R → (Differ T q c R → ⊥) → Enough T q c R
  unfolding Enough Differ
  differ_enough R low none r run w v j l i k e x =
      let (t, f) = multiple R w v x.later e in
      go (chain r R low (λ w₁ j₁ l₁ i₁ k₁ y. none (r, run, w₁, j₁, l₁, i₁, k₁, y)) t w v j l i k f (lives_use r w j l x.lives) x.write)
    where
      go : Same i k j l ⊎ (end_of (op T j) + l * q ≤ (op T i).start + k * q) → ⊥
      go (inl s) = x.other s
      go (inr h) = omega (arith, x.soon)

  -- the other way, where values are right: a reader then starts when the write of its value has ended, so that what comes too soon for the
  -- write comes too soon for each reader
  module _ (values : ValuesRightAt T (spaced q)) (r : List ℕ) (run : IsRun T r) where
    reader_waits : (w j l i k : ℕ) → Reads T r c w j l → Writes T r c w i k → end_of (op T i) + k * q ≤ (op T j).start + l * q
    unfolding ValuesRightAt
    reader_waits w j l i k x y = values r run c i k j l x.runs x.reads (value_source T r c w j l i k x y)

    reader_instead : (w v j l i k u m : ℕ) → Meets T q r c w v j l i k → Writes T r c w j l → Reads T r c w u m → Conflict T q r c w v u m i k
    unfolding Lives
    reader_instead w v j l i k u m x y z =
        record {
          lives = inl z;
          write = x.write;
          later = x.later;
          soon = omega (arith, x.soon, reader_waits w u m j l z y);
          other = λ e. omega (arith, x.soon, reader_waits w u m j l z y, ap₂ (λ (s t : ℕ). (op T s).start + t * q) e.0 e.1);
        }

    -- what meets a use conflicts, if not with the use then with a reader
    meets_conflict : (w v j l i k : ℕ) → Meets T q r c w v j l i k → ((u m : ℕ) → Conflict T q r c w v u m i k → ⊥) → ⊥
    unfolding Uses Lives Unread
    meets_conflict w v j l i k x none = go x.uses
      where
        by : Lives T r c w j l → ⊥
        by y = none j l (record { lives = y; write = x.write; later = x.later; soon = x.soon; other = x.other })

        go : Reads T r c w j l ⊎ Writes T r c w j l → ⊥
        go (inl y) = by (inl y)
        go (inr y) = by (inr (y, λ u m z. none u m (reader_instead w v j l i k u m x y z)))

  pub enough_differ : ValuesRightAt T (spaced q) → (R : ℕ) → Enough T q c R → Differ T q c R → ⊥
  unfolding Enough Differ
  enough_differ values R e (r, run, w, j, l, i, k, x) =
      meets_conflict values r run w (w + R) j l i k x (λ u m y. e r run w (w + R) u m i k (add-mod_right w R) y)

  -- R places are enough exactly when R is no difference
  pub enough_iff : ValuesRightAt T (spaced q) → (R : ℕ) → 1 ≤ R → Enough T q c R ↔ (Differ T q c R → ⊥)
  enough_iff values R low = (enough_differ values R, differ_enough R low)
