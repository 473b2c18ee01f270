-- The search by rows: how a row is made of what waits, what waits next, how far the rows reach, and that the first number that no row reaches is
-- the number of places.
-- Assumes nothing.
use Prim.Native.Nat.{ℕ, ◌+◌, ◌-◌, ◌<◌, ◌≤◌, max}
use mathlib.Core.Path.{◌≡◌, refl, sym, ap, subst, ◌∙◌}
use mathlib.Core.Logic.{◌↔◌, ◌⊎◌, inl, inr}
use native.Mathlib.Omega.{arith}
use native.Mathlib.Decide.{dec_lt}
use Rattle.rules.specs.Table.{Table, op, Turn, end_of, Accepted}
use Rattle.rules.specs.Runs.{ValuesRightAt, spaced}
use Rattle.rules.specs.Places.{IsPlaces}
use Rattle.theory.proofs.Order.{Cmp, cmp}
use Rattle.theory.proofs.Alike.{turn_modes}
use Rattle.lives.specs.Near.{Differ, writes_in}
use Rattle.lives.specs.Left.{Most, Left, begin, onward, IsRow, Used, Waiting, IsRing, Sound, Handed, started_in, Shown, Searched, Farther}
use Rattle.lives.proofs.Cycles.{in_parts, writes_in_most}
use Rattle.lives.proofs.Chain.{enough_differ, differ_enough}
use Rattle.lives.proofs.Finite.{differ_most}
use Rattle.lives.proofs.Bounds.{area}
use Rattle.lives.proofs.Far.{started_mono, started_none, differ_shown}

-- ---- the largest

pub most_none : {Q : ℕ → Type 0} → ((y : ℕ) → Q y → ⊥) → Most Q 0
most_none none = record { most = λ y p. absurd (none y p); least = λ z h. omega arith }

pub most_as : {P Q : ℕ → Type 0} {x : ℕ} → ((y : ℕ) → P y ↔ Q y) → Most P x → Most Q x
most_as same m = record { most = λ y p. m.most y ((same y).1 p); least = λ z h. m.least z (λ y p. h y ((same y).0 p)) }

-- of two, the larger
pub most_or : {P Q : ℕ → Type 0} {x y z : ℕ} → Most P x → Most Q y → x ≤ z → y ≤ z → (z ≤ x) ⊎ (z ≤ y) → Most (λ w. P w ⊎ Q w) z
most_or {P} {Q} {x} {y} {z} m n h g which = record { most = up; least = down which }
  where
    up : (w : ℕ) → P w ⊎ Q w → w ≤ z
    up w (inl p) = omega (arith, m.most w p)
    up w (inr p) = omega (arith, n.most w p)

    down : (z ≤ x) ⊎ (z ≤ y) → (v : ℕ) → ((w : ℕ) → P w ⊎ Q w → w ≤ v) → z ≤ v
    down (inl e) v b = omega (arith, m.least v (λ w p. b w (inl p)))
    down (inr e) v b = omega (arith, n.least v (λ w p. b w (inr p)))

-- where the largest is not 0, Q cannot but hold of it
most_holds : {Q : ℕ → Type 0} {x : ℕ} → Most Q x → 0 < x → (Q x → ⊥) → ⊥
most_holds {Q} {x} m h none = omega (arith, m.least (x - 1) (λ y p. less y p (cmp y x)))
  where
    less : (y : ℕ) → Q y → Cmp y x → y ≤ x - 1
    less y p (Cmp.less l) = omega arith
    less y p (Cmp.same e) = absurd (none (subst (λ (w : ℕ). Q w) e p))
    less y p (Cmp.more l) = absurd (omega (arith, m.most y p))

module _ (T : Table) (ok : Accepted T) (q c : ℕ) where
  turn_low : (m b : ℕ) → Turn T m b → (m < 32) × (b < 32)
  turn_low m b f = let (h, g) = turn_modes T ok m b f in (omega (arith, ok.modes_high), omega (arith, ok.modes_high))

  -- ---- a row

  -- what waits at a mode is left, less a period, at each that follows it
  waiting_left : (s m b x : ℕ) → Waiting T q c s s m x → Turn T m b → Left T q c s b (x - q)
  waiting_left s m b x (inl u) f =
      let (j, e, used, ahead, ends) = u.by in
      subst (λ (y : ℕ). Left T q c s b (y - q)) (sym ends) (subst (λ (t : ℕ). Left T q c t b (end_of (op T j) - q)) ahead (begin u.reach used f))
  waiting_left s m b x (inr (u, h, e, y)) f = subst (λ (t : ℕ). Left T q c t b (x - q)) e (onward y f)

  -- what comes fresh to mode b: from each mode before it what waits there, less a period
  abbrev pub Fresh : (ℕ → ℕ) → ℕ → ℕ → Type 0
  Fresh w b y = (m : ℕ) × (m < 32) × Turn T m b × (y ≡ w m - q)

  module _ (s : ℕ) (g : ℕ → ℕ → ℕ) (ring : IsRing T q c s g) (f₀ : ℕ → ℕ) (fresh : (b : ℕ) → b < 32 → Most (Fresh (g s) b) (f₀ b)) where
    pub fresh_sound : Sound T q c s f₀
    fresh_sound b z l bound =
        (fresh b l).least z
        (λ y (m, h, f, e).
        let wait : g s m ≤ z + q
        = (ring s m (omega arith) (omega arith) h).least (z + q) (λ x w. omega (arith, bound (x - q) (waiting_left s m b x w f)))
        in
        omega arith)

    module _ (f : ℕ → ℕ) (above : (b : ℕ) → b < 32 → f₀ b ≤ f b) (handed : Handed T q c f) where
      -- what waits for this row is taken up
      taken : (m b x : ℕ) → Waiting T q c s s m x → Turn T m b → x - q ≤ f b
      taken m b x w t =
          let (h, g') = turn_low m b t in
          let here : g s m - q ≤ f₀ b = (fresh b g').most (g s m - q) (m, h, t, refl) in
          omega (arith, (ring s m (omega arith) (omega arith) h).most x w, above b g')

      row_most : {t b y : ℕ} → Left T q c t b y → t ≡ s → y ≤ f b
      row_most (begin {a = a} {b = b} {j = j} {e = e} r u t) h =
          taken a b (end_of (op T j)) (inl (record { reach = r; by = (j, e, u, h, refl) })) t
      row_most (onward {s = u} {m = m} {b = b} {x = x} y t) h = go (cmp 0 (writes_in T c m)) (λ e. row_most y e)
        where
          go : Cmp 0 (writes_in T c m) → (u ≡ s → x ≤ f m) → x - q ≤ f b
          go (Cmp.less l) i = taken m b x (inr (u, omega arith, h, y)) t
          go (Cmp.same l) i = omega (arith, i (omega arith), handed m b (turn_low m b t).0 (turn_low m b t).1 (sym l) t)
          go (Cmp.more l) i = absurd (omega arith)

      pub row_made : Sound T q c s f → IsRow T q c s f
      row_made sound b l = record { most = λ y x. row_most x refl; least = λ z bound. sound b z l bound }

  -- a mode that writes nothing hands on what is left
  pub idle_sound : (s m b z : ℕ) → writes_in T c m ≡ 0 → Turn T m b → ((y : ℕ) → Left T q c s b y → y ≤ z)
      → (x : ℕ) → Left T q c s m x → x ≤ z + q
  idle_sound s m b z e f bound x y =
      omega (arith, bound (x - q) (subst (λ (t : ℕ). Left T q c t b (x - q)) (omega arith) (onward y f)))

  -- ---- what waits next

  -- no use has more writes behind it than there are operations
  used_few : {t m x : ℕ} → Used T c t m x → t ≤ 32
  used_few {m = m} u =
      let (j, e, used, ahead, ends) = u.by in omega (arith, in_parts T c m e, writes_in_most T c m, ok.ops_high)

  -- before the first row only uses wait
  pub ring_first : (g : ℕ → ℕ → ℕ) → ((t m : ℕ) → t < 33 → m < 32 → Most (Used T c t m) (g t m)) → IsRing T q c 0 g
  ring_first g used t m low high h =
      most_as (λ y. (λ u. inl u, λ w. only w)) (used t m (omega arith) h)
    where
      only : {y : ℕ} → Waiting T q c 0 t m y → Used T c t m y
      only (inl u) = u
      only (inr (u, l, e, y)) = absurd (omega arith)

  -- behind row s: it waits, too, for the row that comes as many writes later as the mode has, and the row that is done makes room for one that
  -- nothing waits for yet
  pub ring_next : (s : ℕ) (g h : ℕ → ℕ → ℕ) (f : ℕ → ℕ) → IsRing T q c s g → IsRow T q c s f
      → ((m : ℕ) → m < 32 → h (s + 33) m ≡ 0)
      → ((t m : ℕ) → s < t → t < s + 33 → m < 32 → t ≡ s + writes_in T c m → h t m ≡ max (g t m) (f m))
      → ((t m : ℕ) → s < t → t < s + 33 → m < 32 → (t ≡ s + writes_in T c m → ⊥) → h t m ≡ g t m)
      → IsRing T q c (s + 1) h
  ring_next s g h f ring row empty raised kept t m low high l = go (cmp t (s + 33)) (cmp t (s + writes_in T c m))
    where
      Later : ℕ → Type 0
      Later x = Waiting T q c (s + 1) t m x

      before : {x : ℕ} → Waiting T q c s t m x → Later x
      before (inl u) = inl u
      before (inr (u, k, e, y)) = inr (u, omega arith, e, y)

      -- what waits now waited before, or comes of row s
      split : {x : ℕ} → Later x → Waiting T q c s t m x ⊎ ((s + writes_in T c m ≡ t) × Left T q c s m x)
      split (inl u) = inl (inl u)
      split {x} (inr (u, k, e, y)) = at (cmp u s)
        where
          at : Cmp u s → Waiting T q c s t m x ⊎ ((s + writes_in T c m ≡ t) × Left T q c s m x)
          at (Cmp.less d) = inl (inr (u, d, e, y))
          at (Cmp.same d) = inr (omega arith, subst (λ (k : ℕ). Left T q c k m x) d y)
          at (Cmp.more d) = absurd (omega arith)

      none : t ≡ s + 33 → (x : ℕ) → Later x → ⊥
      none e x (inl u) = omega (arith, used_few u)
      none e x (inr (u, k, d, y)) = omega (arith, writes_in_most T c m, ok.ops_high)

      other : (t ≡ s + writes_in T c m → ⊥) → (x : ℕ) → Later x → Waiting T q c s t m x
      other n x w = at (split w)
        where
          at : Waiting T q c s t m x ⊎ ((s + writes_in T c m ≡ t) × Left T q c s m x) → Waiting T q c s t m x
          at (inl v) = v
          at (inr (e, y)) = absurd (n (sym e))

      both : t ≡ s + writes_in T c m → (x : ℕ) → (Waiting T q c s t m x ⊎ Left T q c s m x) ↔ Later x
      both e x = (to, λ w. from (split w))
        where
          to : Waiting T q c s t m x ⊎ Left T q c s m x → Later x
          to (inl w) = before w
          to (inr y) = inr (s, omega arith, sym e, y)

          from : Waiting T q c s t m x ⊎ ((s + writes_in T c m ≡ t) × Left T q c s m x) → Waiting T q c s t m x ⊎ Left T q c s m x
          from (inl w) = inl w
          from (inr (d, y)) = inr y

      larger : (x y : ℕ) → (max x y ≤ x) ⊎ (max x y ≤ y)
      larger x y = at (dec_lt x y)
        where
          at : Dec (x < y) → (max x y ≤ x) ⊎ (max x y ≤ y)
          at (yes k) = inr (omega arith)
          at (no k) = inl (omega arith)

      go : Cmp t (s + 33) → Cmp t (s + writes_in T c m) → Most Later (h t m)
      go (Cmp.more e) k = absurd (omega arith)
      go (Cmp.same e) k =
          let zero : h t m ≡ 0 = ap (λ (y : ℕ). h y m) e ∙ empty m l in
          subst (λ (y : ℕ). Most Later y) (sym zero) (most_none (none e))
      go (Cmp.less e) (Cmp.same k) =
          subst (λ (y : ℕ). Most Later y) (sym (raised t m (omega arith) e l k))
          (most_as (both k)
          (most_or (ring t m (omega arith) e l) (row m l) (omega arith) (omega arith) (larger (g t m) (f m))))
      go (Cmp.less e) (Cmp.less k) =
          subst (λ (y : ℕ). Most Later y) (sym (kept t m (omega arith) e l (λ d. omega arith)))
          (most_as (λ x. (before, other (λ d. omega arith) x)) (ring t m (omega arith) e l))
      go (Cmp.less e) (Cmp.more k) =
          subst (λ (y : ℕ). Most Later y) (sym (kept t m (omega arith) e l (λ d. omega arith)))
          (most_as (λ x. (before, other (λ d. omega arith) x)) (ring t m (omega arith) e l))

  -- ---- how far the rows reach

  left_low : {s b x : ℕ} → Left T q c s b x → b < 32
  left_low (begin {a = a} {b = b} r u f) = (turn_low a b f).1
  left_low (onward {m = m} {b = b} y f) = (turn_low m b f).1

  pub searched_none : Searched T q c 0 0
  searched_none =
      record {
        reach = most_none (λ y (u, b, x, h, left, e). omega arith);
        passed = λ d low high. absurd (omega arith);
      }

  module _ (s far : ℕ) (done : Searched T q c s far) where
    -- a number that the rows below it reach is a difference
    reached_differs : 1 ≤ s → s ≤ far → (Differ T q c s → ⊥) → ⊥
    reached_differs low h none =
        omega (
          arith,
          done.reach.least (s - 1) (λ y (u, b, x, k, left, e). short y u b x k left e (dec_lt y s)),
        )
      where
        short : (y u b x : ℕ) → u < s → Left T q c u b x → y ≡ u + started_in T c b x → Dec (y < s) → y ≤ s - 1
        short y u b x k left e (yes l) = omega arith
        short y u b x k left e (no l) = absurd (none ((differ_shown T ok c q s).1 (u, b, x, k, left, omega arith)))

    -- so the search ends
    pub searched_bound : 1 ≤ q → s ≤ far → s ≤ 32000
    searched_bound low h = go (dec_lt 32000 s)
      where
        go : Dec (32000 < s) → s ≤ 32000
        go (no k) = omega arith
        go (yes k) =
            absurd
            (reached_differs (omega arith) h
            (λ d. omega (arith, differ_most T ok c q s low d, area T ok c)))

    -- one row more
    pub searched_more : (f : ℕ → ℕ) (r : ℕ) → s ≤ far → IsRow T q c s f → Farther T c s f 32 far r → Searched T q c (s + 1) r
    searched_more f r h row farther = record { reach = record { most = most; least = least }; passed = passed }
      where
        most : (y : ℕ) → Shown T q c (s + 1) y → y ≤ r
        most y (u, b, x, k, left, e) = go (cmp u s)
          where
            go : Cmp u s → y ≤ r
            go (Cmp.less l) = omega (arith, done.reach.most y (u, b, x, l, left, e), farther.low)
            go (Cmp.same l) =
                let here = subst (λ (n : ℕ). Left T q c n b x) l left in
                let low = left_low here in
                omega (arith, started_mono T ok c b x (f b) ((row b low).most x here), farther.each b low)
            go (Cmp.more l) = absurd (omega arith)

        -- what bounds all that is shown bounds what row s reaches
        each : (z : ℕ) → ((y : ℕ) → Shown T q c (s + 1) y → y ≤ z) → (b : ℕ) → b < 32 → s + started_in T c b (f b) ≤ z
        each z bound b l = go (dec_lt z (s + started_in T c b (f b))) (dec_lt 0 (f b))
          where
            go : Dec (z < s + started_in T c b (f b)) → Dec (0 < f b) → s + started_in T c b (f b) ≤ z
            go (no k) d = omega arith
            go (yes k) (yes d) =
                absurd (most_holds (row b l) d (λ left. omega (arith, bound (s + started_in T c b (f b)) (s, b, f b, omega arith, left, refl))))
            go (yes k) (no d) = nothing
              where
                zero : f b ≡ 0
                zero = omega arith

                far_first : s ≤ z
                far_first = omega (arith, done.reach.least z (λ y (u, a, x, k, left, e). bound y (u, a, x, omega arith, left, e)))

                nothing : s + started_in T c b (f b) ≤ z
                nothing = omega (arith, ap (started_in T c b) zero, started_none T ok c b, far_first)

        least : (z : ℕ) → ((y : ℕ) → Shown T q c (s + 1) y → y ≤ z) → r ≤ z
        least z bound =
            farther.least z (done.reach.least z (λ y (u, b, x, k, left, e). bound y (u, b, x, omega arith, left, e))) (each z bound)

        passed : (d : ℕ) → 1 ≤ d → d < s + 1 → (Differ T q c d → ⊥) → ⊥
        passed d low high none = go (cmp d s)
          where
            go : Cmp d s → ⊥
            go (Cmp.less l) = done.passed d low l none
            go (Cmp.same e) = reached_differs (omega arith) h (subst (λ (n : ℕ). Differ T q c n → ⊥) e none)
            go (Cmp.more l) = omega arith

    -- the first number that no row below it reaches is the number of places
    pub searched_places : ValuesRightAt T (spaced q) → 1 ≤ s → far < s → IsPlaces T q c s
    searched_places values low short =
        record {
          low = low;
          enough =
              differ_enough T ok q c s low
              (λ d. let (u, b, x, k, left, e) = (differ_shown T ok c q s).0 d in
              omega (arith, done.reach.most (u + started_in T c b x) (u, b, x, k, left, refl)));
          least = λ d a l e. done.passed d a l (enough_differ T ok q c values d e);
        }
