-- Each cell of an accepted table has a number of places at each period, and a search finds it.
-- Assumes nothing.
use Prim.Native.Nat.{ℕ, zero, suc, ◌+◌, ◌-◌, ◌*◌, ◌<◌, ◌≤◌}
use mathlib.Core.Path.{◌≡◌, refl, sym, ap, subst}
use mathlib.Core.Bool.{Bool, not, ◌&&◌, ◌||◌, false≢true}
use mathlib.Core.Logic.{◌⊎◌, inl, inr}
use native.Mathlib.Nat.{mul-le-mul_left}
use native.Mathlib.Omega.{arith}
use lib.Dec.{leb, ltb, eqb}
use Rattle.rules.specs.Sets.{has, In}
use Rattle.rules.specs.Table.{Table, nops, op, followers, Turn, end_of, Accepted}
use Rattle.rules.specs.Runs.{ValuesRightAt, spaced}
use Rattle.theory.specs.Tests.{reach_set}
use Rattle.theory.proofs.Order.{Cmp, cmp}
use Rattle.theory.proofs.Says.{Says, says_by, says_and, says_or, says_not, says_leb, says_ltb, says_eqb}
use Rattle.theory.proofs.Sets.{in_small}
use Rattle.theory.specs.Walks.{IsReach}
use Rattle.theory.proofs.Exists.{least_of, in_reach}
use Rattle.theory.proofs.Alike.{turn_modes}
use Rattle.rules.specs.Places.{writer, Enough, IsPlaces}
use Rattle.lives.specs.Near.{Differ, writes_in, ended_in, ahead_in, Counted, last, more, UseIn, WriteIn, NearBy, NearDiffer}
use Rattle.lives.specs.ByWalks.{any, counted, shown, differs, places_of}
use Rattle.lives.proofs.Counts.{says_writer}
use Rattle.lives.proofs.Chain.{enough_iff}
use Rattle.lives.proofs.Finite.{differ_iff, near_short, counted_low}
use Rattle.lives.proofs.Bounds.{enough_always}

-- ---- some number below n
any_more : {P : ℕ → Type 0} (a b : Bool) (n : ℕ) → Says a (P n) → Says b ((k : ℕ) × (k < n) × P k) → Says (a || b) ((k : ℕ) × (k < suc n) × P k)
any_more {P} a b n s t = says_by (says_or a b s t) to from
  where
    to : P n ⊎ ((k : ℕ) × (k < n) × P k) → (k : ℕ) × (k < suc n) × P k
    to (inl x) = (n, omega arith, x)
    to (inr (k, h, x)) = (k, omega arith, x)

    by : (k : ℕ) → k < suc n → P k → Cmp k n → P n ⊎ ((k : ℕ) × (k < n) × P k)
    by k h x (Cmp.less e) = inr (k, e, x)
    by k h x (Cmp.same e) = inl (subst (λ (m : ℕ). P m) e x)
    by k h x (Cmp.more e) = absurd (omega arith)

    from : (k : ℕ) × (k < suc n) × P k → P n ⊎ ((k : ℕ) × (k < n) × P k)
    from (k, h, x) = by k h x (cmp k n)

pub says_any : {P : ℕ → Type 0} (f : ℕ → Bool) (n : ℕ) → ((k : ℕ) → Says (f k) (P k)) → Says (any f n) ((k : ℕ) × (k < n) × P k)
unfolding any
says_any f zero s = (λ e. absurd (false≢true e), λ x. absurd (omega (arith, x.1)))
says_any {P} f (suc n) s = any_more {P = P} (f n) (any f n) n (s n) (says_any f n s)

pub says_has : (s m : ℕ) → Says (has s m) (In m s)
says_has s m = ((λ e. e), (λ e. e))

module _ (T : Table) (ok : Accepted T) where
  module _ (c : ℕ) where
    -- a walk of n + 1 turns is one turn, or one turn and a walk of n
    abbrev First : ℕ → ℕ → ℕ → ℕ → Type 0
    First n s a b = ((n ≡ zero) × (s ≡ zero) × Turn T a b) ⊎ ((m t : ℕ) × Turn T a m × (s ≡ writes_in T c m + t) × Counted T c n t m b)

    counted_first : {k s a b : ℕ} → Counted T c k s a b → (n : ℕ) → k ≡ suc n → First n s a b
    counted_first (last f) n e = inl (omega arith, refl, f)
    counted_first (more {n = k} {s = t} {m = m} {b = b} f v) n e =
        inr (m, t, f, refl, subst (λ (x : ℕ). Counted T c x t m b) (omega arith) v)

    -- by way of mode m
    abbrev Step : ℕ → ℕ → ℕ → ℕ → ℕ → Type 0
    Step n s a b m = Turn T a m × ((writes_in T c m ≤ s) × Counted T c (suc n) (s - writes_in T c m) m b)

    pub says_counted : (n s a b : ℕ) → Says (counted T c n s a b) (Counted T c (suc n) s a b)
    unfolding counted
    says_counted zero s a b =
        says_by (says_and (has (followers T a) b) (eqb s 0) (says_has (followers T a) b) (says_eqb s 0)) to (λ w. from (counted_first w 0 refl))
      where
        to : Turn T a b × (s ≡ 0) → Counted T c 1 s a b
        to (f, e) = subst (λ (x : ℕ). Counted T c 1 x a b) (sym e) (last f)

        from : First 0 s a b → Turn T a b × (s ≡ 0)
        from (inl (x, e, f)) = (f, e)
        from (inr (m, t, f, e, w)) = absurd (omega (arith, counted_low T ok c w))
    says_counted (suc n) s a b =
        says_by
        (says_any (λ m. has (followers T a) m && (leb (writes_in T c m) s && counted T c n (s - writes_in T c m) m b)) T.modes
        (λ m. says_and _ _ (says_has (followers T a) m)
        (says_and _ _ (says_leb (writes_in T c m) s) (says_counted n (s - writes_in T c m) m b))))
        to
        (λ w. from (counted_first w (suc n) refl))
      where
        to : (m : ℕ) × (m < T.modes) × Step n s a b m → Counted T c (suc (suc n)) s a b
        to (m, h, (f, (l, w))) = subst (λ (x : ℕ). Counted T c (suc (suc n)) x a b) (omega arith) (more f w)

        from : First (suc n) s a b → (m : ℕ) × (m < T.modes) × Step n s a b m
        from (inl (x, e, f)) = absurd (omega arith)
        from (inr (m, t, f, e, w)) =
            (m, (turn_modes T ok a m f).1, (f, (omega arith, subst (λ (x : ℕ). Counted T c (suc n) x m b) (omega arith) w)))

    module _ (R : ℕ) (reach : IsReach T R) (q d : ℕ) where
      -- what the test looks for, with its numbers in the test's order: n turns after the first
      abbrev Shown : ℕ → ℕ → ℕ → ℕ → ℕ → ℕ → ℕ → Type 0
      Shown n a b j e i s = (ahead_in T c a e + s + ended_in T c b (end_of (op T i)) ≡ d) × Counted T c (suc n) s a b

      abbrev Some : ℕ → ℕ → ℕ → ℕ → ℕ → ℕ → Type 0
      Some n a b j e i = (s : ℕ) × (s < suc d) × Shown n a b j e i s

      abbrev Found : ℕ → ℕ → ℕ → ℕ → ℕ → Type 0
      Found n j i a b =
          ((op T i).start + suc n * q < end_of (op T j)) × (In a R × (In a (op T j).modes × ((In b (op T i).modes × In c (op T i).writes)
          × ((In c (op T j).reads × Some n a b j (op T j).start i) ⊎ (In c (op T j).writes × Some n a b j (end_of (op T j)) i)))))

      abbrev Anywhere : Type 0
      Anywhere =
          (n : ℕ) × (n < T.len) × ((j : ℕ) × (j < nops T) × ((i : ℕ) × (i < nops T)
          × ((a : ℕ) × (a < T.modes) × ((b : ℕ) × (b < T.modes) × Found n j i a b))))

      says_shown : (n a b j e i s : ℕ) → Says (shown T c d n a b j e s i) (Shown n a b j e i s)
      unfolding shown
      says_shown n a b j e i s = says_and _ _ (says_eqb (ahead_in T c a e + s + ended_in T c b (end_of (op T i))) d) (says_counted n s a b)

      says_some : (n a b j e i : ℕ) → Says (any (λ s. shown T c d n a b j e s i) (suc d)) (Some n a b j e i)
      says_some n a b j e i = says_any (λ s. shown T c d n a b j e s i) (suc d) (says_shown n a b j e i)

      says_found : (n j i a b : ℕ)
          → Says (ltb ((op T i).start + suc n * q) (end_of (op T j)) && (has R a && (has (op T j).modes a && (writer T c b i
          && ((has (op T j).reads c && any (λ s. shown T c d n a b j (op T j).start s i) (suc d))
          || (has (op T j).writes c && any (λ s. shown T c d n a b j (end_of (op T j)) s i) (suc d)))))))
          (Found n j i a b)
      says_found n j i a b =
          says_and _ _ (says_ltb ((op T i).start + suc n * q) (end_of (op T j)))
          (says_and _ _ (says_has R a)
          (says_and _ _ (says_has (op T j).modes a)
          (says_and _ _ (says_writer T c b i)
          (says_or _ _ (says_and _ _ (says_has (op T j).reads c) (says_some n a b j (op T j).start i))
          (says_and _ _ (says_has (op T j).writes c) (says_some n a b j (end_of (op T j)) i))))))

      says_anywhere : Says (differs T R q c d) Anywhere
      unfolding differs
      says_anywhere =
          says_any _ T.len
          (λ n. says_any _ (nops T)
          (λ j. says_any _ (nops T)
          (λ i. says_any _ T.modes
          (λ a. says_any _ T.modes (λ b. says_found n j i a b)))))

      found_near : (n j i a b e s : ℕ) → (op T i).start + suc n * q < end_of (op T j) → In a R → UseIn T c a j e → WriteIn T c b i
          → Shown n a b j e i s → NearDiffer T q c d
      unfolding NearDiffer IsReach
      found_near n j i a b e s h x u w (f, v) =
          (suc n, s, a, b, j, e, i, record { reach = (reach a).0 x; used = u; walk = v; write = w; soon = h; count = f })

      anywhere_near : Anywhere → NearDiffer T q c d
      anywhere_near (n, hn, (j, hj, (i, hi, (a, ha, (b, hb, (h, (x, (y, ((v, w), z))))))))) = go z
        where
          go : (In c (op T j).reads × Some n a b j (op T j).start i) ⊎ (In c (op T j).writes × Some n a b j (end_of (op T j)) i)
              → NearDiffer T q c d
          go (inl (p, (s, hs, f))) =
              found_near n j i a b (op T j).start s h x (record { is_op = hj; runs = y; uses = inl (p, refl) })
              (record { is_op = hi; runs = v; writes = w }) f
          go (inr (p, (s, hs, f))) =
              found_near n j i a b (end_of (op T j)) s h x (record { is_op = hj; runs = y; uses = inr (p, refl) })
              (record { is_op = hi; runs = v; writes = w }) f

      near_found : (low : 1 ≤ q) (m n s a b j e i : ℕ) → m ≡ suc n → NearBy T q c d m s a b j e i → Anywhere
      unfolding IsReach
      near_found low m n s a b j e i k x = (
        n,
        short,
        (
          j,
          x.used.is_op,
          (
            i,
            x.write.is_op,
            (
              a,
              ma,
              (
                b,
                mb,
                (
                  soon,
                  (
                    (reach a).1 x.reach,
                    (x.used.runs, ((x.write.runs, x.write.writes), part x.used.uses)),
                  ),
                ),
              ),
            ),
          ),
        ),
      )
        where
          short : n < T.len
          short = omega (arith, near_short T ok c q d m s a b j e i x, mul-le-mul_left m low, k)

          ma : a < T.modes
          ma = in_small a T.modes (op T j).modes (ok.each j x.used.is_op).modes.small x.used.runs

          mb : b < T.modes
          mb = in_small b T.modes (op T i).modes (ok.each i x.write.is_op).modes.small x.write.runs

          soon : (op T i).start + suc n * q < end_of (op T j)
          soon = omega (arith, x.soon, ap (λ (y : ℕ). y * q) k)

          some : (f : ℕ) → e ≡ f → Some n a b j f i
          some f g = (
            s,
            omega (arith, x.count),
            (
              subst (λ (y : ℕ). ahead_in T c a y + s + ended_in T c b (end_of (op T i)) ≡ d) g x.count,
              subst (λ (y : ℕ). Counted T c y s a b) k x.walk,
            ),
          )

          part : (In c (op T j).reads × (e ≡ (op T j).start)) ⊎ (In c (op T j).writes × (e ≡ end_of (op T j)))
              → (In c (op T j).reads × Some n a b j (op T j).start i) ⊎ (In c (op T j).writes × Some n a b j (end_of (op T j)) i)
          part (inl (y, g)) = inl (y, some (op T j).start g)
          part (inr (y, g)) = inr (y, some (end_of (op T j)) g)

      near_anywhere : 1 ≤ q → NearDiffer T q c d → Anywhere
      unfolding NearDiffer
      near_anywhere low (n, s, a, b, j, e, i, x) =
          near_found low n (n - 1) s a b j e i (omega (arith, counted_low T ok c x.walk)) x

      -- the test says whether d is a difference
      pub says_differs : 1 ≤ q → Says (differs T R q c d) (Differ T q c d)
      says_differs low =
          says_by says_anywhere (λ x. (differ_iff T ok c q d).1 (anywhere_near x)) (λ x. near_anywhere low ((differ_iff T ok c q d).0 x))

    pub says_enough : (q R : ℕ) → ValuesRightAt T (spaced q) → 1 ≤ q → 1 ≤ R → Says (not (differs T (reach_set T) q c R)) (Enough T q c R)
    says_enough q R values low one =
        says_by (says_not (differs T (reach_set T) q c R) (says_differs (reach_set T) (in_reach T ok) q R low)) (enough_iff T ok q c values R one).1
        (enough_iff T ok q c values R one).0

    -- each cell has a number of places
    pub places_found : (q : ℕ) → ValuesRightAt T (spaced q) → 1 ≤ q → IsPlaces T q c (places_of T q c)
    unfolding places_of
    places_found q values low =
        let x =
        least_of (λ R. Enough T q c R) (λ R. not (differs T (reach_set T) q c R)) (λ R one. says_enough q R values low one) 32001 (omega arith)
        (enough_always T ok c q low) in
        record { low = x.low; enough = x.holds; least = x.none }
