-- A number is a difference exactly when some write starts while something is left of a use.
-- Assumes nothing.
use Prim.Native.Nat.{ℕ, suc, ◌+◌, ◌-◌, ◌*◌, ◌<◌}
use mathlib.Core.Path.{◌≡◌, subst}
use mathlib.Core.Logic.{◌↔◌}
use native.Mathlib.Omega.{arith}
use Rattle.rules.specs.Table.{Table, op, Turn, end_of, Accepted}
use Rattle.theory.specs.Walks.{Reach}
use Rattle.lives.specs.Near.{Differ, writes_in, ended_in, ahead_in, Counted, last, more, UseIn, WriteIn, NearDiffer}
use Rattle.lives.specs.Left.{Left, begin, onward}
use Rattle.lives.proofs.Finite.{differ_iff}

module _ (T : Table) (c : ℕ) where
  -- one turn more at the end of a counted walk
  counted_snoc : {n s a m b : ℕ} → Counted T c n s a m → Turn T m b → Counted T c (suc n) (s + writes_in T c m) a b
  counted_snoc {m = m} {b = b} (last {a = a} f) g = subst (λ (x : ℕ). Counted T c 2 x a b) (omega arith) (more f (last g))
  counted_snoc {m = m} {b = b} (more {n = n} {s = s} {a = a} {m = k} f w) g =
      subst (λ (x : ℕ). Counted T c (suc (suc n)) x a b) (omega arith) (more f (counted_snoc w g))

module _ (T : Table) (ok : Accepted T) (q c : ℕ) where
  -- a walk from a use, with what is left
  record Came (s b x n t a j e : ℕ) : Type 0 where
    pub reach : Reach T a
    pub used : UseIn T c a j e
    pub walk : Counted T c n t a b
    pub count : ahead_in T c a e + t ≡ s
    pub left : x ≡ end_of (op T j) - n * q

  left_came : {s b x : ℕ} → Left T q c s b x → (n t a j e : ℕ) × Came s b x n t a j e
  left_came (begin {a = a} {b = b} {j = j} {e = e} r u f) =
      (1, 0, a, j, e, record { reach = r; used = u; walk = last f; count = omega arith; left = omega arith })
  left_came (onward {s = s} {m = m} {b = b} {x = x} y f) =
      let (n, t, a, j, e, z) = left_came y in (
        suc n,
        t + writes_in T c m,
        a,
        j,
        e,
        record {
          reach = z.reach;
          used = z.used;
          walk = counted_snoc T c z.walk f;
          count = omega (arith, z.count);
          left = omega (arith, z.left);
        },
      )

  -- on along a walk
  left_walk : {n t m b : ℕ} → Counted T c n t m b → (s x : ℕ) → Left T q c s m x → Left T q c (s + writes_in T c m + t) b (x - n * q)
  left_walk (last {a = m} {b = b} f) s x y =
      subst (λ (u : ℕ). Left T q c u b (x - 1 * q)) (omega arith)
      (subst (λ (u : ℕ). Left T q c (s + writes_in T c m) b u) (omega arith) (onward y f))
  left_walk (more {n = n} {s = t} {a = m} {m = k} {b = b} f w) s x y =
      subst (λ (u : ℕ). Left T q c u b (x - suc n * q)) (omega arith)
      (subst (λ (u : ℕ). Left T q c (s + writes_in T c m + writes_in T c k + t) b u) (omega arith)
      (left_walk w (s + writes_in T c m) (x - q) (onward y f)))

  came_left : {n t a b : ℕ} → Counted T c n t a b → (j e : ℕ) → Reach T a → UseIn T c a j e
      → Left T q c (ahead_in T c a e + t) b (end_of (op T j) - n * q)
  came_left (last {a = a} {b = b} f) j e r u =
      subst (λ (x : ℕ). Left T q c x b (end_of (op T j) - 1 * q)) (omega arith)
      (subst (λ (x : ℕ). Left T q c (ahead_in T c a e) b x) (omega arith) (begin r u f))
  came_left (more {n = n} {s = t} {a = a} {m = m} {b = b} f w) j e r u =
      subst (λ (x : ℕ). Left T q c x b (end_of (op T j) - suc n * q)) (omega arith)
      (subst (λ (x : ℕ). Left T q c (ahead_in T c a e + writes_in T c m + t) b x) (omega arith)
      (left_walk w (ahead_in T c a e) (end_of (op T j) - q) (begin r u f)))

  -- d is a difference exactly when, with s writes since a use, the write that makes them d starts while something is left
  pub differ_left : (d : ℕ) → Differ T q c d
      ↔ ((s b i x : ℕ) × Left T q c s b x × WriteIn T c b i × ((op T i).start < x) × (s + ended_in T c b (end_of (op T i)) ≡ d))
  unfolding NearDiffer
  differ_left d = (to, from)
    where
      to : Differ T q c d → (s b i x : ℕ) × Left T q c s b x × WriteIn T c b i × ((op T i).start < x) × (s + ended_in T c b (end_of (op T i)) ≡ d)
      to z =
          let (n, t, a, b, j, e, i, y) = (differ_iff T ok c q d).0 z in
          (ahead_in T c a e + t, b, i, end_of (op T j) - n * q, came_left y.walk j e y.reach y.used, y.write, omega (arith, y.soon), y.count)

      from : (s b i x : ℕ) × Left T q c s b x × WriteIn T c b i × ((op T i).start < x) × (s + ended_in T c b (end_of (op T i)) ≡ d) → Differ T q c d
      from (s, b, i, x, y, w, h, f) =
          let (n, t, a, j, e, z) = left_came y in
          (differ_iff T ok c q d).1 (
            n,
            t,
            a,
            b,
            j,
            e,
            i,
            record {
              reach = z.reach;
              used = z.used;
              walk = z.walk;
              write = w;
              soon = omega (arith, z.left);
              count = omega (arith, z.count);
            },
          )
