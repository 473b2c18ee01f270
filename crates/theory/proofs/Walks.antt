-- Runs and walks: what stands at two places of a run is joined by a walk, and a walk from a reachable mode is part of a run.
-- Assumes nothing.
use Prim.Native.Nat.{ℕ, zero, suc, ◌+◌, ◌<◌, ◌≤◌}
use mathlib.Core.Path.{◌≡◌, refl, subst, ◌∙◌}
use mathlib.Core.List.{List, [], ◌∷◌, ◌++◌}
use mathlib.Core.Logic.{◌↔◌}
use native.Mathlib.Omega.{arith}
use lib.ListN.{length, length-append, get_or-append}
use lib.Seq.{get_or_at}
use Rattle.rules.specs.Sets.{In}
use Rattle.rules.specs.Table.{Table, Turn}
use Rattle.rules.specs.Runs.{mode, IsRun}
use Rattle.theory.specs.Walks.{Reach, begin, turn, Walk, last, more}
use Rattle.theory.proofs.Order.{Cmp, cmp}

module _ (T : Table) (r : List ℕ) (run : IsRun T r) where
  -- the mode of each cycle of a run can be reached
  pub run_reach : (k : ℕ) → k < length r → Reach T (mode r k)
  run_reach zero h = begin run.begins
  run_reach (suc k) h = turn (run_reach k (omega arith)) (run.goes k h)

  -- from cycle k to cycle l, n + 1 cycles later, the run is a walk
  pub run_walk : (P : ℕ → Type 0) (n k l : ℕ) → l ≡ suc (k + n) → l < length r → ((m : ℕ) → k < m → m < l → P (mode r m))
      → Walk T P (suc n) (mode r k) (mode r l)
  run_walk P zero k l e h p =
      let d : suc k ≡ l = omega arith in
      last (subst (λ (x : ℕ). Turn T (mode r k) (mode r x)) d (run.goes k (omega arith)))
  run_walk P (suc n) k l e h p =
      more
      (run.goes k (omega arith))
      (p (suc k) (omega arith) (omega arith))
      (run_walk P n (suc k) l (omega arith) h (λ m a b. p m (omega arith) b))

-- a run whose last cycle, k, has the mode a
pub record Ends (T : Table) (r : List ℕ) (k a : ℕ) : Type 0 where
  pub run : IsRun T r
  pub size : length r ≡ suc k
  pub at : mode r k ≡ a

module _ (T : Table) where
  -- a run of one cycle
  single : {a : ℕ} → In a T.first → Ends T (a ∷ []) 0 a
  single h = record { run = record { some = omega arith; begins = h; goes = λ k x. absurd (omega arith) }; size = refl; at = refl }

  module _ (r : List ℕ) (k a b : ℕ) (e : Ends T r k a) (f : Turn T a b) where
    -- what stood at m stands there still
    pub snoc_keeps : (m : ℕ) → m ≤ k → mode (r ++ (b ∷ [])) m ≡ mode r m
    snoc_keeps m h = get_or-append r (b ∷ []) 0 m (omega (arith, e.size))

    snoc_last : mode (r ++ (b ∷ [])) (suc k) ≡ b
    snoc_last = get_or_at r b [] 0 (suc k) e.size

    snoc_goes : (m : ℕ) → suc m < length (r ++ (b ∷ [])) → Turn T (mode (r ++ (b ∷ [])) m) (mode (r ++ (b ∷ [])) (suc m))
    snoc_goes m h = go (cmp m k)
      where
        go : Cmp m k → Turn T (mode (r ++ (b ∷ [])) m) (mode (r ++ (b ∷ [])) (suc m))
        go (Cmp.less x) = rw (snoc_keeps m (omega arith), snoc_keeps (suc m) (omega arith)) (e.run.goes m (omega (arith, e.size)))
        go (Cmp.same x) = rw (x, snoc_keeps k (omega arith), snoc_last, e.at) f
        go (Cmp.more x) = absurd (omega (arith, e.size, length-append r (b ∷ [])))

    -- one cycle more
    pub snoc : Ends T (r ++ (b ∷ [])) (suc k) b
    snoc =
        record {
          run =
              record {
                some = omega (arith, length-append r (b ∷ []));
                begins = rw (snoc_keeps 0 (omega arith)) e.run.begins;
                goes = snoc_goes;
              };
          size = omega (arith, length-append r (b ∷ []), e.size);
          at = snoc_last;
        }

  -- a reachable mode ends some run
  pub reach_run : {a : ℕ} → Reach T a → (r : List ℕ) × (k : ℕ) × Ends T r k a
  reach_run (begin {a = a} h) = (a ∷ [], 0, single h)
  reach_run (turn {a = a} {b = b} x f) = let (r, k, e) = reach_run x in (r ++ (b ∷ []), suc k, snoc r k a b e f)

  -- the run s goes on from the run r, which ends at cycle k, by n turns to the mode b, through modes that satisfy P
  record Further (P : ℕ → Type 0) (r : List ℕ) (k n b : ℕ) (s : List ℕ) : Type 0 where
    ends : Ends T s (k + n) b
    keeps : (m : ℕ) → m ≤ k → mode s m ≡ mode r m
    via : (m : ℕ) → k < m → m < k + n → P (mode s m)

  -- a walk from the last mode of a run prolongs the run
  walk_run : {P : ℕ → Type 0} {n a b : ℕ} → Walk T P n a b → (r : List ℕ) (k : ℕ) → Ends T r k a
      → (s : List ℕ) × Further P r k n b s
  walk_run (last {a = a} {b = b} f) r k e = (
    r ++ (b ∷ []),
    record {
      ends = subst (λ (x : ℕ). Ends T (r ++ (b ∷ [])) x b) (omega arith) (snoc r k a b e f);
      keeps = snoc_keeps r k a b e f;
      via = λ m x y. absurd (omega arith);
    },
  )
  walk_run {P} (more {n = n} {a = a} {m = m} {b = b} f p w) r k e =
      let (s, x) = walk_run w (r ++ (m ∷ [])) (suc k) (snoc r k a m e f) in (
        s,
        record {
          ends = subst (λ (y : ℕ). Ends T s y b) (omega arith) x.ends;
          keeps = λ l h. x.keeps l (omega arith) ∙ snoc_keeps r k a m e f l h;
          via = λ l h g. middle s x l (cmp l (suc k)) h g;
        },
      )
    where
      middle : (s : List ℕ) → Further P (r ++ (m ∷ [])) (suc k) n b s → (l : ℕ) → Cmp l (suc k) → k < l → l < k + suc n → P (mode s l)
      middle s x l (Cmp.less y) h g = absurd (omega arith)
      middle s x l (Cmp.same y) h g = rw (y, x.keeps (suc k) (omega arith), (snoc r k a m e f).at) p
      middle s x l (Cmp.more y) h g = x.via l y (omega arith)

  -- a walk from a reachable mode is part of a run
  pub record Realised (P : ℕ → Type 0) (n a b : ℕ) (r : List ℕ) (k : ℕ) : Type 0 where
    pub ends : Ends T r (k + n) b
    pub from : mode r k ≡ a
    pub via : (m : ℕ) → k < m → m < k + n → P (mode r m)

  pub realise : {P : ℕ → Type 0} {n a b : ℕ} → Reach T a → Walk T P n a b → (r : List ℕ) × (k : ℕ) × Realised P n a b r k
  realise x w =
      let (r, k, e) = reach_run x in
      let (s, f) = walk_run w r k e in
      (s, k, record { ends = f.ends; from = f.keeps k (omega arith) ∙ e.at; via = f.via })

  -- a mode can be reached exactly when a run has it in some cycle
  pub reach_iff : (a : ℕ) → Reach T a ↔ ((r : List ℕ) × (k : ℕ) × IsRun T r × (k < length r) × (mode r k ≡ a))
  reach_iff a = (
    λ x. let (r, k, e) = reach_run x in (r, k, e.run, omega (arith, e.size), e.at),
    λ y. subst (λ (m : ℕ). Reach T m) y.4 (run_reach T y.0 y.2 y.1 y.3),
  )
