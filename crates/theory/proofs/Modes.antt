-- The computed sets of modes: what follows, what a walk comes to, what a run can reach, and the modes of some operations.
-- Assumes nothing.
use Prim.Native.Nat.{ℕ, zero, suc, ◌/◌, ◌<◌, ◌≤◌}
use mathlib.Core.Path.{◌≡◌, refl, sym, subst}
use mathlib.Core.Bool.{Bool, true, false, cond}
use mathlib.Core.List.{List, [], ◌∷◌}
use mathlib.Core.Logic.{◌↔◌, ◌⊎◌, inl, inr}
use native.Mathlib.Omega.{arith}
use lib.Bits.{bit_and, bit_or}
use lib.ListN.{length, get_or}
use Rattle.rules.specs.Sets.{has, In, shares}
use Rattle.rules.specs.Table.{Op, Table, no_op}
use Rattle.theory.specs.Walks.{Reach, turn, IsReach, Walk, last, more}
use Rattle.theory.specs.Tests.{without, step, via, modes_of}
use Rattle.theory.proofs.Says.{Says, says_by}
use Rattle.theory.proofs.Sets.{in_none, in_suc, in_and, in_or, in_without, says_shares}

-- a set that is there only under a condition
pub in_cond : (t : Bool) (f m : ℕ) → In m (cond t f 0) ↔ ((t ≡ true) × In m f)
in_cond true f m = (λ h. (refl, h), λ h. h.1)
in_cond false f m = (λ h. absurd (in_none m h), λ h. subst (λ (t : Bool). In m (cond t f 0)) (sym h.0) h.1)

-- ---- one turn
abbrev Steps : List ℕ → ℕ → ℕ → Type 0
Steps F s b = (a : ℕ) × In a s × In b (get_or F a 0)

step_more : (f : ℕ) (fs : List ℕ) (s b x : ℕ) → In b x ↔ Steps fs (s / 2) b → In b (bit_or (cond (has s 0) f 0) x) ↔ Steps (f ∷ fs) s b
step_more f fs s b x r = (λ h. fwd ((in_or b (cond (has s 0) f 0) x).0 h), bwd)
  where
    fwd : In b (cond (has s 0) f 0) ⊎ In b x → Steps (f ∷ fs) s b
    fwd (inl h) = let (p, q) = (in_cond (has s 0) f b).0 h in (0, p, q)
    fwd (inr h) = let (a, p, q) = r.0 h in (suc a, (in_suc s a).1 p, q)

    bwd : Steps (f ∷ fs) s b → In b (bit_or (cond (has s 0) f 0) x)
    bwd (zero, p, q) = (in_or b (cond (has s 0) f 0) x).1 (inl ((in_cond (has s 0) f b).1 (p, q)))
    bwd (suc a, p, q) = (in_or b (cond (has s 0) f 0) x).1 (inr (r.1 (a, (in_suc s a).0 p, q)))

pub in_step : (F : List ℕ) (s b : ℕ) → In b (step F s) ↔ Steps F s b
unfolding step
in_step [] s b = (λ h. absurd (in_none b h), λ x. absurd (in_none b x.2))
in_step (f ∷ fs) s b = step_more f fs s b (step fs (s / 2)) (in_step fs (s / 2) b)

-- ---- walks
pub walk_pos : {T : Table} {P : ℕ → Type 0} {n a b : ℕ} → Walk T P n a b → 1 ≤ n
walk_pos (last f) = omega arith
walk_pos (more f p w) = omega arith

pub walk_map : {T : Table} {P Q : ℕ → Type 0} {n a b : ℕ} → ((m : ℕ) → P m → Q m) → Walk T P n a b → Walk T Q n a b
walk_map g (last f) = last f
walk_map g (more {m = m} f p w) = more f (g m p) (walk_map g w)

module _ (T : Table) where
  -- a walk of n turns from s to b, by way of modes that are not in w
  abbrev pub From : ℕ → ℕ → ℕ → ℕ → Type 0
  From w n s b = (a : ℕ) × In a s × Walk T (λ m. In m w → ⊥) n a b

  via_walk : (w n s b : ℕ) → In b (via T.follow w n s) → From w (suc n) s b
  unfolding via
  via_walk w zero s b h = let (a, p, q) = (in_step T.follow s b).0 h in (a, p, last q)
  via_walk w (suc n) s b h =
      let (m, p, x) = via_walk w n (without (step T.follow s) w) b h in
      let (d, ne) = (in_without m (step T.follow s) w).0 p in
      let (a, e, f) = (in_step T.follow s m).0 d in
      (a, e, more f ne x)

  walk_via : (w : ℕ) {n a b : ℕ} → Walk T (λ m. In m w → ⊥) n a b → (k s : ℕ) → n ≡ suc k → In a s → In b (via T.follow w k s)
  unfolding via
  walk_via w (last {a = a} {b = b} f) zero s e h = (in_step T.follow s b).1 (a, h, f)
  walk_via w (last f) (suc k) s e h = absurd (omega arith)
  walk_via w (more f p x) zero s e h = absurd (omega (arith, walk_pos x))
  walk_via w (more {a = a} {m = m} f p x) (suc k) s e h =
      walk_via w x k (without (step T.follow s) w) (omega arith)
      ((in_without m (step T.follow s) w).1 ((in_step T.follow s m).1 (a, h, f), p))

  pub in_via : (w n s b : ℕ) → In b (via T.follow w n s) ↔ From w (suc n) s b
  in_via w n s b = (via_walk w n s b, λ x. walk_via w x.2 n s refl x.1)

  -- ---- what a run can reach
  pub grown : (s : ℕ) → ((m : ℕ) → In m s → Reach T m) → (m : ℕ) → In m (bit_or s (step T.follow s)) → Reach T m
  grown s g m h = go ((in_or m s (step T.follow s)).0 h)
    where
      go : In m s ⊎ In m (step T.follow s) → Reach T m
      go (inl x) = g m x
      go (inr x) = let (a, p, q) = (in_step T.follow s m).0 x in turn (g a p) q

  -- a walk of n turns from a reachable mode of s to a mode of t, by way of modes that are not in w
  abbrev pub Way : ℕ → ℕ → ℕ → ℕ → Type 0
  Way w n s t = (a : ℕ) × (b : ℕ) × Reach T a × In a s × Walk T (λ m. In m w → ⊥) n a b × In b t

  pub says_way : (R : ℕ) → IsReach T R → (w n s t : ℕ) → Says (shares (via T.follow w n (bit_and R s)) t) (Way w (suc n) s t)
  unfolding IsReach
  says_way R hR w n s t =
      says_by (says_shares (via T.follow w n (bit_and R s)) t)
      (λ x.
      let (a, p, q) = (in_via w n (bit_and R s) x.0).0 x.1 in
      let (c, d) = (in_and a R s).0 p in
      (a, x.0, (hR a).0 c, d, q, x.2))
      (λ x. (x.1, (in_via w n (bit_and R s) x.1).1 (x.0, (in_and x.0 R s).1 ((hR x.0).1 x.2, x.3), x.4), x.5))

-- ---- the modes of the operations that pass a test
abbrev Passing : (Op → Bool) → List Op → ℕ → Type 0
Passing f os m = (u : ℕ) × (u < length os) × (f (get_or os u no_op) ≡ true) × In m (get_or os u no_op).modes

modes_more : (f : Op → Bool) (o : Op) (os : List Op) (m x : ℕ) → In m x ↔ Passing f os m
    → In m (bit_or (cond (f o) o.modes 0) x) ↔ Passing f (o ∷ os) m
modes_more f o os m x r = (λ h. fwd ((in_or m (cond (f o) o.modes 0) x).0 h), bwd)
  where
    fwd : In m (cond (f o) o.modes 0) ⊎ In m x → Passing f (o ∷ os) m
    fwd (inl h) = let (p, q) = (in_cond (f o) o.modes m).0 h in (0, omega arith, p, q)
    fwd (inr h) = let (u, l, p, q) = r.0 h in (suc u, omega arith, p, q)

    bwd : Passing f (o ∷ os) m → In m (bit_or (cond (f o) o.modes 0) x)
    bwd (zero, l, p, q) = (in_or m (cond (f o) o.modes 0) x).1 (inl ((in_cond (f o) o.modes m).1 (p, q)))
    bwd (suc u, l, p, q) = (in_or m (cond (f o) o.modes 0) x).1 (inr (r.1 (u, omega arith, p, q)))

pub in_modes : (f : Op → Bool) (os : List Op) (m : ℕ) → In m (modes_of f os) ↔ Passing f os m
unfolding modes_of
in_modes f [] m = (λ h. absurd (in_none m h), λ x. absurd (omega (arith, x.1)))
in_modes f (o ∷ os) m = modes_more f o os m (modes_of f os) (in_modes f os m)
