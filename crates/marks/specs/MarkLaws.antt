-- How marks are added, one number and one operation after the other.
-- Assumes nothing.
use Rattle.std.specs.Prelude.{ℕ, suc, ◌+◌, ◌*◌, ◌^◌, ◌<◌, ◌≤◌, ◌≡◌, refl, List, ◌↔◌, ◌⊎◌, length, set}
use Rattle.std.proofs.Common.{sym, subst, ◌∙◌, inl, inr, mul-le-mul_left, mul-le-mul_right, arith, length-set, get_or-set_same, get_or-set_other}
use Rattle.std.proofs.Math.Decide.{dec_lt, ℕ_discrete}
use Rattle.rules.specs.Sets.{In, Within, Overlap}
use Rattle.theory.specs.Tests.{without}
use Rattle.theory.proofs.Sets.{in_none, in_without, in_single}
use Rattle.sets.specs.Members.{Past, past_none, past_all, past_more, in_rest}
use Rattle.columns.specs.Columns.{op_by}
use Rattle.columns.specs.declared.Dated.{Dated}
use Rattle.raises.specs.Raises.{Raised, InTime}
use Rattle.marks.specs.Marks.{Marked, Adds, Near, Keeps, Hits}

-- ---- adding

pub adds_none : (wrong : List ℕ) {P : ℕ → Type 0} → ((x : ℕ) → P x → ⊥) → Adds wrong P wrong
adds_none wrong {P} none = record { long = refl; exact = λ x. (λ m. inl m, back x) }
  where
    back : (x : ℕ) → Marked wrong x ⊎ P x → Marked wrong x
    back x (inl m) = m
    back x (inr p) = absurd (none x p)

pub adds_as : {old new : List ℕ} {P Q : ℕ → Type 0} → ((x : ℕ) → P x ↔ Q x) → Adds old P new → Adds old Q new
adds_as {old} {new} {P} {Q} f a = record { long = a.long; exact = λ x. (λ m. fwd x ((a.exact x).0 m), λ y. (a.exact x).1 (bwd x y)) }
  where
    fwd : (x : ℕ) → Marked old x ⊎ P x → Marked old x ⊎ Q x
    fwd x (inl m) = inl m
    fwd x (inr p) = inr ((f x).0 p)

    bwd : (x : ℕ) → Marked old x ⊎ Q x → Marked old x ⊎ P x
    bwd x (inl m) = inl m
    bwd x (inr q) = inr ((f x).1 q)

pub adds_then : {old mid new : List ℕ} {P Q : ℕ → Type 0} → Adds old P mid → Adds mid Q new → Adds old (λ x. P x ⊎ Q x) new
adds_then {old} {mid} {new} {P} {Q} a b =
    record { long = b.long ∙ a.long; exact = λ x. (λ m. fwd x ((b.exact x).0 m), λ y. (b.exact x).1 (bwd x y)) }
  where
    fwd : (x : ℕ) → Marked mid x ⊎ Q x → Marked old x ⊎ (P x ⊎ Q x)
    fwd x (inr q) = inr (inr q)
    fwd x (inl m) = go ((a.exact x).0 m)
      where
        go : Marked old x ⊎ P x → Marked old x ⊎ (P x ⊎ Q x)
        go (inl k) = inl k
        go (inr p) = inr (inl p)

    bwd : (x : ℕ) → Marked old x ⊎ (P x ⊎ Q x) → Marked mid x ⊎ Q x
    bwd x (inl m) = inl ((a.exact x).1 (inl m))
    bwd x (inr (inl p)) = inl ((a.exact x).1 (inr p))
    bwd x (inr (inr q)) = inr q

-- ---- numbers in a row
pub adds_range : {old new : List ℕ} {from x : ℕ} → from ≤ x → x < length new → Adds old (λ y. (from ≤ y) × (y < x)) new
    → Adds old (λ y. (from ≤ y) × (y < x + 1)) (set new x 1)
adds_range {old} {new} {from} {x} low h a =
    record {
      long = length-set new x 1 ∙ a.long;
      exact = λ y. (fwd y (ℕ_discrete y x), λ z. bwd y (ℕ_discrete y x) z);
    }
  where
    fwd : (y : ℕ) → Dec (y ≡ x) → Marked (set new x 1) y → Marked old y ⊎ ((from ≤ y) × (y < x + 1))
    fwd y (yes e) m = inr (omega arith, omega arith)
    fwd y (no n) m = go ((a.exact y).0 (sym (get_or-set_other new x y 1 0 n) ∙ m))
      where
        go : Marked old y ⊎ ((from ≤ y) × (y < x)) → Marked old y ⊎ ((from ≤ y) × (y < x + 1))
        go (inl k) = inl k
        go (inr (l, k)) = inr (l, omega arith)

    bwd : (y : ℕ) → Dec (y ≡ x) → Marked old y ⊎ ((from ≤ y) × (y < x + 1)) → Marked (set new x 1) y
    bwd y (yes e) z = rw e (get_or-set_same new x 1 0 h)
    bwd y (no n) (inl k) = get_or-set_other new x y 1 0 n ∙ (a.exact y).1 (inl k)
    bwd y (no n) (inr (l, k)) = get_or-set_other new x y 1 0 n ∙ (a.exact y).1 (inr (l, omega arith))

-- ---- two operations
module _ (startI heldI startJ heldJ n q lo hi : ℕ) (low : Raised q (InTime (startI + 1) heldJ n) lo) (high : Raised q (InTime heldI startJ n) hi)
  where
    abbrev Between : ℕ → Type 0
    Between x = (q ≤ x) × Overlap startI heldI (startJ + suc n * x) (heldJ + suc n * x)

    -- from the first period at which j no longer ends before i starts, up to the first at which it starts when i has let go
    pub between : (x : ℕ) → ((lo ≤ x) × (x < hi)) ↔ Between x
    between x = (fwd, bwd)
      where
        go : lo ≤ x → x < hi → Dec (startJ + suc n * x < heldI) → Between x
        go l h (yes e) = let (from, after) = (low.exact x).0 l in (from, (omega (arith, after), e))
        go l h (no e) =
            let from : q ≤ x = ((low.exact x).0 l).0 in
            let late : InTime heldI startJ n x = omega arith in
            absurd (omega (arith, (high.exact x).1 (from, late)))

        fwd : (lo ≤ x) × (x < hi) → Between x
        fwd (l, h) = go l h (dec_lt (startJ + suc n * x) heldI)

        back : Between x → Dec (x < hi) → x < hi
        back p (yes e) = e
        back p (no e) = absurd (omega (arith, p.1.1, ((high.exact x).0 (omega arith)).1))

        bwd : Between x → (lo ≤ x) × (x < hi)
        bwd p =
            let after : InTime (startI + 1) heldJ n x = omega (arith, p.1.0) in
            ((low.exact x).1 (p.0, after), back p (dec_lt x hi))

-- no farther than the longest table
pub hi_short : (heldI startJ n q hi : ℕ) → Raised q (InTime heldI startJ n) hi → q ≤ 1000 → heldI ≤ 1000 → hi ≤ 1000
hi_short heldI startJ n q hi high l h =
    let late : InTime heldI startJ n 1000 = omega (arith, mul-le-mul_right {m = 1} {n = suc n} 1000 (omega arith)) in
    (high.exact 1000).1 (l, late)

-- who runs so much later does not meet i
pub far_hits_not : (cols : List Dated) (i after n j q x : ℕ) → (Near (op_by cols i) (op_by cols j) n q → ⊥) → q ≤ x → Hits cols i after n j x → ⊥
far_hits_not cols i after n j q x far h (s, lap) = far (omega (arith, lap.1, mul-le-mul_left (suc n) h))

-- ---- the operations of a set, one after the other
module _ (q s : ℕ) (P : ℕ → ℕ → Type 0) where
  -- P holds at x of one that is visited
  abbrev pub SoFar : ℕ → ℕ → Type 0
  SoFar left x = (q ≤ x) × ((j : ℕ) × Past s left j × P j x)

  pub adds_first : (wrong : List ℕ) → Adds wrong (SoFar s) wrong
  adds_first wrong = adds_none wrong (λ x (l, (j, p, y)). past_none s j p)

  pub adds_next : {old mid new : List ℕ} (left m : ℕ) → Within left s → In m left
      → Adds old (SoFar left) mid → Adds mid (λ x. (q ≤ x) × P m x) new → Adds old (SoFar (without left (2 ^ m))) new
  adds_next left m inside here a b = adds_as (λ x. (fwd x, bwd x)) (adds_then a b)
    where
      fwd : (x : ℕ) → SoFar left x ⊎ ((q ≤ x) × P m x) → SoFar (without left (2 ^ m)) x
      fwd x (inl (l, (j, p, y))) = (l, (j, (past_more s left m inside here j).1 (inl p), y))
      fwd x (inr (l, y)) = (l, (m, (past_more s left m inside here m).1 (inr refl), y))

      bwd : (x : ℕ) → SoFar (without left (2 ^ m)) x → SoFar left x ⊎ ((q ≤ x) × P m x)
      bwd x (l, (j, p, y)) = go ((past_more s left m inside here j).0 p)
        where
          go : Past s left j ⊎ (j ≡ m) → SoFar left x ⊎ ((q ≤ x) × P m x)
          go (inl z) = inl (l, (j, z, y))
          go (inr e) = inr (l, subst (λ (k : ℕ). P k x) e y)

  pub adds_all : {old new : List ℕ} → Adds old (SoFar 0) new → Adds old (λ x. (q ≤ x) × ((j : ℕ) × In j s × P j x)) new
  adds_all = adds_as (λ x. (λ (l, (j, p, y)). (l, (j, p.0, y)), λ (l, (j, h, y)). (l, (j, past_all s j h, y))))

-- those that are kept: of the visited ones the near ones
pub record Keeping (cols : List Dated) (i n q set left keep : ℕ) : Type 0 where
  pub exact : (j : ℕ) → In j keep ↔ (In j set × (In j left ⊎ Near (op_by cols i) (op_by cols j) n q))

module _ (cols : List Dated) (i n q set : ℕ) where
  abbrev NearBy : ℕ → Type 0
  NearBy j = Near (op_by cols i) (op_by cols j) n q

  pub keeping_first : Keeping cols i n q set set set
  keeping_first = record { exact = λ j. (λ h. (h, inl h), λ h. h.0) }

  module _ (left keep m : ℕ) (inside : Within left set) (here : In m left) (k : Keeping cols i n q set left keep) where
    pub keeping_near : NearBy m → Keeping cols i n q set (without left (2 ^ m)) keep
    keeping_near near = record { exact = λ j. (λ h. fwd j ((k.exact j).0 h), λ h. (k.exact j).1 (bwd j h)) }
      where
        fwd : (j : ℕ) → In j set × (In j left ⊎ NearBy j) → In j set × (In j (without left (2 ^ m)) ⊎ NearBy j)
        fwd j (h, inr y) = (h, inr y)
        fwd j (h, inl y) = (h, go ((in_rest left m here j).0 y))
          where
            go : (j ≡ m) ⊎ In j (without left (2 ^ m)) → In j (without left (2 ^ m)) ⊎ NearBy j
            go (inl e) = inr (subst (λ (x : ℕ). NearBy x) (sym e) near)
            go (inr z) = inl z

        bwd : (j : ℕ) → In j set × (In j (without left (2 ^ m)) ⊎ NearBy j) → In j set × (In j left ⊎ NearBy j)
        bwd j (h, inl y) = (h, inl ((in_rest left m here j).1 (inr y)))
        bwd j (h, inr y) = (h, inr y)

    pub keeping_far : (NearBy m → ⊥) → Keeping cols i n q set (without left (2 ^ m)) (without keep (2 ^ m))
    keeping_far far =
        record {
          exact = λ j. (
            λ h. let (x, other) = (in_without j keep (2 ^ m)).0 h in fwd j (λ e. other ((in_single j m).1 e)) ((k.exact j).0 x),
            λ h. (in_without j keep (2 ^ m)).1 ((k.exact j).1 (bwd j h), λ z. not_m j ((in_single j m).0 z) h.1),
          );
        }
      where
        fwd : (j : ℕ) → (j ≡ m → ⊥) → In j set × (In j left ⊎ NearBy j) → In j set × (In j (without left (2 ^ m)) ⊎ NearBy j)
        fwd j other (h, inr y) = (h, inr y)
        fwd j other (h, inl y) = (h, inl ((in_without j left (2 ^ m)).1 (y, λ z. other ((in_single j m).0 z))))

        bwd : (j : ℕ) → In j set × (In j (without left (2 ^ m)) ⊎ NearBy j) → In j set × (In j left ⊎ NearBy j)
        bwd j (h, inl y) = (h, inl ((in_without j left (2 ^ m)).0 y).0)
        bwd j (h, inr y) = (h, inr y)

        not_m : (j : ℕ) → j ≡ m → In j (without left (2 ^ m)) ⊎ NearBy j → ⊥
        not_m j e (inl y) = ((in_without j left (2 ^ m)).0 y).1 ((in_single j m).1 e)
        not_m j e (inr y) = far (subst (λ (x : ℕ). NearBy x) e y)

  pub keeping_all : {keep : ℕ} → Keeping cols i n q set 0 keep → Keeps cols i n q set keep
  keeping_all k = record { exact = λ j. (λ h. go j ((k.exact j).0 h), λ (h, y). (k.exact j).1 (h, inr y)) }
    where
      go : (j : ℕ) → In j set × (In j 0 ⊎ NearBy j) → In j set × NearBy j
      go j (h, inl y) = absurd (in_none j y)
      go j (h, inr y) = (h, y)
