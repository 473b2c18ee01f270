-- An entry that is raised, the columns that are carried one after the other, and what waits in the ring after a row is done.
-- Assumes nothing.
use Rattle.std.specs.Prelude.{ℕ, zero, suc, ◌+◌, ◌*◌, ◌/◌, ◌%◌, ◌<◌, ◌≤◌, max, ◌≡◌, List, [], ◌∷◌, length, get_or, set}
use Rattle.std.proofs.Math.Path.{refl}
use Rattle.std.proofs.Common.{sym, ap, subst, ◌∙◌, arith, length-set, get_or-set_same, get_or-set_other}
use Rattle.std.proofs.Math.Decide.{ℕ_discrete}
use borrow.Author.Tests.{eq-eqb, ne_eqb}
use Rattle.rules.specs.Table.{Table, Accepted}
use Rattle.theory.proofs.Order.{Cmp, cmp}
use Rattle.lives.specs.Near.{writes_in}
use Rattle.lives.specs.Left.{IsRow, IsRing, Few, Low}
use Rattle.lives.proofs.Rows.{ring_next}
use Rattle.ring.specs.Ring.{carried_by, waits, Carried}

-- ---- one entry

set_self : (xs : List ℕ) (i : ℕ) → set xs i (get_or xs i 0) ≡ xs
set_self [] i = refl
set_self (x ∷ xs) zero = refl
set_self (x ∷ xs) (suc i) = ap (λ (r : List ℕ). x ∷ r) (set_self xs i)

pub offer_more : (xs : List ℕ) (i x : ℕ) → get_or xs i 0 < x → set xs i x ≡ set xs i (max (get_or xs i 0) x)
offer_more xs i x h = ap (λ (y : ℕ). set xs i y) (omega arith)

pub offer_less : (xs : List ℕ) (i x : ℕ) → x ≤ get_or xs i 0 → xs ≡ set xs i (max (get_or xs i 0) x)
offer_less xs i x h = sym (set_self xs i) ∙ ap (λ (y : ℕ). set xs i y) (omega arith)

-- ---- one column

-- raised in the row that is meant, and then emptied in the row that is done
pub carried_by_lem : (ring mid : List ℕ) (m slot k x to : ℕ) → to ≡ (slot + k) % 33 → mid ≡ set ring (32 * to + m) (max (get_or ring (32 * to + m) 0) x)
    → set mid (32 * slot + m) 0 ≡ carried_by ring m slot k x
carried_by_lem ring mid m slot k x to e f = rw (f, e) refl

module _ (slot k x j old : ℕ) where
  waits_done : j ≡ slot → waits slot k x j old ≡ 0
  unfolding waits
  waits_done e = rw (eq-eqb j slot e) refl

  module _ (n : j ≡ slot → ⊥) where
    waits_raised : j ≡ (slot + k) % 33 → waits slot k x j old ≡ max old x
    unfolding waits
    waits_raised e = rw (ne_eqb j slot n, eq-eqb j ((slot + k) % 33) e) refl

    waits_kept : (j ≡ (slot + k) % 33 → ⊥) → waits slot k x j old ≡ old
    unfolding waits
    waits_kept f = rw (ne_eqb j slot n, ne_eqb j ((slot + k) % 33) f) refl

  waits_low : old ≤ 1000 → x ≤ 1000 → waits slot k x j old ≤ 1000
  waits_low h g = go (ℕ_discrete j slot) (ℕ_discrete j ((slot + k) % 33))
    where
      go : Dec (j ≡ slot) → Dec (j ≡ (slot + k) % 33) → waits slot k x j old ≤ 1000
      go (yes e) d = omega (arith, waits_done e)
      go (no n) (yes e) = omega (arith, waits_raised n e)
      go (no n) (no f) = omega (arith, waits_kept n f)

module _ (ring : List ℕ) (m slot k x : ℕ) (long : length ring ≡ 1056) (l : m < 32) (h : slot < 33) where
  abbrev at : ℕ
  at = 32 * ((slot + k) % 33) + m

  abbrev raised : List ℕ
  raised = set ring at (max (get_or ring at 0) x)

  carried_here : (j : ℕ) → j < 33 → get_or (carried_by ring m slot k x) (32 * j + m) 0 ≡ waits slot k x j (get_or ring (32 * j + m) 0)
  carried_here j low = go (ℕ_discrete j slot) (ℕ_discrete j ((slot + k) % 33))
    where
      past : (j ≡ slot → ⊥) → get_or (carried_by ring m slot k x) (32 * j + m) 0 ≡ get_or raised (32 * j + m) 0
      past n = get_or-set_other raised (32 * slot + m) (32 * j + m) 0 0 (λ e. n (omega arith))

      go : Dec (j ≡ slot) → Dec (j ≡ (slot + k) % 33)
          → get_or (carried_by ring m slot k x) (32 * j + m) 0 ≡ waits slot k x j (get_or ring (32 * j + m) 0)
      go (yes e) d =
          ap (λ (i : ℕ). get_or (carried_by ring m slot k x) (32 * i + m) 0) e
          ∙ get_or-set_same raised (32 * slot + m) 0 0 (simp length-set (omega arith))
          ∙ sym (waits_done slot k x j (get_or ring (32 * j + m) 0) e)
      go (no n) (yes e) =
          past n
          ∙ ap (λ (i : ℕ). get_or raised (32 * i + m) 0) e
          ∙ get_or-set_same ring at (max (get_or ring at 0) x) 0 (omega arith)
          ∙ ap (λ (i : ℕ). max (get_or ring (32 * i + m) 0) x) (sym e)
          ∙ sym (waits_raised slot k x j (get_or ring (32 * j + m) 0) n e)
      go (no n) (no f) =
          past n
          ∙ get_or-set_other ring at (32 * j + m) (max (get_or ring at 0) x) 0 (λ e. f (omega arith))
          ∙ sym (waits_kept slot k x j (get_or ring (32 * j + m) 0) n f)

  carried_other : (j i : ℕ) → i < 32 → (i ≡ m → ⊥) → get_or (carried_by ring m slot k x) (32 * j + i) 0 ≡ get_or ring (32 * j + i) 0
  carried_other j i low n =
      get_or-set_other raised (32 * slot + m) (32 * j + i) 0 0 (λ e. n (omega arith))
      ∙ get_or-set_other ring at (32 * j + i) (max (get_or ring at 0) x) 0 (λ e. n (omega arith))

-- ---- the columns, one after the other

pub carried_none : (row counts ring : List ℕ) (slot : ℕ) → Carried row counts slot 0 ring ring
carried_none row counts ring slot = record { long = refl; each = λ j m h l. absurd (omega arith); rest = λ j m h l g. refl }

pub carried_more : {row counts old mid : List ℕ} {slot m : ℕ} → slot < 33 → m < 32 → length old ≡ 1056 → Carried row counts slot m old mid
    → Carried row counts slot (m + 1) old (carried_by mid m slot (get_or counts m 0) (get_or row m 0))
carried_more {row} {counts} {old} {mid} {slot} {m} h l long c =
    record { long = simp length-set c.long; each = λ j n low g. each j n low g (cmp n m); rest = rest }
  where
    new : List ℕ
    new = carried_by mid m slot (get_or counts m 0) (get_or row m 0)

    longer : length mid ≡ 1056
    longer = omega (arith, c.long)

    each : (j n : ℕ) → j < 33 → n < m + 1 → Cmp n m → get_or new (32 * j + n) 0 ≡ waits slot (get_or counts n 0) (get_or row n 0) j (get_or old (32 * j + n) 0)
    each j n low g (Cmp.less k) =
        carried_other mid m slot (get_or counts m 0) (get_or row m 0) longer l h j n (omega arith) (λ e. omega arith) ∙ c.each j n low k
    each j n low g (Cmp.same e) =
        subst (λ (i : ℕ). get_or new (32 * j + i) 0 ≡ waits slot (get_or counts i 0) (get_or row i 0) j (get_or old (32 * j + i) 0)) (sym e)
        (carried_here mid m slot (get_or counts m 0) (get_or row m 0) longer l h j low
        ∙ ap (waits slot (get_or counts m 0) (get_or row m 0) j) (c.rest j m low (omega arith) l))
    each j n low g (Cmp.more k) = absurd (omega arith)

    rest : (j n : ℕ) → j < 33 → m + 1 ≤ n → n < 32 → get_or new (32 * j + n) 0 ≡ get_or old (32 * j + n) 0
    rest j n low g k =
        carried_other mid m slot (get_or counts m 0) (get_or row m 0) longer l h j n k (λ e. omega arith) ∙ c.rest j n low (omega arith) k

-- ---- what waits then

-- behind row s, which stands in its slot of the ring
pub carried_next : (T : Table) → Accepted T → (q c s slot : ℕ) (row counts old new : List ℕ) → slot ≡ s % 33
    → ((m : ℕ) → m < 32 → get_or counts m 0 ≡ writes_in T c m) → Few counts → IsRing T q c s (λ t m. get_or old (32 * (t % 33) + m) 0)
    → IsRow T q c s (λ b. get_or row b 0) → Carried row counts slot 32 old new → IsRing T q c (s + 1) (λ t m. get_or new (32 * (t % 33) + m) 0)
carried_next T ok q c s slot row counts old new e count few ring is carried =
    ring_next T ok q c s (λ t m. get_or old (32 * (t % 33) + m) 0) (λ t m. get_or new (32 * (t % 33) + m) 0) (λ b. get_or row b 0) ring is
    empty raised kept
  where
    at : (t m : ℕ) → m < 32
        → get_or new (32 * (t % 33) + m) 0 ≡ waits slot (get_or counts m 0) (get_or row m 0) (t % 33) (get_or old (32 * (t % 33) + m) 0)
    at t m l = carried.each (t % 33) m (omega arith) l

    empty : (m : ℕ) → m < 32 → get_or new (32 * ((s + 33) % 33) + m) 0 ≡ 0
    empty m l = at (s + 33) m l ∙ waits_done slot (get_or counts m 0) (get_or row m 0) ((s + 33) % 33) _ (omega arith)

    raised : (t m : ℕ) → s < t → t < s + 33 → m < 32 → t ≡ s + writes_in T c m
        → get_or new (32 * (t % 33) + m) 0 ≡ max (get_or old (32 * (t % 33) + m) 0) (get_or row m 0)
    raised t m h g l d =
        at t m l
        ∙ waits_raised slot (get_or counts m 0) (get_or row m 0) (t % 33) (get_or old (32 * (t % 33) + m) 0) (λ f. omega arith)
        (omega (arith, count m l))

    kept : (t m : ℕ) → s < t → t < s + 33 → m < 32 → (t ≡ s + writes_in T c m → ⊥)
        → get_or new (32 * (t % 33) + m) 0 ≡ get_or old (32 * (t % 33) + m) 0
    kept t m h g l n =
        at t m l
        ∙ waits_kept slot (get_or counts m 0) (get_or row m 0) (t % 33) (get_or old (32 * (t % 33) + m) 0) (λ f. omega arith)
        (λ f. n (omega (arith, count m l, few m l)))

-- no entry is above 1000 where none was and none comes
pub carried_low : {row counts old new : List ℕ} {slot : ℕ} → Low old 1056 → Low row 32 → Carried row counts slot 32 old new → Low new 1056
carried_low {row} {counts} {old} {new} {slot} h g c k l =
    let j = k / 32 in
    let m = k % 32 in
    let e : 32 * j + m ≡ k = omega arith in
    let low = waits_low slot (get_or counts m 0) (get_or row m 0) j (get_or old (32 * j + m) 0) (h (32 * j + m) (omega arith)) (g m (omega arith)) in
    subst (λ (i : ℕ). get_or new i 0 ≤ 1000) e (omega (arith, c.each j m (omega arith) (omega arith)))
