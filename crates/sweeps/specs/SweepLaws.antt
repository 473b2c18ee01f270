-- One operation after the other at one distance.
-- Assumes nothing.
use Rattle.std.specs.Prelude.{ℕ, ◌+◌, ◌<◌, ◌≤◌, ◌≡◌, refl, List, ◌⊎◌, length, get_or, set}
use Rattle.std.proofs.Common.{sym, subst, ◌∙◌, inl, inr, arith, length-set, get_or-set_same, get_or-set_other}
use Rattle.theory.proofs.Order.{Cmp, cmp}
use Rattle.theory.proofs.Sets.{in_none}
use Rattle.marks.specs.Marks.{Adds, Keeps, HitBy}
use Rattle.marks.specs.MarkLaws.{adds_none, adds_as, adds_then}
use Rattle.sweeps.specs.Sweeps.{modes_after, HitAny, AllKept}
use Rattle.columns.specs.declared.Dated.{Dated}

-- an empty set keeps nothing and hits nothing
pub keeps_none : (cols : List Dated) (i n q : ℕ) → Keeps cols i n q 0 0
keeps_none cols i n q = record { exact = λ j. (λ h. absurd (in_none j h), λ h. h.0) }

pub adds_empty : (cols : List Dated) (i after n q : ℕ) (wrong : List ℕ) → Adds wrong (λ x. (q ≤ x) × HitBy cols i after n 0 x) wrong
adds_empty cols i after n q wrong = adds_none wrong (λ x (l, (j, h, y)). in_none j h)

-- what the loop over the operations keeps: those below i are done, the others are as they were
pub record Done (cols : List Dated) (row : List ℕ) (R n q : ℕ) (later₀ : List ℕ) (wrong₀ : List ℕ) (later : List ℕ) (wrong : List ℕ) (i : ℕ) : Type 0 where
  pub long : length later ≡ 32
  pub kept : AllKept cols n q i later₀ later
  pub same : (k : ℕ) → i ≤ k → get_or later k 0 ≡ get_or later₀ k 0
  pub adds : Adds wrong₀ (λ x. (q ≤ x) × HitAny cols row R n later₀ i x) wrong

module _ (cols : List Dated) (row : List ℕ) (R n q : ℕ) (later₀ : List ℕ) (wrong₀ : List ℕ) where
  abbrev Hit : ℕ → ℕ → Type 0
  Hit i x = HitAny cols row R n later₀ i x

  pub done_none : length later₀ ≡ 32 → Done cols row R n q later₀ wrong₀ later₀ wrong₀ 0
  done_none l =
      record {
        long = l;
        kept = record { each = λ i h. absurd (omega arith) };
        same = λ k h. refl;
        adds = adds_none wrong₀ (λ x (h, (i, z, y)). omega (arith, z));
      }

  module _ {later : List ℕ} {wrong new : List ℕ} {i r : ℕ} (h : i < 32) (d : Done cols row R n q later₀ wrong₀ later wrong i)
      (keep : Keeps cols i n q (get_or later i 0) r)
      (more : Adds wrong (λ x. (q ≤ x) × HitBy cols i (modes_after cols row R i) n (get_or later i 0) x) new)
    where
      here : get_or later i 0 ≡ get_or later₀ i 0
      here = d.same i (omega arith)

      kept_at : (k : ℕ) → k < i + 1 → Cmp k i → Keeps cols k n q (get_or later₀ k 0) (get_or (set later i r) k 0)
      kept_at k l (Cmp.less e) =
          rw (get_or-set_other later i k r 0 (λ x. omega arith)) (d.kept.each k e)
      kept_at k l (Cmp.same e) =
          rw (e, get_or-set_same later i r 0 (omega (arith, d.long)), ← here) keep
      kept_at k l (Cmp.more e) = absurd (omega arith)

      hit_more : (x : ℕ) → ((q ≤ x) × Hit i x) ⊎ ((q ≤ x) × HitBy cols i (modes_after cols row R i) n (get_or later i 0) x) → (q ≤ x) × Hit (i + 1) x
      hit_more x (inl (l, (k, z, y))) = (l, (k, omega arith, y))
      hit_more x (inr (l, y)) = (l, (i, omega arith, subst (λ (s : ℕ). HitBy cols i (modes_after cols row R i) n s x) here y))

      hit_less : (x : ℕ) → (q ≤ x) × Hit (i + 1) x → ((q ≤ x) × Hit i x) ⊎ ((q ≤ x) × HitBy cols i (modes_after cols row R i) n (get_or later i 0) x)
      hit_less x (l, (k, z, y)) = go (cmp k i)
        where
          go : Cmp k i → ((q ≤ x) × Hit i x) ⊎ ((q ≤ x) × HitBy cols i (modes_after cols row R i) n (get_or later i 0) x)
          go (Cmp.less e) = inl (l, (k, e, y))
          go (Cmp.same e) =
              inr (l, subst (λ (s : ℕ). HitBy cols i (modes_after cols row R i) n s x) (sym here) (subst (λ (m : ℕ). HitBy cols m (modes_after cols row R m) n (get_or later₀ m 0) x) e y))
          go (Cmp.more e) = absurd (omega arith)

      pub done_more : Done cols row R n q later₀ wrong₀ (set later i r) new (i + 1)
      done_more =
          record {
            long = length-set later i r ∙ d.long;
            kept = record { each = λ k l. kept_at k l (cmp k i) };
            same = λ k l. get_or-set_other later i k r 0 (λ x. omega arith) ∙ d.same k (omega arith);
            adds = adds_as (λ x. (hit_more x, hit_less x)) (adds_then d.adds more);
          }
