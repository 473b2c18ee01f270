-- One operation more in a set, and one set more.
-- Assumes nothing.
use Rattle.std.specs.Prelude.{ℕ, ◌+◌, ◌^◌, ◌<◌, ◌≡◌, List, ◌⊎◌, length, set}
use Rattle.std.proofs.Common.{sym, subst, inl, inr, arith}
use Rattle.std.proofs.Math.Path.{subst⁻¹}
use Rattle.std.specs.Int.Bits.{bit_or}
use Rattle.rules.specs.Sets.{In, Share}
use Rattle.theory.proofs.Order.{Cmp, cmp, filled_more}
use Rattle.theory.proofs.Sets.{in_none}
use Rattle.sets.specs.Members.{in_with}
use Rattle.laters.specs.Laters.{MayMeet, LaterOf, AllLater}
use Rattle.columns.specs.declared.Dated.{Dated}
use Rattle.columns.specs.Columns.{op_by}

module _ (cols : List Dated) (i q : ℕ) where
  pub later_none : LaterOf cols i q 0 0
  later_none = record { exact = λ j. (λ h. absurd (in_none j h), λ h. absurd (omega (arith, h.0))) }

  -- an operation without a board meets none
  pub later_idle : (k : ℕ) → 0 ≡ (op_by cols i).boards → LaterOf cols i q k 0
  later_idle k e = record { exact = λ j. (λ h. absurd (in_none j h), λ h. no j h.1.0) }
    where
      no : (j : ℕ) → Share (op_by cols i).boards (op_by cols j).boards → In j 0
      no j (b, x, y) = absurd (in_none b (subst⁻¹ (λ (s : ℕ). In b s) e x))

  module _ {k r : ℕ} (l : LaterOf cols i q k r) where
    -- the next one may meet i
    pub later_with : MayMeet cols i q k → LaterOf cols i q (k + 1) (bit_or r (2 ^ k))
    later_with may = record { exact = λ j. (λ h. fwd j ((in_with r k j).0 h), λ h. (in_with r k j).1 (bwd j h (cmp j k))) }
      where
        fwd : (j : ℕ) → In j r ⊎ (j ≡ k) → (j < k + 1) × MayMeet cols i q j
        fwd j (inl h) = let (less, m) = (l.exact j).0 h in (omega (arith, less), m)
        fwd j (inr e) = (omega arith, subst (λ (x : ℕ). MayMeet cols i q x) (sym e) may)

        bwd : (j : ℕ) → (j < k + 1) × MayMeet cols i q j → Cmp j k → In j r ⊎ (j ≡ k)
        bwd j h (Cmp.less e) = inl ((l.exact j).1 (e, h.1))
        bwd j h (Cmp.same e) = inr e
        bwd j h (Cmp.more e) = absurd (omega (arith, h.0))

    -- or not
    pub later_without : (MayMeet cols i q k → ⊥) → LaterOf cols i q (k + 1) r
    later_without may = record { exact = λ j. (fwd j, λ h. bwd j h (cmp j k)) }
      where
        fwd : (j : ℕ) → In j r → (j < k + 1) × MayMeet cols i q j
        fwd j h = let (less, m) = (l.exact j).0 h in (omega (arith, less), m)

        bwd : (j : ℕ) → (j < k + 1) × MayMeet cols i q j → Cmp j k → In j r
        bwd j h (Cmp.less e) = (l.exact j).1 (e, h.1)
        bwd j h (Cmp.same e) = absurd (may (subst (λ (x : ℕ). MayMeet cols i q x) e h.1))
        bwd j h (Cmp.more e) = absurd (omega (arith, h.0))

-- one set more
pub all_later_more : (cols : List Dated) (q k r : ℕ) (later : List ℕ) → k < length later → AllLater cols q k later → LaterOf cols k q 32 r
    → AllLater cols q (k + 1) (set later k r)
all_later_more cols q k r later h all here = record { each = filled_more (λ i x. LaterOf cols i q 32 x) k r later h all.each here }
