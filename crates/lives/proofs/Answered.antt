-- The places of a table's cells, and their bytes in a lent buffer: they are there for every input, there is only one answer, a refusal leaves the
-- buffer as it was, no byte is added to it, and no byte past 889 of the table matters.
-- Assumes nothing.
use Prim.Native.Nat.{ℕ, zero, suc, ◌+◌, ◌<◌}
use mathlib.Core.Path.{◌≡◌, refl, sym, ap, subst, subst⁻¹, ◌∙◌}
use mathlib.Core.List.{List}
use native.Mathlib.Omega.{arith}
use lib.ListN.{length, get_or, take}
use lib.Seq.{ext_get_or}
use Rattle.rules.specs.Table.{Table, Accepted}
use Rattle.rules.specs.Places.{IsPlaces, EachPlaces}
use Rattle.rules.specs.Verdicts.{Verdict, refused}
use Rattle.rules.specs.Bytes.{places_bytes, farthest}
use Rattle.rules.specs.Judge.{judge}
use Rattle.rules.specs.Answers.{Written, written, bytes_of, PlacesFor, PlacesTo, IsStored}
use Rattle.theory.specs.Tests.{period_of}
use Rattle.theory.proofs.Period.{period_unique}
use Rattle.theory.proofs.Exists.{period_found}
use Rattle.theory.proofs.Judging.{judge_accepted}
use Rattle.theory.proofs.Lengths.{no_farther}
use Rattle.theory.proofs.Answering.{answers_unique, answers_exist, refusal_keeps, written_length}
use Rattle.lives.specs.ByWalks.{listed, places_of, each_of, places_answer}
use Rattle.lives.proofs.Bounds.{places_unique}
use Rattle.lives.proofs.ByWalks.{places_found}

-- ---- the places of each cell

listed_at : (f : ℕ → ℕ) (n k i : ℕ) → i < n → get_or (listed f k n) i 0 ≡ f (k + i)
unfolding listed
listed_at f zero k i h = absurd (omega arith)
listed_at f (suc n) k zero h = ap f (omega arith)
listed_at f (suc n) k (suc i) h = listed_at f n (suc k) i (omega arith) ∙ ap f (omega arith)

length_listed : (f : ℕ → ℕ) (n k : ℕ) → length (listed f k n) ≡ n
unfolding listed
length_listed f zero k = refl
length_listed f (suc n) k = omega (arith, length_listed f n (suc k))

pub each_unique : (T : Table) (q : ℕ) (rs ss : List ℕ) → EachPlaces T q rs → EachPlaces T q ss → rs ≡ ss
each_unique T q rs ss x y =
    ext_get_or 0 rs ss (x.size ∙ sym y.size)
    (λ c h. places_unique T q c (get_or rs c 0) (get_or ss c 0) (x.each c (omega (arith, x.size))) (y.each c (omega (arith, x.size))))

pub each_found : (T : Table) → Accepted T → EachPlaces T (period_of T) (each_of T)
unfolding each_of
each_found T ok =
    record {
      size = length_listed (places_of T (period_of T)) T.cells 0;
      each = λ c h. subst⁻¹ (λ (r : ℕ). IsPlaces T (period_of T) c r) (listed_at (places_of T (period_of T)) T.cells 0 c h ∙ ap (places_of T (period_of T)) (omega arith))
          (places_found T ok c (period_of T) (period_found T ok).right.values (period_found T ok).low);
    }

-- at the table's one period
places_for_unique : (T : Table) (rs ss : List ℕ) → PlacesFor T rs → PlacesFor T ss → rs ≡ ss
places_for_unique T rs ss (q, x, a) (p, y, b) =
    each_unique T q rs ss a (subst (λ (z : ℕ). EachPlaces T z ss) (period_unique T p q y x) b)

pub places_to_unique : (s : List ℕ) (v w : Verdict (List ℕ)) → PlacesTo s v → PlacesTo s w → v ≡ w
places_to_unique s = answers_unique PlacesFor places_for_unique (judge s)

pub places_to_found : (s : List ℕ) → PlacesTo s (places_answer s)
unfolding places_answer
places_to_found s =
    answers_exist PlacesFor each_of (judge s)
    (λ T e. (period_of T, period_found T (judge_accepted s T e), each_found T (judge_accepted s T e)))

-- ---- their bytes
pub stored_unique : (s out : List ℕ) (w x : Written) → IsStored s out w → IsStored s out x → w ≡ x
stored_unique s out w x (v, r, e) (u, q, f) =
    e ∙ ap (λ (y : Verdict (List ℕ)). written (bytes_of places_bytes y) out) (places_to_unique s v u r q) ∙ sym f

pub stored_exists : (s out : List ℕ) → (w : Written) × IsStored s out w
stored_exists s out = (written (bytes_of places_bytes (places_answer s)) out, (places_answer s, places_to_found s, refl))

pub stored_keeps : (s out : List ℕ) (w : Written) (n a b : ℕ) → IsStored s out w → w.answer ≡ refused n a b → w.buffer ≡ out
stored_keeps s out w n a b (v, r, e) none = rw e (refusal_keeps _ out n a b (rw e at none))

pub stored_length : (s out : List ℕ) (w : Written) → IsStored s out w → length w.buffer ≡ length out
stored_length s out w (v, r, e) = rw e (written_length _ out)

-- ---- "no answer depends on bytes past 889"
module _ (s t : List ℕ) (near : take farthest s ≡ take farthest t) where
  pub stored_near : (out : List ℕ) (w : Written) → IsStored s out w → IsStored t out w
  stored_near out w (v, r, e) = (v, rw (no_farther s t near) at r, e)
