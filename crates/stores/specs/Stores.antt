-- The places of an accepted table's cells in a lent buffer, and how they are written one after the other.
-- Assumes nothing.
use Rattle.std.specs.Prelude.{ℕ, ◌+◌, ◌*◌, ◌<◌, ◌≤◌, ◌≡◌, List, ◌++◌, length, get_or, take, drop}
use Rattle.std.proofs.Math.Path.{refl, subst⁻¹}
use Rattle.std.proofs.Common.{sym, ap, ◌∙◌, arith}
use Rattle.rules.specs.Table.{Table, Accepted}
use Rattle.rules.specs.Runs.{IsPeriod}
use Rattle.rules.specs.Places.{EachPlaces}
use Rattle.rules.specs.Verdicts.{Verdict, accepted, refused, ROOM, onwards}
use Rattle.rules.specs.Bytes.{be16, places_bytes}
use Rattle.rules.specs.Judge.{judge}
use Rattle.rules.specs.Answers.{Written, put, written, Answers, bytes_of, PlacesFor, IsStored}
use Rattle.theory.specs.Tests.{period_of}
use Rattle.theory.proofs.Bytes.{joined_length}
use Rattle.theory.proofs.Exists.{period_found}
use Rattle.theory.proofs.Answering.{put_room, put_short}
use Rattle.lives.specs.ByWalks.{each_of}
use Rattle.lives.proofs.Answered.{each_found}
use Rattle.fields.specs.Verdicts.{refusal_of, leaving}
use Rattle.fields.specs.declared.Refusal.{Refusal}
use Rattle.fields.specs.RefusalLaws.{refusal_is}
use Rattle.puts.specs.Puts.{stored}
use Rattle.puts.specs.PutLaws.{stored_turn, stored_front}

-- ---- the bytes, one number after the other

places_length : (rs : List ℕ) → length (places_bytes rs) ≡ 2 * length rs
unfolding places_bytes
places_length rs = joined_length be16 2 (λ r. refl) rs

module _ (rs out : List ℕ) where
  pub places_none : out ≡ stored out 0 (places_bytes (take 0 rs))
  unfolding stored places_bytes
  places_none = refl

  pub places_turn : (c : ℕ) {mid end : List ℕ} → c < length rs → mid ≡ stored out 0 (places_bytes (take c rs))
      → end ≡ stored mid (2 * c) (be16 (get_or rs c 0)) → end ≡ stored out 0 (places_bytes (take (c + 1) rs))
  unfolding places_bytes
  places_turn c h e f = stored_turn be16 2 (λ r. refl) rs out 0 0 c h e (omega arith) f

-- ---- an accepted table

-- the bytes of the places of its cells, or ROOM
abbrev pub Stores : Table → List ℕ → Written → Type 0
Stores T out w = (rs : List ℕ) × PlacesFor T rs × (w ≡ put (places_bytes rs) out)

module _ (T : Table) (out : List ℕ) where
  pub stores_short : Accepted T → (n : ℕ) → n ≡ 2 * T.cells → length out < n → Stores T out (leaving (refused ROOM n 0) out)
  stores_short ok n e h =
      let rs = each_of T in
      let each = each_found T ok in
      let size : n ≡ length (places_bytes rs) = omega (arith, places_length rs, each.size) in (
        rs,
        (period_of T, period_found T ok, each),
        ap (λ (m : ℕ). leaving (refused ROOM m 0) out) size ∙ sym (put_short (places_bytes rs) out (omega arith)),
      )

  pub stores_room : (q n : ℕ) (rs end : List ℕ) → IsPeriod T q → EachPlaces T q rs → n ≡ 2 * T.cells → n ≤ length out
      → end ≡ stored out 0 (places_bytes rs) → Stores T out (leaving (accepted n) end)
  stores_room q n rs end period each e h f =
      let size : n ≡ length (places_bytes rs) = omega (arith, places_length rs, each.size) in (
        rs,
        (q, period, each),
        ap (leaving (accepted n)) (f ∙ stored_front out (places_bytes rs) (omega arith))
            ∙ ap (λ (m : ℕ). leaving (accepted m) (places_bytes rs ++ drop (length (places_bytes rs)) out)) size
            ∙ sym (put_room (places_bytes rs) out (omega arith)),
      )

-- ---- from the verdict on the bytes: what is answered of an accepted table, whatever that is, and how it is written
module _ {A : Type 0} (P : Table → A → Type 0) (f : A → List ℕ) where
  -- a refusal of the table is the answer, and the buffer stays
  answer_refused : (s out : List ℕ) (r : Refusal) → judge s ≡ refusal_of r
      → (v : Verdict A) × Answers P (judge s) v × (leaving (refusal_of r) out ≡ written (bytes_of f v) out)
  unfolding Answers bytes_of written onwards
  answer_refused s out r e =
      let (n, a, b, x, y) = refusal_is {A = ℕ} {B = Table} r in (
        refused n a b,
        subst⁻¹ (λ (u : Verdict Table). Answers P u (refused n a b)) (e ∙ y) refl,
        ap (λ (u : Verdict ℕ). leaving u out) x,
      )

  -- what is put for an accepted table is the answer
  answer_accepted : (s out : List ℕ) (T : Table) (w : Written) (x : A) → judge s ≡ accepted T → P T x → w ≡ put (f x) out
      → (v : Verdict A) × Answers P (judge s) v × (w ≡ written (bytes_of f v) out)
  unfolding Answers bytes_of written onwards
  answer_accepted s out T w x e is g = (accepted x, subst⁻¹ (λ (u : Verdict Table). Answers P u (accepted x)) e (x, is, refl), g)

-- a refusal of the table is the answer, and the buffer stays
pub places_refused : (s out : List ℕ) (r : Refusal) → judge s ≡ refusal_of r → IsStored s out (leaving (refusal_of r) out)
places_refused = answer_refused PlacesFor places_bytes

-- the places of an accepted table's cells are the answer
pub places_accepted : (s out : List ℕ) (T : Table) (w : Written) → judge s ≡ accepted T → Stores T out w → IsStored s out w
places_accepted s out T w e (rs, are, f) = answer_accepted PlacesFor places_bytes s out T w rs e are f
