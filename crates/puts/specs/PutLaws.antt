-- Laws of stored bytes: for stores one after the other, for a loop of them, and for what is stored from the front.
-- Assumes nothing.
use Rattle.std.specs.Prelude.{ℕ, suc, ◌+◌, ◌*◌, ◌<◌, ◌≤◌, ◌≡◌, List, [], ◌∷◌, ◌++◌, length, get_or, take, drop, set}
use Rattle.std.proofs.Common.{sym, ap, ◌∙◌, append_assoc, append-nil, zero-add, arith, add-one, take-suc, length-take-le}
use Rattle.std.proofs.lemmas.List.{drop-drop}
use Rattle.std.proofs.lemmas.List.Edits.{sets, sets-eq}
use Rattle.std.proofs.Math.Seq.{length-sets}
use borrow.Rule.Slice.PartMut.{put_mid}
use Rattle.rules.specs.Bytes.{joined}
use Rattle.theory.proofs.Bytes.{joined_length}
use Rattle.puts.specs.Puts.{stored}

pub stored_length : (out : List ℕ) (at : ℕ) (bytes : List ℕ) → length (stored out at bytes) ≡ length out
unfolding stored
stored_length = length-sets

-- ---- one store after the other

sets_append : (xs ys out : List ℕ) (at n : ℕ) → n ≡ at + length xs → sets (sets out at xs) n ys ≡ sets out at (xs ++ ys)
sets_append [] ys out at n e = ap (λ (k : ℕ). sets out k ys) (omega arith)
sets_append (x ∷ xs) ys out at n e = sets_append xs ys (set out at x) (suc at) n (omega arith)

-- bytes behind those that were stored
pub stored_then : (out : List ℕ) (at : ℕ) (xs ys : List ℕ) {mid end : List ℕ} {n : ℕ} → mid ≡ stored out at xs → n ≡ at + length xs
    → end ≡ stored mid n ys → end ≡ stored out at (xs ++ ys)
unfolding stored
stored_then out at xs ys {n = n} e place f = f ∙ ap (λ (l : List ℕ). sets l n ys) e ∙ sets_append xs ys out at n place

-- ---- a loop of stores

joined_snoc : {A : Type 0} (f : A → List ℕ) (xs : List A) (x : A) → joined f (xs ++ (x ∷ [])) ≡ joined f xs ++ f x
unfolding joined
joined_snoc f [] x = append-nil (f x)
joined_snoc f (y ∷ xs) x = ap (λ (l : List ℕ). f y ++ l) (joined_snoc f xs x) ∙ sym (append_assoc (f y) (joined f xs) (f x))

module _ {A : Type 0} (f : A → List ℕ) (xs : List A) (out : List ℕ) (at : ℕ) where
  -- one turn: the bytes of the next one, behind those of the i before it
  pub stored_next : (d : A) (i : ℕ) {mid end : List ℕ} {n : ℕ} → i < length xs → mid ≡ stored out at (joined f (take i xs))
      → n ≡ at + length (joined f (take i xs)) → end ≡ stored mid n (f (get_or xs i d)) → end ≡ stored out at (joined f (take (i + 1) xs))
  stored_next d i h e place g =
      stored_then out at (joined f (take i xs)) (f (get_or xs i d)) e place g ∙ rw (add-one, take-suc xs i d h, joined_snoc)

-- where each has so many
module _ {A : Type 0} (f : A → List ℕ) (w : ℕ) (width : (x : A) → length (f x) ≡ w) (xs : List A) (out : List ℕ) (at : ℕ) where
  pub stored_turn : (d : A) (i : ℕ) {mid end : List ℕ} {n : ℕ} → i < length xs → mid ≡ stored out at (joined f (take i xs)) → n ≡ at + w * i
      → end ≡ stored mid n (f (get_or xs i d)) → end ≡ stored out at (joined f (take (i + 1) xs))
  stored_turn d i h e place g =
      let long : length (joined f (take i xs)) ≡ w * i = joined_length f w width (take i xs) ∙ rw (length-take-le i xs (omega arith)) in
      stored_next f xs out at d i h e (omega arith) g

-- ---- from the front

pub stored_front : (out bytes : List ℕ) → length bytes ≤ length out → stored out 0 bytes ≡ bytes ++ drop (length bytes) out
unfolding stored
stored_front out bytes h = sets-eq bytes out 0 (omega arith) ∙ rw zero-add

-- bytes copied over a part of the buffer
pub stored_over : (out : List ℕ) (at k : ℕ) {part bytes : List ℕ} → part ≡ bytes → k ≡ length bytes → at + length bytes ≤ length out
    → put_mid at k out part ≡ stored out at bytes
unfolding stored
stored_over out at k {bytes = bytes} e n h = rw (e, n, sets-eq bytes out at h, drop-drop, append_assoc)
