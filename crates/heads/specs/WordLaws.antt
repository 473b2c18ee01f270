-- Words of four bytes, one after the other: read from the front, and each by itself.
-- Assumes nothing.
use Prim.Native.Nat.{ℕ, zero, suc, ◌+◌, ◌*◌, ◌<◌}
use Rattle.std.specs.Prelude.{◌≡◌, get_or, set}
use Rattle.std.proofs.Common.{sym, ◌∙◌, add-one}
use Rattle.std.proofs.Math.Path.{ap}
use mathlib.Core.List.{List, [], ◌∷◌, ◌++◌}
use native.Mathlib.Omega.{arith}
use Rattle.rules.specs.Bytes.{num32, words}
use Rattle.rules.specs.Judge.{sets_wrong}
use Rattle.theory.proofs.Judging.{length_words}
use Rattle.table.specs.Tables.{padded}
use Rattle.table.specs.TableLaws.{set_padded}

module _ (s : List ℕ) where
  -- one word more
  words_snoc : (at n : ℕ) → words s at (suc n) ≡ words s at n ++ (num32 s (at + 4 * n) ∷ [])
  unfolding words
  words_snoc at zero = let e : at + 4 * 0 ≡ at = omega arith in rw e
  words_snoc at (suc n) =
      let e : at + 4 + 4 * n ≡ at + 4 * suc n = omega arith in
      ap (λ (ws : List ℕ). num32 s at ∷ ws) (words_snoc (at + 4) n ∙ rw e)

  pub words_more : (at m : ℕ) → m < 32 → set (padded 32 0 (words s at m)) m (num32 s (at + 4 * m)) ≡ padded 32 0 (words s at (m + 1))
  words_more at m h =
      set_padded 32 0 (words s at m) (num32 s (at + 4 * m)) m (sym (length_words s at m)) h ∙ rw (← words_snoc at m, add-one)

  -- each word by itself
  pub word_there : (at n m : ℕ) → m < n → get_or (words s at n) m 0 ≡ num32 s (at + 4 * m)
  unfolding words
  word_there at zero m h = absurd (omega arith)
  word_there at (suc n) zero h = ap (num32 s) (omega arith)
  word_there at (suc n) (suc m) h = word_there (at + 4) n m (omega arith) ∙ ap (num32 s) (omega arith)

  -- the first modes stand right before the followers
  pub sets_first : (k n : ℕ) → sets_wrong k (words s 14 (n + 1)) ≡ sets_wrong k (num32 s 14 ∷ words s 18 n)
  unfolding words
  sets_first k n = rw (add-one n)
