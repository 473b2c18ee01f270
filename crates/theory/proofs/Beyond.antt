-- A number beyond every range may stand for any other: what is asked with it is refused alike.
-- Assumes nothing.
use Prim.Native.Nat.{ℕ, ◌<◌, ◌≤◌}
use mathlib.Core.Path.{◌≡◌, refl, ap, ◌∙◌}
use mathlib.Core.Bool.{Bool, ◌&&◌}
use mathlib.Core.List.{List}
use mathlib.Core.Logic.{◌⊎◌, inl, inr}
use native.Mathlib.Omega.{arith}
use lib.Dec.{leb, ltb}
use lib.IntN.{ℤ}
use Rattle.rules.specs.Table.{Table, nops, Accepted}
use Rattle.rules.specs.Rows.{margin}
use Rattle.rules.specs.Verdicts.{Verdict, accepted, refused, ◌then◌}
use Rattle.rules.specs.Judge.{judge}
use Rattle.rules.specs.Answers.{Answers, asked, period_asked, margin_test, asked_table, YesFor, YesNo, IsMargin}
use Rattle.theory.proofs.Says.{says_same, says_leb, says_ltb, says_and}
use Rattle.theory.proofs.Verdicts.{then_same, onwards_same}
use Rattle.theory.proofs.Judging.{judge_accepted}
use Rattle.theory.proofs.Asking.{margin_row, margin_passed, question}

-- the same number, or both beyond 1000, which no range passes
abbrev pub Alike : ℕ → ℕ → Type 0
Alike x y = (x ≡ y) ⊎ ((1000 < x) × (1000 < y))

within : (x y : ℕ) → Alike x y → y ≤ 1000 → x ≡ y
within x y (inl e) h = e
within x y (inr (f, g)) h = absurd (omega arith)

module _ (x y n : ℕ) (alike : Alike x y) (range : n ≤ 1000) where
  ltb_alike : ltb x n ≡ ltb y n
  ltb_alike = go alike
    where
      go : Alike x y → ltb x n ≡ ltb y n
      go (inl e) = ap (λ (z : ℕ). ltb z n) e
      go (inr (f, g)) = says_same _ _ (says_ltb x n) (says_ltb y n) (λ h. omega arith) (λ h. omega arith)

  range_alike : (leb 1 x && leb x n) ≡ (leb 1 y && leb y n)
  range_alike = go alike
    where
      go : Alike x y → (leb 1 x && leb x n) ≡ (leb 1 y && leb y n)
      go (inl e) = ap (λ (z : ℕ). leb 1 z && leb z n) e
      go (inr (f, g)) =
          says_same _ _ (says_and (leb 1 x) (leb x n) (says_leb 1 x) (says_leb x n)) (says_and (leb 1 y) (leb y n) (says_leb 1 y) (says_leb y n))
          (λ h. absurd (omega (arith, h.1))) (λ h. absurd (omega (arith, h.1)))

-- ---- the questions, of an accepted table
module _ (T : Table) (ok : Accepted T) where
  asked_alike : (q p : ℕ) → Alike q p → (period_asked T q 0 then accepted T) ≡ (period_asked T p 0 then accepted T)
  asked_alike q p a = ap (λ (b : Bool). asked b 0 then accepted T) (range_alike q p T.len a ok.len_high)

  margin_alike : (i i' j j' n n' q q' : ℕ) → Alike i i' → Alike j j' → Alike n n' → Alike q q'
      → (margin_test T i j n q then accepted (margin T i j n q)) ≡ (margin_test T i' j' n' q' then accepted (margin T i' j' n' q'))
  margin_alike i i' j j' n n' q q' a b c d =
      then_same tests
      (λ _ e.
      let (hi, hj, hn, hq) = margin_passed T i' j' n' q' e in
      let same-i = within i i' a (omega (arith, ok.ops_high)) in
      let same-j = within j j' b (omega (arith, ok.ops_high)) in
      let same-n = within n n' c hn in
      let same-q = within q q' d (omega (arith, ok.len_high)) in
      rw (same-i, same-j, same-n, same-q))
    where
      tests : margin_test T i j n q ≡ margin_test T i' j' n' q'
      tests =
          cc (
            margin_row T i j n q,
            margin_row T i' j' n' q',
            ltb_alike i i' (nops T) a (omega (arith, ok.ops_high)),
            ltb_alike j j' (nops T) b (omega (arith, ok.ops_high)),
            range_alike n n' 1000 c (omega arith),
            range_alike q q' T.len d ok.len_high,
          )

-- ---- said of the answers

-- what is refused is refused whatever was asked
refused_both : {A B : Type 0} (P Q : A → B → Type 0) (u : Verdict A) (v : Verdict B) → ((x : A) → u ≡ accepted x → ⊥) → Answers P u v → Answers Q u v
unfolding Answers
refused_both P Q (accepted x) v none said = absurd (none x refl)
refused_both P Q (refused n a b) v none said = said

module _ (s : List ℕ) where
  pub yes_no_alike : (P : Table → ℕ → Type 0) (q p : ℕ) (v : Verdict Bool) → Alike q p → YesNo P s q v → YesNo P s p v
  yes_no_alike P q p v (inl e) said = rw e at said
  yes_no_alike P q p v (inr far) said =
      let same : asked_table s q ≡ asked_table s p = onwards_same (judge s) _ _ (λ T e. asked_alike T (judge_accepted s T e) q p (inr far)) in
      refused_both (YesFor P q) (YesFor P p) (asked_table s p) v
      (λ T e. let (read, low, high) = question s p T e in omega (arith, (judge_accepted s T read).len_high))
      (rw same at said)

  pub margin_asked_alike : (i i' j j' n n' q q' : ℕ) (v : Verdict ℤ) → Alike i i' → Alike j j' → Alike n n' → Alike q q'
      → IsMargin s i j n q v → IsMargin s i' j' n' q' v
  margin_asked_alike i i' j j' n n' q q' v a b c d said =
      said ∙ onwards_same (judge s) _ _ (λ T e. margin_alike T (judge_accepted s T e) i i' j j' n n' q q' a b c d)
