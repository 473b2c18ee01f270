-- The margin: one difference of two dates, its sign "with exact meaning at zero and below", and its range.
-- Assumes nothing.
use Prim.Native.Nat.{ℕ, zero, suc, ◌+◌, ◌-◌, ◌*◌, ◌<◌, ◌≤◌}
use mathlib.Core.Path.{◌≡◌, sym, ap, ◌∙◌}
use mathlib.Core.Bool.{Bool, cond}
use mathlib.Core.Logic.{◌↔◌, by_cases}
use native.Mathlib.Nat.{mul-le-mul}
use native.Mathlib.Decide.{dec_lt}
use native.Mathlib.Omega.{arith}
use lib.IntN.{ℤ, pos, negsuc, ◌-ℤ◌, ◌+ℤ◌, neg_ℤ, neg_ℤ-+ℤ, neg_ℤ-neg_ℤ, +ℤ_comm, +ℤ_assoc, pos-ne-negsuc}
use lib.Dec.{le→leb}
use lib.Signed.{mag, ◌≤ℤ◌, le_z_yes}
use borrow.Author.Tests.{le-ltb, lt-ltb}
use Rattle.rules.specs.Table.{Table, nops, op, end_of, Accepted}
use Rattle.rules.specs.Rows.{margin}

-- ---- a difference of two numbers, by their order
diff_ge : (a b : ℕ) → b ≤ a → pos a -ℤ pos b ≡ pos (a - b)
diff_ge a zero h = ap pos (omega arith)
diff_ge a (suc b) h = ap (λ (t : Bool). cond t (negsuc (suc b - suc a)) (pos (a - suc b))) (le-ltb a (suc b) h)

diff_lt : (a b : ℕ) → a < b → pos a -ℤ pos b ≡ negsuc (b - suc a)
diff_lt a zero h = absurd (omega arith)
diff_lt a (suc b) h = ap (λ (t : Bool). cond t (negsuc (suc b - suc a)) (pos (a - suc b))) (lt-ltb a (suc b) h)

-- below k, as the two are: `mag` is n for n and for −(n + 1)
pub mag_diff : (a b k : ℕ) → a < k → b < k → mag (pos a -ℤ pos b) < k
mag_diff a b k ha hb =
    by_cases (dec_lt a b) (λ h. rw (diff_lt a b h) (omega arith)) (λ h. let g : b ≤ a = omega arith in rw (diff_ge a b g) (omega arith))

module _ (T : Table) (i j n q : ℕ) where
  -- one subtraction does: the date of j, n cycles on, less the end of i
  pub margin_as : margin T i j n q ≡ pos (n * q + (op T j).start) -ℤ pos (end_of (op T i))
  unfolding margin
  margin_as =
      let start = pos (op T j).start in
      let end = neg_ℤ (pos (end_of (op T i))) in
      ap (λ (z : ℤ). pos (n * q) +ℤ z)
      (neg_ℤ-+ℤ (pos (end_of (op T i))) (neg_ℤ start) ∙ ap (λ (z : ℤ). end +ℤ z) (neg_ℤ-neg_ℤ start) ∙ +ℤ_comm end start)
      ∙ sym (+ℤ_assoc (pos (n * q)) start end)

  -- the ticks from the end of i to the start of j
  margin_ended : end_of (op T i) ≤ (op T j).start + n * q → margin T i j n q ≡ pos ((op T j).start + n * q - end_of (op T i))
  margin_ended h = margin_as ∙ diff_ge (n * q + (op T j).start) (end_of (op T i)) (omega arith) ∙ ap pos (omega arith)

  -- the ticks by which i ends after j starts: m + 1 of them are `negsuc m`
  margin_late : (op T j).start + n * q < end_of (op T i) → margin T i j n q ≡ negsuc (end_of (op T i) - suc ((op T j).start + n * q))
  margin_late h = margin_as ∙ diff_lt (n * q + (op T j).start) (end_of (op T i)) (omega arith) ∙ ap negsuc (omega arith)

  -- not negative exactly when i has ended by the start of j
  margin_pos : ((m : ℕ) × (margin T i j n q ≡ pos m)) ↔ (end_of (op T i) ≤ (op T j).start + n * q)
  margin_pos = (λ x. go x (dec_lt ((op T j).start + n * q) (end_of (op T i))), λ h. (_, margin_ended h))
    where
      go : (m : ℕ) × (margin T i j n q ≡ pos m) → Dec ((op T j).start + n * q < end_of (op T i)) → end_of (op T i) ≤ (op T j).start + n * q
      go (m, e) (yes h) = absurd (pos-ne-negsuc _ _ (sym e ∙ margin_late h))
      go (m, e) (no h) = omega arith

  -- "zero when it ends exactly there"
  pub margin_zero : (margin T i j n q ≡ pos 0) ↔ (end_of (op T i) ≡ (op T j).start + n * q)
  margin_zero = (
    λ e.
        let h : end_of (op T i) ≤ (op T j).start + n * q = margin_pos.0 (0, e) in
        let none : (op T j).start + n * q - end_of (op T i) ≡ 0 = cc (margin_ended h) in
        omega arith,
    λ e. margin_ended (omega arith) ∙ ap pos (omega arith),
  )

  -- "negative when i ends after j starts"
  pub margin_neg : ((m : ℕ) × (margin T i j n q ≡ negsuc m)) ↔ ((op T j).start + n * q < end_of (op T i))
  margin_neg = (λ x. go x (dec_lt ((op T j).start + n * q) (end_of (op T i))), λ h. (_, margin_late h))
    where
      go : (m : ℕ) × (margin T i j n q ≡ negsuc m) → Dec ((op T j).start + n * q < end_of (op T i)) → (op T j).start + n * q < end_of (op T i)
      go (m, e) (yes h) = h
      go (m, e) (no h) = absurd (pos-ne-negsuc _ _ (sym (margin_ended (omega arith)) ∙ e))

  -- a margin that may be asked for is from −999 to 1,000,998
  module _ (ok : Accepted T) (first : i < nops T) (second : j < nops T) (near : 1 ≤ n) (far : n ≤ 1000) (low : 1 ≤ q) (high : q ≤ T.len) where
    margin_within : (P : ℤ → Type 0) → ((m : ℕ) → m ≤ 1000998 → P (pos m)) → ((m : ℕ) → m ≤ 998 → P (negsuc m)) → P (margin T i j n q)
    margin_within P above below =
        let o = ok.each i first in
        let u = ok.each j second in
        let some : 1 ≤ n * q = mul-le-mul near low in
        let long : q ≤ 1000 = omega arith in
        let most : n * q ≤ 1000000 = mul-le-mul far long in
        by_cases (dec_lt ((op T j).start + n * q) (end_of (op T i)))
        (λ h. rw (margin_late h) (below _ (omega arith)))
        (λ h. let g : end_of (op T i) ≤ (op T j).start + n * q = omega arith in rw (margin_ended g) (above _ (omega arith)))

    pub margin_least : negsuc 998 ≤ℤ margin T i j n q
    margin_least = margin_within (λ z. negsuc 998 ≤ℤ z) (λ m h. le_z_yes tt) (λ m h. le_z_yes (le→leb m 998 h))

    pub margin_most : margin T i j n q ≤ℤ pos 1000998
    margin_most = margin_within (λ z. z ≤ℤ pos 1000998) (λ m h. le_z_yes (le→leb m 1000998 h)) (λ m h. le_z_yes tt)

    pub margin_mag : mag (margin T i j n q) ≤ 1000998
    margin_mag = margin_within (λ z. mag z ≤ 1000998) (λ m h. h) (λ m h. omega arith)
