-- In an accepted table the order of the writes and reads of a cell is that of their starts, so sources do not depend on durations.
-- Assumes nothing.
use Prim.Native.Nat.{ℕ, ◌+◌, ◌*◌, ◌<◌, ◌≤◌}
use mathlib.Core.Path.{◌≡◌, sym, ap, subst}
use mathlib.Core.List.{List}
use mathlib.Core.Logic.{◌↔◌, inl, inr}
use native.Mathlib.Omega.{arith}
use native.Mathlib.Decide.{ℕ_discrete}
use Rattle.rules.specs.Sets.{In}
use Rattle.rules.specs.Table.{Table, op, end_of, Accepted, Contest}
use Rattle.rules.specs.Runs.{mode, Runs, Source}
use Rattle.theory.proofs.Order.{Cmp, cmp, later}
use Rattle.theory.proofs.Period.{never_race}

module _ (T : Table) (ok : Accepted T) (r : List ℕ) where
  -- the dates of an instance in the plain run
  abbrev starts : ℕ → ℕ → ℕ
  starts i k = (op T i).start + k * T.len

  abbrev stops : ℕ → ℕ → ℕ
  stops i k = end_of (op T i) + k * T.len

  -- of two instances that contest a cell, the one that starts first has ended when the other starts
  in_order_lem : (i k j l c : ℕ) → Runs T r k i → Runs T r l j → Contest (op T i) (op T j) c → starts i k < starts j l
      → stops i k ≤ starts j l
  in_order_lem i k j l c x y w h = go (cmp k l)
    where
      same : k ≡ l → Dec (i ≡ j) → Cmp (op T j).start (end_of (op T i)) → stops i k ≤ starts j l
      same e (yes d) z = absurd (omega (arith, ap (λ (m : ℕ). (op T m).start) d, ap (λ (m : ℕ). m * T.len) e))
      same e (no d) (Cmp.less z) =
          absurd
          (never_race T ok i j x.is_op y.is_op d
          (record {
            mode = (mode r k, x.in_mode, (subst (λ (m : ℕ). Runs T r m j) (sym e) y).in_mode);
            cell = (c, w);
            lap = omega (arith, ap (λ (m : ℕ). m * T.len) e);
          }))
      same e (no d) (Cmp.same z) = omega (arith, ap (λ (m : ℕ). m * T.len) e)
      same e (no d) (Cmp.more z) = omega (arith, ap (λ (m : ℕ). m * T.len) e)

      go : Cmp k l → stops i k ≤ starts j l
      go (Cmp.less e) = omega (arith, later T.len e, (ok.each i x.is_op).fits)
      go (Cmp.same e) = same e (ℕ_discrete i j) (cmp (op T j).start (end_of (op T i)))
      go (Cmp.more e) = absurd (omega (arith, later T.len e, (ok.each j y.is_op).fits, (ok.each j y.is_op).lasts))

  -- a write has ended by a reader's start exactly when it started before
  pub ended_iff_started : (i k j l c : ℕ) → Runs T r k i → Runs T r l j → In c (op T i).writes → In c (op T j).reads
      → stops i k ≤ starts j l ↔ starts i k < starts j l
  ended_iff_started i k j l c x y w v =
      (λ h. omega (arith, (ok.each i x.is_op).lasts), in_order_lem i k j l c x y (inl (w, inl v)))

  -- of two writes of a cell the one that ends first starts first
  pub writes_in_order : (i k j l c : ℕ) → Runs T r k i → Runs T r l j → In c (op T i).writes → In c (op T j).writes
      → stops i k ≤ stops j l ↔ starts i k ≤ starts j l
  writes_in_order i k j l c x y w v = (λ h. fwd h (cmp (starts j l) (starts i k)), λ h. bwd h (cmp (starts i k) (starts j l)))
    where
      fwd : stops i k ≤ stops j l → Cmp (starts j l) (starts i k) → starts i k ≤ starts j l
      fwd h (Cmp.less z) =
          absurd (omega (arith, in_order_lem j l i k c y x (inl (v, inr w)) z, (ok.each i x.is_op).lasts, (ok.each j y.is_op).lasts))
      fwd h (Cmp.same z) = omega arith
      fwd h (Cmp.more z) = omega arith

      -- two writes of one start are one instance
      one : starts i k ≡ starts j l → Cmp k l → Dec (i ≡ j) → stops i k ≤ stops j l
      one z (Cmp.less e) d = omega (arith, later T.len e, (ok.each i x.is_op).fits, (ok.each i x.is_op).lasts)
      one z (Cmp.more e) d = absurd (omega (arith, later T.len e, (ok.each j y.is_op).fits, (ok.each j y.is_op).lasts))
      one z (Cmp.same e) (yes d) = omega (arith, ap (λ (m : ℕ). end_of (op T m)) d, ap (λ (m : ℕ). m * T.len) e)
      one z (Cmp.same e) (no d) =
          absurd
          (never_race T ok i j x.is_op y.is_op d
          (record {
            mode = (mode r k, x.in_mode, (subst (λ (m : ℕ). Runs T r m j) (sym e) y).in_mode);
            cell = (c, inl (w, inr v));
            lap = omega (arith, ap (λ (m : ℕ). m * T.len) e, (ok.each i x.is_op).lasts, (ok.each j y.is_op).lasts);
          }))

      bwd : starts i k ≤ starts j l → Cmp (starts i k) (starts j l) → stops i k ≤ stops j l
      bwd h (Cmp.less z) = omega (arith, in_order_lem i k j l c x y (inl (w, inr v)) z)
      bwd h (Cmp.same z) = one z (cmp k l) (ℕ_discrete i j)
      bwd h (Cmp.more z) = absurd (omega arith)

  -- a reader has one source
  pub source_unique : (c d i k j l : ℕ) → Source T r c d i k → Source T r c d j l → (i ≡ j) × (k ≡ l)
  source_unique c d i k j l x y = go (cmp k l) (ℕ_discrete i j)
    where
      a : stops i k ≤ stops j l
      a = y.last i k x.runs x.writes x.before

      b : stops j l ≤ stops i k
      b = x.last j l y.runs y.writes y.before

      go : Cmp k l → Dec (i ≡ j) → (i ≡ j) × (k ≡ l)
      go (Cmp.less e) n = absurd (omega (arith, a, b, later T.len e, (ok.each i x.runs.is_op).fits, (ok.each j y.runs.is_op).lasts))
      go (Cmp.more e) n = absurd (omega (arith, a, b, later T.len e, (ok.each j y.runs.is_op).fits, (ok.each i x.runs.is_op).lasts))
      go (Cmp.same e) (yes n) = (n, e)
      go (Cmp.same e) (no n) =
          absurd
          (never_race T ok i j x.runs.is_op y.runs.is_op n
          (record {
            mode = (mode r k, x.runs.in_mode, (subst (λ (m : ℕ). Runs T r m j) (sym e) y.runs).in_mode);
            cell = (c, inl (x.writes, inr y.writes));
            lap = omega (arith, a, b, ap (λ (m : ℕ). m * T.len) e, (ok.each i x.runs.is_op).lasts, (ok.each j y.runs.is_op).lasts);
          }))
