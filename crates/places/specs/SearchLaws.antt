-- How far a row reaches, mode by mode, and what the search knows at each row.
-- Assumes nothing.
use Rattle.std.specs.Prelude.{ℕ, suc, ◌+◌, ◌-◌, ◌*◌, ◌^◌, ◌<◌, ◌≤◌, ◌≡◌, List, ◌↔◌, ◌⊎◌, get_or}
use Rattle.std.proofs.Common.{sym, subst, ◌∙◌, inl, inr, arith}
use Rattle.std.proofs.Math.Decide.{dec_lt}
use Rattle.std.specs.Int.Bits.{bit_or}
use Rattle.rules.specs.Sets.{In}
use Rattle.rules.specs.Table.{Table, op, Accepted}
use Rattle.theory.proofs.Order.{Cmp, cmp}
use Rattle.theory.proofs.Sets.{in_none}
use Rattle.lives.specs.Near.{writes_in}
use Rattle.lives.specs.Left.{started_in, Farther}
use Rattle.lives.proofs.Far.{ranked, started_rank, started_len}
use Rattle.sets.specs.Members.{in_with}
use Rattle.counting.specs.CountingLaws.{ended_all}
use Rattle.ranks.specs.Ranks.{CountsOf, RanksOf}
use Rattle.remains.specs.Remains.{IdleOf}
use Rattle.places.specs.Search.{IdleIn, Stops}

-- ---- the modes that write nothing

module _ (counts : List ℕ) where
  pub idle_none : IdleIn counts 0 0
  idle_none = record { exact = λ m. (λ h. absurd (in_none m h), λ h. absurd (omega (arith, h.0))) }

  module _ {k r : ℕ} (l : IdleIn counts k r) where
    -- the next one counts nothing
    pub idle_with : get_or counts k 0 ≡ 0 → IdleIn counts (k + 1) (bit_or r (2 ^ k))
    idle_with e = record { exact = λ m. (λ h. fwd m ((in_with r k m).0 h), λ h. (in_with r k m).1 (bwd m h (cmp m k))) }
      where
        fwd : (m : ℕ) → In m r ⊎ (m ≡ k) → (m < k + 1) × (get_or counts m 0 ≡ 0)
        fwd m (inl h) = let (less, z) = (l.exact m).0 h in (omega (arith, less), z)
        fwd m (inr d) = (omega arith, subst (λ (x : ℕ). get_or counts x 0 ≡ 0) (sym d) e)

        bwd : (m : ℕ) → (m < k + 1) × (get_or counts m 0 ≡ 0) → Cmp m k → In m r ⊎ (m ≡ k)
        bwd m h (Cmp.less d) = inl ((l.exact m).1 (d, h.1))
        bwd m h (Cmp.same d) = inr d
        bwd m h (Cmp.more d) = absurd (omega (arith, h.0))

    -- or something
    pub idle_without : (get_or counts k 0 ≡ 0 → ⊥) → IdleIn counts (k + 1) r
    idle_without n = record { exact = λ m. (fwd m, λ h. bwd m h (cmp m k)) }
      where
        fwd : (m : ℕ) → In m r → (m < k + 1) × (get_or counts m 0 ≡ 0)
        fwd m h = let (less, z) = (l.exact m).0 h in (omega (arith, less), z)

        bwd : (m : ℕ) → (m < k + 1) × (get_or counts m 0 ≡ 0) → Cmp m k → In m r
        bwd m h (Cmp.less d) = (l.exact m).1 (d, h.1)
        bwd m h (Cmp.same d) = absurd (n (subst (λ (x : ℕ). get_or counts x 0 ≡ 0) d h.1))
        bwd m h (Cmp.more d) = absurd (omega (arith, h.0))

pub idle_is : (T : Table) (c : ℕ) (counts : List ℕ) (r : ℕ) → CountsOf T c counts → IdleIn counts 32 r → IdleOf T c r
idle_is T c counts r count l m = (
  λ h. let (less, z) = (l.exact m).0 h in (less, sym (count m less) ∙ z),
  λ (less, z). (l.exact m).1 (less, count m less ∙ z),
)

-- ---- how far

-- one write more starts before x
pub stops_on : (starts : List ℕ) (m x s far r : ℕ) → s ≤ far → far ≤ r → ((g : ℕ) → far ≤ s + g → s + g < r → get_or starts (32 * m + g) 0 < x)
    → get_or starts (32 * m + (r - s)) 0 < x → (g : ℕ) → far ≤ s + g → s + g < r + 1 → get_or starts (32 * m + g) 0 < x
stops_on starts m x s far r low up each here g a b = go (cmp (s + g) r)
  where
    go : Cmp (s + g) r → get_or starts (32 * m + g) 0 < x
    go (Cmp.less l) = each g a l
    go (Cmp.same e) = let at : r - s ≡ g = omega arith in subst (λ (y : ℕ). get_or starts (32 * m + y) 0 < x) at here
    go (Cmp.more l) = absurd (omega arith)

pub stops_high : {starts : List ℕ} {m k x s far r n : ℕ} → Stops starts m k x s far r → far ≤ s + n → k ≤ n → r ≤ s + n
stops_high {k = k} {s = s} {far = far} {r = r} {n = n} p h g = go p.high
  where
    go : (r ≡ far) ⊎ (r ≤ s + k) → r ≤ s + n
    go (inl e) = omega arith
    go (inr e) = omega arith

module _ (T : Table) (ok : Accepted T) (c : ℕ) (starts : List ℕ) (ranks : RanksOf T c 32 starts) (m k x s far r : ℕ) (small : m < 32) (count : k ≡ writes_in T c m)
    (low : s ≤ far) (p : Stops starts m k x s far r) where
  -- the entry of the (g + 1)-th write is below x exactly when more than g have started
  entry : (g : ℕ) → g < k → get_or starts (32 * m + g) 0 < x ↔ g < started_in T c m x
  entry g h =
      let (i, w, e) = ranked T ok c m (suc g) (omega arith) (omega (arith, ended_all T ok c m T.len (omega arith))) in
      let at : get_or starts (32 * m + g) 0 ≡ (op T i).start = ranks.each m g i small w e in
      (λ l. (started_rank T ok c m x g i w e).0 (omega arith), λ l. omega (arith, (started_rank T ok c m x g i w e).1 l))

  started_few : started_in T c m x ≤ k
  started_few = omega (arith, started_len T ok c m x, ended_all T ok c m T.len (omega arith))

  -- what the mode shows is reached
  pub stops_reach : s + started_in T c m x ≤ r
  stops_reach = go (dec_lt r (s + started_in T c m x))
    where
      go : Dec (r < s + started_in T c m x) → s + started_in T c m x ≤ r
      go (no h) = omega arith
      go (yes h) = absurd (omega (arith, (entry (r - s) (omega (arith, started_few, p.low))).1 (omega (arith, p.low)), p.stop (omega (arith, started_few))))

  -- and nothing beyond it
  pub stops_least : (z : ℕ) → far ≤ z → s + started_in T c m x ≤ z → r ≤ z
  stops_least z h g = go (dec_lt far r) p.high
    where
      go : Dec (far < r) → (r ≡ far) ⊎ (r ≤ s + k) → r ≤ z
      go (no l) e = omega (arith, p.low)
      go (yes l) (inl e) = absurd (omega arith)
      go (yes l) (inr e) =
          omega (arith, (entry (r - suc s) (omega arith)).0 (p.each (r - suc s) (omega arith) (omega arith)))

pub farther_none : (T : Table) (c s : ℕ) (f : ℕ → ℕ) (far : ℕ) → Farther T c s f 0 far far
farther_none T c s f far = record { low = omega arith; each = λ b h. absurd (omega arith); least = λ z h g. h }

pub farther_more : (T : Table) (ok : Accepted T) (c : ℕ) (starts : List ℕ) → RanksOf T c 32 starts → (f : ℕ → ℕ) (m k s far to r : ℕ) → m < 32
    → k ≡ writes_in T c m → s ≤ far → Farther T c s f m far to → Stops starts m k (f m) s to r → Farther T c s f (m + 1) far r
farther_more T ok c starts ranks f m k s far to r small count low p q =
    record {
      low = omega (arith, p.low, q.low);
      each = λ b h. each b h (cmp b m);
      least = λ z h g. stops_least T ok c starts ranks m k (f m) s to r small count up q z (p.least z h (λ b l. g b (omega arith))) (g m (omega arith));
    }
  where
    up : s ≤ to
    up = omega (arith, p.low)

    each : (b : ℕ) → b < m + 1 → Cmp b m → s + started_in T c b (f b) ≤ r
    each b h (Cmp.less l) = omega (arith, p.each b l, q.low)
    each b h (Cmp.same e) =
        subst (λ (y : ℕ). s + started_in T c y (f y) ≤ r) (sym e) (stops_reach T ok c starts ranks m k (f m) s to r small count up q)
    each b h (Cmp.more l) = absurd (omega arith)
