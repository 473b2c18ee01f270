-- How entries are raised one after the other, and what becomes of a row: what comes fresh, what is handed on, and when nothing is new.
-- Assumes nothing.
use Rattle.std.specs.Prelude.{ℕ, zero, suc, ◌+◌, ◌-◌, ◌*◌, ◌%◌, ◌^◌, ◌<◌, ◌≤◌, max, ◌≡◌, refl, Bool, true, false, cond, List, ◌⊎◌, length, get_or, set, replicate, take}
use Rattle.std.specs.List.{sum_by}
use Rattle.std.proofs.lemmas.List.{take_all}
use Rattle.std.proofs.lemmas.List.Sums.{sum_by_more}
use native.Mathlib.Numerals.{add-one}
use Rattle.std.proofs.Common.{sym, ap, subst, ◌∙◌, inl, inr, arith, length-set, get_or-set_same, get_or-set_other}
use Rattle.std.proofs.Math.Path.{subst⁻¹}
use Rattle.std.proofs.Math.Decide.{ℕ_discrete}
use Rattle.std.proofs.lemmas.List.{get_or-replicate}
use Rattle.rules.specs.Sets.{has, In, Within}
use Rattle.rules.specs.Places.{sum}
use Rattle.rules.specs.Table.{Table, Turn, Accepted}
use Rattle.theory.specs.Tests.{without}
use Rattle.theory.proofs.Order.{Cmp, cmp}
use Rattle.theory.proofs.Sets.{in_none, in_without, in_single}
use Rattle.sets.specs.Members.{Past, past_none, past_all, past_more, rest_within, in_rest}
use Rattle.lives.specs.Left.{Most, IsRow, Low}
use Rattle.lives.proofs.Sums.{sum_le, sum_lt, sum_most}
use Rattle.lives.proofs.Rows.{most_none, most_as, Fresh, fresh_sound, row_made, idle_sound}
use Rattle.remains.specs.Remains.{Lifted, Spread, FollowsOf, IdleOf, RingOf, KeepsSound, PassedOn, Settled}

-- ---- the entries of a set

-- those that were visited are raised, the others are as before
pub record Lifting (modes x left : ℕ) (old new : List ℕ) : Type 0 where
  pub inside : Within left modes
  pub long : length new ≡ length old
  pub done : (b : ℕ) → (In b left → ⊥) → get_or new b 0 ≡ cond (has modes b) (max (get_or old b 0) x) (get_or old b 0)
  pub kept : (b : ℕ) → In b left → get_or new b 0 ≡ get_or old b 0

pub lifting_none : (modes x : ℕ) (old : List ℕ) → Lifting modes x modes old old
lifting_none modes x old = record { inside = λ b h. h; long = refl; done = λ b n. go b (has modes b) n; kept = λ b h. refl }
  where
    go : (b : ℕ) (t : Bool) → (t ≡ true → ⊥) → get_or old b 0 ≡ cond t (max (get_or old b 0) x) (get_or old b 0)
    go b true n = absurd (n refl)
    go b false n = refl

module _ {modes x left : ℕ} {old new : List ℕ} (m : ℕ) (here : In m left) (low : m < length new) (l : Lifting modes x left old new) where
  abbrev after : List ℕ
  after = set new m (max (get_or new m 0) x)

  same : get_or after m 0 ≡ max (get_or old m 0) x
  same = get_or-set_same new m (max (get_or new m 0) x) 0 low ∙ rw (l.kept m here)

  other : (b : ℕ) → (b ≡ m → ⊥) → get_or after b 0 ≡ get_or new b 0
  other b n = get_or-set_other new m b (max (get_or new m 0) x) 0 n

  now_done : (b : ℕ) → (In b (without left (2 ^ m)) → ⊥) → Dec (b ≡ m) → get_or after b 0 ≡ cond (has modes b) (max (get_or old b 0) x) (get_or old b 0)
  now_done b n (yes e) =
      subst⁻¹ (λ (k : ℕ). get_or after k 0 ≡ cond (has modes k) (max (get_or old k 0) x) (get_or old k 0)) e (rw (l.inside m here) same)
  now_done b n (no d) = other b d ∙ l.done b (λ h. go ((in_rest left m here b).0 h))
    where
      go : (b ≡ m) ⊎ In b (without left (2 ^ m)) → ⊥
      go (inl e) = d e
      go (inr h) = n h

  pub lifting_more : Lifting modes x (without left (2 ^ m)) old after
  lifting_more =
      record {
        inside = rest_within modes left m l.inside here;
        long = length-set new m (max (get_or new m 0) x) ∙ l.long;
        done = λ b n. now_done b n (ℕ_discrete b m);
        kept = λ b h. let (x, n) = (in_without b left (2 ^ m)).0 h in other b (λ e. n ((in_single b m).1 e)) ∙ l.kept b x;
      }

pub lifting_all : {modes x : ℕ} {old new : List ℕ} → Lifting modes x 0 old new → Lifted modes x old new
lifting_all l = record { long = l.long; each = λ b h. l.done b (in_none b) }

-- a raised entry is the larger of the two: not below either, and within whatever both are
module _ {modes x : ℕ} {old new : List ℕ} (l : Lifted modes x old new) (b : ℕ) (h : b < 32) where
  lifted_up : get_or old b 0 ≤ get_or new b 0
  lifted_up = subst⁻¹ (λ (y : ℕ). get_or old b 0 ≤ y) (l.each b h) (go (has modes b))
    where
      go : (t : Bool) → get_or old b 0 ≤ cond t (max (get_or old b 0) x) (get_or old b 0)
      go true = omega arith
      go false = omega arith

  lifted_to : In b modes → x ≤ get_or new b 0
  lifted_to i = let e : get_or new b 0 ≡ max (get_or old b 0) x = rw i at (l.each b h) in omega arith

  lifted_least : (z : ℕ) → get_or old b 0 ≤ z → (In b modes → x ≤ z) → get_or new b 0 ≤ z
  lifted_least z k f = subst⁻¹ (λ (y : ℕ). y ≤ z) (l.each b h) (go (has modes b) f)
    where
      go : (t : Bool) → (t ≡ true → x ≤ z) → cond t (max (get_or old b 0) x) (get_or old b 0) ≤ z
      go true f = omega (arith, f refl)
      go false f = k

pub lifted_low : {modes x : ℕ} {old new : List ℕ} → Lifted modes x old new → x ≤ 1000 → Low old 32 → Low new 32
lifted_low l h low b k = lifted_least l b k 1000 (low b k) (λ i. h)

-- no entry is below 0
pub lifted_none : (modes : ℕ) (old : List ℕ) → Lifted modes 0 old old
lifted_none modes old = record { long = refl; each = λ b h. go b (has modes b) }
  where
    go : (b : ℕ) (t : Bool) → get_or old b 0 ≡ cond t (max (get_or old b 0) 0) (get_or old b 0)
    go b true = omega arith
    go b false = refl

-- ---- what comes fresh
module _ (ring : List ℕ) (slot : ℕ) (follow : List ℕ) (q : ℕ) where
  abbrev From : ℕ → ℕ → ℕ → Type 0
  From n b y = (m : ℕ) × (m < n) × In b (get_or follow m 0) × (y ≡ get_or ring (32 * slot + m) 0 - q)

  pub spread_none : Spread ring slot follow q 0 (replicate 32 0)
  spread_none = record { each = λ b l. rw (get_or-replicate {A = ℕ} 32 b 0 0 l) (most_none (λ y (m, h, i, e). omega arith)) }

  pub spread_more : {n : ℕ} {row next : List ℕ} → Spread ring slot follow q n row → Lifted (get_or follow n 0) (get_or ring (32 * slot + n) 0 - q) row next
      → Spread ring slot follow q (n + 1) next
  spread_more {n} {row} {next} s l = record { each = λ b h. record { most = up b h; least = λ z bound. down b h z bound } }
    where
      up : (b : ℕ) → b < 32 → (y : ℕ) → From (n + 1) b y → y ≤ get_or next b 0
      up b h y (m, k, i, e) = go (cmp m n)
        where
          go : Cmp m n → y ≤ get_or next b 0
          go (Cmp.less j) = omega (arith, (s.each b h).most y (m, j, i, e), lifted_up l b h)
          go (Cmp.same j) = subst⁻¹ (λ (w : ℕ). w ≤ get_or next b 0) (rw j at e) (lifted_to l b h (rw j at i))
          go (Cmp.more j) = absurd (omega arith)

      down : (b : ℕ) → b < 32 → (z : ℕ) → ((y : ℕ) → From (n + 1) b y → y ≤ z) → get_or next b 0 ≤ z
      down b h z bound =
          lifted_least l b h z
          ((s.each b h).least z (λ y (m, k, i, e). bound y (m, omega arith, i, e)))
          (λ i. bound _ (n, omega arith, i, refl))

-- ---- what is handed on

-- the modes that were visited have handed on what they had
pub record Passing (follow : List ℕ) (idle q left : ℕ) (old new : List ℕ) : Type 0 where
  pub inside : Within left idle
  pub long : length new ≡ 32
  pub low : Low new 32
  pub above : (b : ℕ) → b < 32 → get_or old b 0 ≤ get_or new b 0
  pub hands : (m b : ℕ) → Past idle left m → m < 32 → b < 32 → In b (get_or follow m 0) → get_or old m 0 - q ≤ get_or new b 0
  pub sound : KeepsSound follow idle q old new

pub passing_none : (follow : List ℕ) (idle q : ℕ) (row : List ℕ) → length row ≡ 32 → Low row 32 → Passing follow idle q idle row row
passing_none follow idle q row long low =
    record {
      inside = λ m h. h;
      long = long;
      low = low;
      above = λ b h. omega arith;
      hands = λ m b p. absurd (past_none idle m p);
      sound = λ T c s ok turns none sound. sound;
    }

module _ {follow : List ℕ} {idle q left : ℕ} {old row next : List ℕ} (m : ℕ) (here : In m left) (small : m < 32)
    (p : Passing follow idle q left old row) (l : Lifted (get_or follow m 0) (get_or row m 0 - q) row next)
  where
    handed : (j b : ℕ) → Past idle left j ⊎ (j ≡ m) → j < 32 → b < 32 → In b (get_or follow j 0) → get_or old j 0 - q ≤ get_or next b 0
    handed j b (inl x) k h i = omega (arith, p.hands j b x k h i, lifted_up l b h)
    handed j b (inr e) k h i =
        subst⁻¹ (λ (n : ℕ). get_or old n 0 - q ≤ get_or next b 0) e (omega (arith, p.above m small, lifted_to l b h (rw e at i)))

    still_sound : KeepsSound follow idle q old next
    still_sound T c s ok turns none first b z h bound =
        let sound = p.sound T c s ok turns none first in
        lifted_least l b h z (sound b z h bound)
        (λ i.
        let most : get_or row m 0 ≤ z + q
        = sound m (z + q) small (idle_sound T ok q c s m b z ((none m).0 (p.inside m here)).1 ((turns m b small).0 i) bound) in
        omega arith)

    pub passing_more : Passing follow idle q (without left (2 ^ m)) old next
    passing_more =
        record {
          inside = rest_within idle left m p.inside here;
          long = l.long ∙ p.long;
          low = lifted_low l (omega (arith, p.low m small)) p.low;
          above = λ b h. omega (arith, p.above b h, lifted_up l b h);
          hands = λ j b x. handed j b ((past_more idle left m p.inside here j).0 x);
          sound = still_sound;
        }

pub passing_all : {follow : List ℕ} {idle q : ℕ} {old new : List ℕ} → Passing follow idle q 0 old new → PassedOn follow idle q old new
passing_all {idle = idle} p =
    record { long = p.long; low = p.low; above = p.above; hands = λ m b i. p.hands m b (past_all idle m i); sound = p.sound }

-- ---- until nothing is new

abbrev pub entries : List ℕ → ℕ → ℕ
entries row b = get_or row b 0

pub low_sum : (row : List ℕ) (n : ℕ) → Low row n → sum (entries row) n ≤ n * 1000
low_sum row n low = sum_most (entries row) n 1000 low

-- the sum of a row as it is added up
sum_front : (row : List ℕ) (n : ℕ) → n ≤ length row → sum_by (λ x. x) (take n row) ≡ sum (entries row) n
unfolding sum
sum_front row zero h = refl
sum_front row (suc n) h =
    rw add-one at (sum_by_more (λ x. x) row n 0 (omega arith)) ∙ ap (λ (m : ℕ). m + get_or row n 0) (sum_front row n (omega arith))

pub sum_row : (row : List ℕ) → length row ≡ 32 → sum_by (λ x. x) row ≡ sum (entries row) 32
sum_row row long = ap (sum_by (λ x. x)) (sym (take_all 32 row (omega arith))) ∙ sum_front row 32 (omega arith)

-- the row was passed on any number of times
pub record Settling (follow : List ℕ) (idle q : ℕ) (old new : List ℕ) : Type 0 where
  pub long : length new ≡ 32
  pub low : Low new 32
  pub above : (b : ℕ) → b < 32 → get_or old b 0 ≤ get_or new b 0
  pub sound : KeepsSound follow idle q old new

pub settling_none : (follow : List ℕ) (idle q : ℕ) (row : List ℕ) → length row ≡ 32 → Low row 32 → Settling follow idle q row row
settling_none follow idle q row long low =
    record { long = long; low = low; above = λ b h. omega arith; sound = λ T c s ok turns none sound. sound }

module _ {follow : List ℕ} {idle q : ℕ} {old row next : List ℕ} (s : Settling follow idle q old row) (p : PassedOn follow idle q row next) where
  pub settling_more : Settling follow idle q old next
  settling_more =
      record {
        long = p.long;
        low = p.low;
        above = λ b h. omega (arith, s.above b h, p.above b h);
        sound = λ T c n ok turns none sound. p.sound T c n ok turns none (s.sound T c n ok turns none sound);
      }

  -- no entry falls, so a sum that is the same has the same entries
  pub settling_all : sum (entries next) 32 ≡ sum (entries row) 32 → Settled follow idle q old next
  settling_all e =
      record {
        long = settling_more.long;
        low = settling_more.low;
        above = settling_more.above;
        hands = λ m b i k h x. omega (arith, p.hands m b i k h x, still m k (cmp (get_or row m 0) (get_or next m 0)), p.above m k);
        sound = settling_more.sound;
      }
    where
      still : (m : ℕ) → m < 32 → Cmp (get_or row m 0) (get_or next m 0) → get_or next m 0 ≤ get_or row m 0
      still m k (Cmp.less d) = absurd (omega (arith, sum_lt (entries row) (entries next) 32 m p.above k d))
      still m k (Cmp.same d) = omega arith
      still m k (Cmp.more d) = omega arith

-- the sum does not fall
pub passed_sum : {follow : List ℕ} {idle q : ℕ} {old new : List ℕ} → PassedOn follow idle q old new → sum (entries old) 32 ≤ sum (entries new) 32
passed_sum {old = old} {new = new} p = sum_le (entries old) (entries new) 32 p.above

-- ---- the row
pub settled_row : {ring : List ℕ} {slot : ℕ} {follow : List ℕ} {q idle : ℕ} {first row : List ℕ} → Spread ring slot follow q 32 first
    → Settled follow idle q first row → (T : Table) (c s : ℕ) → Accepted T → FollowsOf T follow → IdleOf T c idle → RingOf T q c s slot ring
    → IsRow T q c s (entries row)
settled_row {ring} {slot} {follow} {q} {idle} {first} {row} f d T c s ok turns none r =
    row_made T ok q c s waits r.waits (entries first) fresh (entries row) d.above
    (λ m b k h e t. d.hands m b ((none m).1 (k, e)) k h ((turns m b k).1 t))
    (d.sound T c s ok turns none (fresh_sound T ok q c s waits r.waits (entries first) fresh))
  where
    waits : ℕ → ℕ → ℕ
    waits t m = get_or ring (32 * (t % 33) + m) 0

    fresh : (b : ℕ) → b < 32 → Most (Fresh T ok q c (waits s) b) (get_or first b 0)
    fresh b h =
        subst (λ (n : ℕ). Most (λ y. (m : ℕ) × (m < 32) × Turn T m b × (y ≡ get_or ring (32 * n + m) 0 - q)) (get_or first b 0)) r.stands
        (most_as
        (λ y. (λ (m, k, i, e). (m, k, (turns m b k).0 i, e), λ (m, k, t, e). (m, k, (turns m b k).1 t, e)))
        (f.each b h))
