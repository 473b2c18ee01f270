-- How a row is made: what is raised, what waits and comes fresh, what is handed on.
-- Assumes nothing.
use Rattle.std.specs.Prelude.{ℕ, ◌+◌, ◌-◌, ◌*◌, ◌%◌, ◌<◌, ◌≤◌, max, ◌≡◌, cond, List, ◌↔◌, length, get_or}
use Rattle.rules.specs.Sets.{has, In}
use Rattle.rules.specs.Table.{Table, Turn, Accepted}
use Rattle.lives.specs.Near.{writes_in}
use Rattle.lives.specs.Left.{Most, IsRing, Sound, Low}

-- the entries of a set are raised to x
pub record Lifted (modes x : ℕ) (old new : List ℕ) : Type 0 where
  pub long : length new ≡ length old
  pub each : (b : ℕ) → b < 32 → get_or new b 0 ≡ cond (has modes b) (max (get_or old b 0) x) (get_or old b 0)

-- each entry is the most of what waits at the first n modes that it follows, less a period
pub record Spread (ring : List ℕ) (slot : ℕ) (follow : List ℕ) (q n : ℕ) (row : List ℕ) : Type 0 where
  pub each : (b : ℕ) → b < 32 → Most (λ y. (m : ℕ) × (m < n) × In b (get_or follow m 0) × (y ≡ get_or ring (32 * slot + m) 0 - q)) (get_or row b 0)

-- ---- of a table

-- the list has the turns of T
abbrev pub FollowsOf : Table → List ℕ → Type 0
FollowsOf T follow = (m b : ℕ) → m < 32 → In b (get_or follow m 0) ↔ Turn T m b

-- the modes in which nothing writes cell c
abbrev pub IdleOf : Table → ℕ → ℕ → Type 0
IdleOf T c idle = (m : ℕ) → In m idle ↔ ((m < 32) × (writes_in T c m ≡ 0))

-- the ring is what waits for row s and the 32 behind it; row s stands at `slot`
pub record RingOf (T : Table) (q c s slot : ℕ) (ring : List ℕ) : Type 0 where
  pub stands : slot ≡ s % 33
  pub waits : IsRing T q c s (λ t m. get_or ring (32 * (t % 33) + m) 0)

-- whatever the table, what bounds all that is left bounds the new row, if it bounds the old one
abbrev pub KeepsSound : List ℕ → ℕ → ℕ → List ℕ → List ℕ → Type 0
KeepsSound follow idle q old new =
    (T : Table) (c s : ℕ) → Accepted T → FollowsOf T follow → IdleOf T c idle → Sound T q c s (λ b. get_or old b 0) → Sound T q c s (λ b. get_or new b 0)

-- ---- the modes of a set hand on what they have

pub record PassedOn (follow : List ℕ) (idle q : ℕ) (old new : List ℕ) : Type 0 where
  pub long : length new ≡ 32
  pub low : Low new 32
  pub above : (b : ℕ) → b < 32 → get_or old b 0 ≤ get_or new b 0
  pub hands : (m b : ℕ) → In m idle → m < 32 → b < 32 → In b (get_or follow m 0) → get_or old m 0 - q ≤ get_or new b 0
  pub sound : KeepsSound follow idle q old new

-- until nothing is new
pub record Settled (follow : List ℕ) (idle q : ℕ) (old new : List ℕ) : Type 0 where
  pub long : length new ≡ 32
  pub low : Low new 32
  pub above : (b : ℕ) → b < 32 → get_or old b 0 ≤ get_or new b 0
  pub hands : (m b : ℕ) → In m idle → m < 32 → b < 32 → In b (get_or follow m 0) → get_or new m 0 - q ≤ get_or new b 0
  pub sound : KeepsSound follow idle q old new
