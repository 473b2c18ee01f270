-- The modes that write nothing, and how far a mode lets the rows reach.
-- Assumes nothing.
use Rattle.std.specs.Prelude.{ℕ, ◌+◌, ◌-◌, ◌*◌, ◌<◌, ◌≤◌, ◌≡◌, List, ◌↔◌, ◌⊎◌, get_or}
use Rattle.rules.specs.Sets.{In}
use Rattle.rules.specs.Table.{Table, Accepted}
use Rattle.theory.specs.Walks.{IsReach}
use Rattle.lives.specs.Left.{Searched}
use Rattle.columns.specs.Columns.{Columns}
use Rattle.columns.specs.declared.Dated.{Dated}
use Rattle.counting.specs.Counting.{ReadersOf, WritersOf}
use Rattle.remains.specs.Remains.{FollowsOf, RingOf}

-- r has those of the first n modes that count nothing
pub record IdleIn (counts : List ℕ) (n r : ℕ) : Type 0 where
  pub exact : (m : ℕ) → In m r ↔ ((m < n) × (get_or counts m 0 ≡ 0))

-- from far on, as long as there are writes of the mode, k in all, and they start before x
pub record Stops (starts : List ℕ) (m k x s far r : ℕ) : Type 0 where
  pub low : far ≤ r
  pub high : (r ≡ far) ⊎ (r ≤ s + k)
  pub each : (g : ℕ) → far ≤ s + g → s + g < r → get_or starts (32 * m + g) 0 < x
  pub stop : r < s + k → x ≤ get_or starts (32 * m + (r - s)) 0

-- ---- a cell of a table, as it is asked for: by columns, by the followers as they are lent, by the modes that a run can reach, and by the operations
-- that write and read it
pub record CellOf (T : Table) (c : ℕ) (cols : List Dated) (follow : List ℕ) (R w r : ℕ) : Type 0 where
  pub accepted : Accepted T
  pub columns : Columns T cols
  pub follows : FollowsOf T follow
  pub reach : IsReach T R
  pub writers : WritersOf T c w
  pub readers : ReadersOf T c r

-- what is known before row s, which stands in the ring at `slot`
pub record Known (T : Table) (q c s far slot : ℕ) (ring : List ℕ) : Type 0 where
  pub searched : Searched T q c s far
  pub waits : RingOf T q c s slot ring
