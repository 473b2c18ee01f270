-- Which operations may meet another on a board in a later cycle.
-- Assumes nothing.
use Rattle.std.specs.Prelude.{ℕ, ◌<◌, ◌≡◌, List, ◌↔◌, get_or}
use Rattle.rules.specs.Sets.{In, Share}
use Rattle.columns.specs.Columns.{op_by}
use Rattle.columns.specs.declared.Dated.{Dated}
use Rattle.marks.specs.Marks.{Near}

-- operation j shares a board with i, and starts one cycle of q later before i has let go of it
abbrev pub MayMeet : List Dated → ℕ → ℕ → ℕ → Type 0
MayMeet cols i q j = Share (op_by cols i).boards (op_by cols j).boards × Near (op_by cols i) (op_by cols j) 0 q

-- r has those of the first k operations that may meet operation i
pub record LaterOf (cols : List Dated) (i q k r : ℕ) : Type 0 where
  pub exact : (j : ℕ) → In j r ↔ ((j < k) × MayMeet cols i q j)

-- the first k sets have all that may meet their operations
pub record AllLater (cols : List Dated) (q k : ℕ) (later : List ℕ) : Type 0 where
  pub each : (i : ℕ) → i < k → LaterOf cols i q 32 (get_or later i 0)

-- no set has a member
abbrev pub AllEmpty : List ℕ → Type 0
AllEmpty later = (i : ℕ) → i < 32 → get_or later i 0 ≡ 0
