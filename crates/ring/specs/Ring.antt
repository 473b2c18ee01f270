-- What a row leaves in the ring.
-- Assumes nothing.
use Rattle.std.specs.Prelude.{ℕ, ◌+◌, ◌*◌, ◌%◌, ◌<◌, ◌≤◌, max, ◌≡◌, cond, List, eqb, length, get_or, set}

-- x waits in the column of mode m for the row k behind slot, and the row slot is done
abbrev pub carried_by : List ℕ → ℕ → ℕ → ℕ → ℕ → List ℕ
carried_by ring m slot k x =
    let at = 32 * ((slot + k) % 33) + m in set (set ring at (max (get_or ring at 0) x)) (32 * slot + m) 0

-- the entry of row j in a column where x waits for the row k behind slot
unfoldable pub waits : ℕ → ℕ → ℕ → ℕ → ℕ → ℕ
waits slot k x j old = cond (eqb j slot) 0 (cond (eqb j ((slot + k) % 33)) (max old x) old)

-- so in the first n columns, and the others are as before
pub record Carried (row counts : List ℕ) (slot n : ℕ) (old new : List ℕ) : Type 0 where
  pub long : length new ≡ length old
  pub each : (j m : ℕ) → j < 33 → m < n → get_or new (32 * j + m) 0 ≡ waits slot (get_or counts m 0) (get_or row m 0) j (get_or old (32 * j + m) 0)
  pub rest : (j m : ℕ) → j < 33 → n ≤ m → m < 32 → get_or new (32 * j + m) 0 ≡ get_or old (32 * j + m) 0
