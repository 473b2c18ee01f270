-- Document 02, No. 9: an operation by its own form, a table without its holds, the places of fields of two lengths, and demand 3 with no word on holds.
-- Assumes nothing.
use Rattle.std.specs.Prelude.{ℕ, zero, suc, ◌+◌, ◌<◌, ◌≤◌, ◌≡◌, Bool, false, List, map, ◌⊎◌}
use Rattle.rules.specs.Sets.{Within}
use Rattle.rules.specs.Table.{Op, Table, nops, op, followers, end_of, held_to}
use Rattle.rules.specs.Bytes.{op_size, settles}
use Rattle.rules.specs.Judge.{op_wrong, with_ops}

-- where an operation's field has no hold, its hold is 0
abbrev pub Plain : Bool → Op → Type 0
Plain held o = held ≡ false → o.hold ≡ 0

-- which number is wrong first of an operation in the form that it is written in, and how many bytes that has
abbrev pub step_wrong : Table → Op → ℕ
step_wrong T o = op_wrong T (settles o) o

abbrev pub op_width : Op → ℕ
op_width o = 3 + op_size (settles o)

-- "a 20-byte field with hold 0 is RANGE and blames the hold; so does a hold that alone runs past p": its hold is wrong, and no number before it
pub record HoldWrong (T : Table) (o : Op) : Type 0 where
  pub fits : o.start < 65536
  pub lasts : 1 ≤ o.dur
  pub ends : end_of o ≤ T.len
  pub wrong : (o.hold < 1) ⊎ (T.len < held_to o)

-- field i of those that begin at a place, each behind the one before it
unfoldable pub place_from : (List ℕ → ℕ → ℕ) → List ℕ → ℕ → ℕ → ℕ
place_from size s at zero = at
place_from size s at (suc i) = place_from size s (at + 3 + size s at) i

-- an operation, and a table, with no hold
abbrev pub unheld : Op → Op
unheld o =
    record {
      start = o.start;
      dur = o.dur;
      hold = 0;
      boards = o.boards;
      reads = o.reads;
      writes = o.writes;
      modes = o.modes;
    }

abbrev pub without_holds : Table → Table
without_holds T = with_ops T (map unheld T.ops)

-- ---- "In demand 3 the second table has no longer holds either": demand 3's relation without this clause, `Better` of `rules` with no word on holds

pub record OpBetterButHold (o u : Op) : Type 0 where
  pub start : u.start ≡ o.start
  pub reads : u.reads ≡ o.reads
  pub writes : u.writes ≡ o.writes
  pub modes : u.modes ≡ o.modes
  pub dur : u.dur ≤ o.dur
  pub boards : Within u.boards o.boards

pub record BetterButHolds (first second : Table) : Type 0 where
  pub len : second.len ≡ first.len
  pub count : nops second ≡ nops first
  pub each : (i : ℕ) → i < nops first → OpBetterButHold (op first i) (op second i)
  pub firsts : Within second.first first.first
  pub turns : (a : ℕ) → Within (followers second a) (followers first a)
  pub decider : second.decider ≡ first.decider
