-- The numbers that are tested, as the rules have them.
-- Assumes nothing.
use Rattle.std.specs.Prelude.{ℕ, Bool, cond, [], ◌++◌, unwrap_or}
use Rattle.rules.specs.Table.{Op, nobody, Table}
use Rattle.rules.specs.Judge.{wrong_from, first_wrong, set_ok, date_ranges, hold_ranges, used_ranges}
use Rattle.ranges.specs.declared.in_range.Counts.{Counts}
use Rattle.ranges.specs.declared.Wide.{Wide}

-- an operation's numbers; where no hold is among them, it is 0
abbrev pub wide_of : Wide → Op
wide_of o =
    record {
      start = o.start;
      dur = o.dur;
      hold = unwrap_or o.hold 0;
      boards = o.boards;
      reads = o.reads;
      writes = o.writes;
      modes = o.modes;
    }

-- a table of this length and these counts, and nothing else
abbrev pub counted : ℕ → ℕ → ℕ → ℕ → Table
counted len boards cells modes =
    record { len = len; boards = boards; cells = cells; modes = modes; first = 0; follow = []; ops = []; decider = nobody }

abbrev pub sized : Counts → Table
sized c = counted c.len c.boards c.cells c.modes

-- which of its dates is wrong first, in a table of this length
unfoldable pub dates_of : ℕ → Bool → Op → ℕ
unfolding first_wrong
dates_of len held o = first_wrong (date_ranges (counted len 0 0 0) o ++ hold_ranges (counted len 0 0 0) held o)

-- where its sets begin in the field
abbrev pub used_at : Bool → ℕ
used_at held = cond held 9 7

-- which of its sets is wrong first, if the first of them begins at a place
unfoldable pub sets_of : Table → ℕ → Op → ℕ
unfolding wrong_from set_ok
sets_of T place o = wrong_from place (used_ranges T o)
