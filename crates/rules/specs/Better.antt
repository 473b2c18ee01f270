-- Demand 3: when a second table is one of better knowledge than the first.
-- Assumes nothing.
use Rattle.std.specs.Prelude.{ℕ, ◌<◌, ◌≤◌, ◌≡◌}
use Rattle.rules.specs.Sets.{Within}
use Rattle.rules.specs.Table.{Op, Table, nops, op, followers}

-- "the same starts, cells read, cells written and mode sets. Let no step of the second last longer than in the first or use a board it did
-- not use there": o is the first table's step, u the second's; with document 02, No. 9, "the second table has no longer holds either".
pub record OpBetter (o u : Op) : Type 0 where
  pub start : u.start ≡ o.start
  pub reads : u.reads ≡ o.reads
  pub writes : u.writes ≡ o.writes
  pub modes : u.modes ≡ o.modes
  pub dur : u.dur ≤ o.dur
  pub hold : u.hold ≤ o.hold
  pub boards : Within u.boards o.boards

-- "two accepted tables with the same length and, step for step, ..; and let the second permit no turn and no first mode that the first
-- doesn't"; with document 02, No. 4, "both tables of demand 3 name the same decider". That both are accepted is no part of it: the theorem
-- asks for it (`better_right`, in the crate `theory`).
pub record Better (first second : Table) : Type 0 where
  pub len : second.len ≡ first.len
  pub count : nops second ≡ nops first
  pub each : (i : ℕ) → i < nops first → OpBetter (op first i) (op second i)
  pub firsts : Within second.first first.first
  pub turns : (a : ℕ) → Within (followers second a) (followers first a)
  pub decider : second.decider ≡ first.decider
