-- Document 01, "The table": what a table is, and when it is accepted; document 02, No. 4: who decides the mode, and No. 9: how long a board settles.
-- Assumes nothing.
use Rattle.std.specs.Prelude.{ℕ, ◌+◌, ◌^◌, ◌<◌, ◌≤◌, ◌≡◌, List, ◌⊎◌, length, get_or}
use Rattle.rules.specs.Sets.{In, Share, Overlap}

-- "An operation has a start t, a duration d ..; a set of boards ..; cells it reads; cells it writes ..; a set of modes"; with document 02, No. 9,
-- "a 16-bit hold after the duration", which is 0 where no tick is needed to settle
pub record Op : Type 0 where
  pub start : ℕ
  pub dur : ℕ
  pub hold : ℕ
  pub boards : ℕ
  pub reads : ℕ
  pub writes : ℕ
  pub modes : ℕ

-- document 02, No. 4: "An optional last field 05, length 1, gives the number of the deciding operation." A table names one, or nobody decides.
pub data Decider : Type 0 where
  nobody : Decider
  decides : (i : ℕ) → Decider

-- "table length p, in ticks", the counts of boards, cells and modes, "a set of first modes .. and for each mode the set of modes that may
-- follow", the operations, and who decides
pub record Table : Type 0 where
  pub len : ℕ
  pub boards : ℕ
  pub cells : ℕ
  pub modes : ℕ
  pub first : ℕ
  pub follow : List ℕ
  pub ops : List Op
  pub decider : Decider

-- ---- names for parts of a table

abbrev pub nops : Table → ℕ
nops T = length T.ops

-- what stands past the end of the operations: it runs in no mode
abbrev pub no_op : Op
no_op = record { start = 0; dur = 0; hold = 0; boards = 0; reads = 0; writes = 0; modes = 0 }

abbrev pub op : Table → ℕ → Op
op T i = get_or T.ops i no_op

-- the modes that may follow mode a
abbrev pub followers : Table → ℕ → ℕ
followers T a = get_or T.follow a 0

-- mode b may follow mode a: a turn
abbrev pub Turn : Table → ℕ → ℕ → Type 0
Turn T a b = In b (followers T a)

-- "An operation holds its boards and uses its cells from t up to but not including t + d.": and with document 02, No. 9, "cells, EARLY and margins
-- still go by the duration"
abbrev pub end_of : Op → ℕ
end_of o = o.start + o.dur

-- but "Boards are held until start + duration + hold"
abbrev pub held_to : Op → ℕ
held_to o = o.start + o.dur + o.hold

-- ---- clash and race

-- "Two operations clash when they share a board and a mode and overlap."
pub record Clash (o u : Op) : Type 0 where
  pub board : Share o.boards u.boards
  pub mode : Share o.modes u.modes  -- reachable or not
  pub lap : Overlap o.start (held_to o) u.start (held_to u)

-- "one writes a cell that the other reads or writes"
abbrev pub Contest : Op → Op → ℕ → Type 0
Contest o u c = (In c o.writes × (In c u.reads ⊎ In c u.writes)) ⊎ (In c o.reads × In c u.writes)

-- "They race when they share a mode and overlap and one writes a cell that the other reads or writes."
pub record Race (o u : Op) : Type 0 where
  pub mode : Share o.modes u.modes
  pub lap : Overlap o.start (end_of o) u.start (end_of u)
  pub cell : (c : ℕ) × Contest o u c

-- ---- who decides: document 02, No. 4

-- an operation that runs "in every mode", reachable or not
abbrev pub Always : Table → Op → Type 0
Always T o = (m : ℕ) → m < T.modes → In m o.modes

-- "It must run in every mode. An operation that doesn't run in every mode must start at or after its end.": operation d decides
pub record DecidedBy (T : Table) (d : ℕ) : Type 0 where
  pub is_op : d < nops T
  pub always : Always T (op T d)
  pub later : (i : ℕ) → i < nops T → (Always T (op T i) → ⊥) → end_of (op T d) ≤ (op T i).start

-- "Without the field the table reads as before": then nothing is asked
abbrev pub Decided : Table → Decider → Type 0
Decided T nobody = Unit {0}
Decided T (decides d) = DecidedBy T d

-- ---- acceptance

-- a set that is "not empty" and "names nothing beyond the table's counts"
pub record SetOf (n s : ℕ) : Type 0 where
  pub some : 0 < s
  pub small : s < 2 ^ n

-- "a start t, a duration d of at least 1, with t + d at most p; a set of boards, not empty; cells it reads; cells it writes (either set
-- may be empty, and they may meet); a set of modes, not empty"; document 02, No. 9: "start + duration + hold, which may not pass p"
pub record OpOk (T : Table) (o : Op) : Type 0 where
  pub lasts : 1 ≤ o.dur
  pub fits : held_to o ≤ T.len
  pub boards : SetOf T.boards o.boards
  pub reads : o.reads < 2 ^ T.cells
  pub writes : o.writes < 2 ^ T.cells
  pub modes : SetOf T.modes o.modes

-- The table of ranges, each set's rule, "An accepted table has neither, for any mode, reachable or not", and the decider's rule
pub record Accepted (T : Table) : Type 0 where
  pub len_low : 1 ≤ T.len
  pub len_high : T.len ≤ 1000
  pub boards_low : 1 ≤ T.boards
  pub boards_high : T.boards ≤ 16
  pub cells_high : T.cells ≤ 32
  pub modes_low : 1 ≤ T.modes
  pub modes_high : T.modes ≤ 32
  pub ops_low : 1 ≤ nops T
  pub ops_high : nops T ≤ 32
  pub firsts : SetOf T.modes T.first
  pub words : length T.follow ≡ T.modes
  pub follows : (a : ℕ) → a < T.modes → SetOf T.modes (followers T a)
  pub each : (i : ℕ) → i < nops T → OpOk T (op T i)
  pub no_clash : (i j : ℕ) → i < j → j < nops T → Clash (op T i) (op T j) → ⊥
  pub no_race : (i j : ℕ) → i < j → j < nops T → Race (op T i) (op T j) → ⊥
  pub decided : Decided T T.decider
