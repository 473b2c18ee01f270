-- The code's tables as the rules' tables, and the other way.
-- Assumes nothing.
use Rattle.std.specs.Prelude.{ℕ, ◌+◌, ◌-◌, ◌≡◌, List, ◌++◌, map, length, take, set, replicate, Option, Some, None, Result}
use Rattle.std.specs.Result.{ForOk}
use Rattle.rules.specs.Table as rules
use Rattle.rules.specs.Table.{nops}
use Rattle.rules.specs.Verdicts.{accepted, onwards}
use Rattle.rules.specs.Verdicts as verdicts
use Rattle.fields.specs.declared.Refusal.{Refusal}
use Rattle.fields.specs.Verdicts.{answered}
use Rattle.table.specs.declared.Op.{Op}
use Rattle.table.specs.declared.Table.{Table}

-- ---- from the code to the rules

abbrev pub op_of : Op → rules.Op
op_of o =
    record {
      start = o.start;
      dur = o.dur;
      hold = o.hold;
      boards = o.boards;
      reads = o.reads;
      writes = o.writes;
      modes = o.modes;
    }

abbrev pub who_of : Option ℕ → rules.Decider
who_of None = rules.nobody
who_of (Some i) = rules.decides i

-- the words and operations that count
abbrev pub table_of : Table → rules.Table
table_of t =
    record {
      len = t.len;
      boards = t.boards;
      cells = t.cells;
      modes = t.modes;
      first = t.first;
      follow = take t.modes t.follow;
      ops = map op_of (take t.count t.ops);
      decider = who_of t.decider;
    }

-- ---- from the rules to the code: what does not count is zero

abbrev pub op_in : rules.Op → Op
op_in o =
    record {
      start = o.start;
      dur = o.dur;
      hold = o.hold;
      boards = o.boards;
      reads = o.reads;
      writes = o.writes;
      modes = o.modes;
    }

abbrev pub blank_op : Op
blank_op = op_in rules.no_op

abbrev pub who_in : rules.Decider → Option ℕ
who_in rules.nobody = None
who_in (rules.decides i) = Some i

-- as many as n, filled up with d
unfoldable pub padded : {A : Type 0} → ℕ → A → List A → List A
padded n d xs = xs ++ replicate (n - length xs) d

abbrev pub table_in : rules.Table → Table
table_in T =
    record {
      len = T.len;
      boards = T.boards;
      cells = T.cells;
      modes = T.modes;
      first = T.first;
      follow = padded 32 0 T.follow;
      ops = padded 32 blank_op (map op_in T.ops);
      count = nops T;
      decider = who_in T.decider;
    }

-- the table with nothing in it
abbrev pub no_table : Table
no_table =
    record {
      len = 0;
      boards = 0;
      cells = 0;
      modes = 0;
      first = 0;
      follow = replicate 32 0;
      ops = replicate 32 blank_op;
      count = 0;
      decider = None;
    }

-- one operation more: what a store of o at the table's count, and one added to the count, make of t
abbrev pub with_op : Table → Op → Table
with_op t o =
    record {
      len = t.len;
      boards = t.boards;
      cells = t.cells;
      modes = t.modes;
      first = t.first;
      follow = t.follow;
      ops = set t.ops t.count o;
      count = t.count + 1;
      decider = t.decider;
    }

-- ---- a verdict with its table

-- r is the verdict v: the refusal with its number, a and b, or the accepted table to the last word
abbrev pub JudgedAs : verdicts.Verdict rules.Table → Result Table Refusal → Type 0
JudgedAs v r = answered r ≡ onwards v (λ T. accepted (table_in T))

-- what is judged next: a refusal stays, and a table that is accepted goes on
abbrev pub going_on : Result Table Refusal → (rules.Table → verdicts.Verdict rules.Table) → verdicts.Verdict rules.Table
going_on j f = onwards (answered j) (λ t. f (table_of t))

-- a table that is accepted is zero where nothing counts
abbrev pub Tidy : Result Table Refusal → Type 0
Tidy j = ForOk j (λ t. t ≡ table_in (table_of t))

-- ---- what the engine takes: an accepted table, with zeros where nothing counts
pub record Good (t : Table) : Type 0 where
  pub accepted : rules.Accepted (table_of t)
  pub tidy : t ≡ table_in (table_of t)
