-- A table's operations by their dates: what an entry is of an operation.
-- Assumes nothing.
use Rattle.std.specs.Prelude.{ℕ, ◌-◌, ◌<◌, ◌≤◌, ◌≡◌, List, get_or, set}
use Rattle.rules.specs.Table.{Op, Table, no_op, op, end_of, held_to}
use Rattle.table.specs.Tables.{op_of, blank_op}
use Rattle.table.specs.declared.Op as code
use Rattle.columns.specs.declared.Dated.{Dated}

-- the operation that has these dates
abbrev pub op_dated : Dated → Op
op_dated d =
    record {
      start = d.start;
      dur = d.end - d.start;
      hold = d.held - d.end;
      boards = d.boards;
      reads = d.reads;
      writes = d.writes;
      modes = d.modes;
    }

-- the dates of an operation
abbrev pub dated : Op → Dated
dated o =
    record {
      start = o.start;
      end = end_of o;
      held = held_to o;
      boards = o.boards;
      reads = o.reads;
      writes = o.writes;
      modes = o.modes;
    }

-- entry i; past the end it is that of no operation
abbrev pub dates : List Dated → ℕ → Dated
dates cols i = get_or cols i (dated no_op)

-- operation i by its dates
abbrev pub op_by : List Dated → ℕ → Op
op_by cols i = op_dated (dates cols i)

-- with operation k stored
abbrev pub op_put : List Dated → ℕ → Op → List Dated
op_put cols k o = set cols k (dated o)

-- no operation ends before it starts, or lets go of its boards before it ends
pub record InOrder (start end leave : ℕ) : Type 0 where
  pub lasts : start ≤ end
  pub settles : end ≤ leave

abbrev pub Settled : List Dated → Type 0
Settled cols = (i : ℕ) → i < 32 → let d = dates cols i in InOrder d.start d.end d.held

-- these are the columns of T; past its operations they hold nothing
pub record Columns (T : Table) (cols : List Dated) : Type 0 where
  pub each : (i : ℕ) → i < 32 → op_by cols i ≡ op T i
  pub settled : Settled cols

-- no operation lasts, or holds its boards, past the longest table
pub record Short (cols : List Dated) : Type 0 where
  pub ends : (i : ℕ) → i < 32 → end_of (op_by cols i) ≤ 1000
  pub leaves : (i : ℕ) → i < 32 → held_to (op_by cols i) ≤ 1000
  pub settled : Settled cols

-- so of the first operations of the code's array
abbrev pub HeldShort : List code.Op → ℕ → Type 0
HeldShort ops count = (i : ℕ) → i < count → held_to (op_of (get_or ops i blank_op)) ≤ 1000
