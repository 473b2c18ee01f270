-- The code's ticks, cycles and rows as the rules' ones.
-- Assumes nothing.
use Rattle.std.specs.Prelude.{◌<◌}
use Rattle.rules.specs.Rows as rules
use Rattle.rules.specs.Rows.{ticks, cycles}
use Rattle.rows.specs.declared.Ticks.{Ticks}
use Rattle.rows.specs.declared.Row.{Row}

abbrev pub ticks_of : Ticks → rules.Ticks
ticks_of t = ticks t.0

abbrev pub row_of : Row → rules.Row
row_of r = record { start = ticks r.start.0; fst = cycles r.fst.0 }

-- a period and a row as a reply's fields hold them, 16 bits each
pub record InFields (q : Ticks) (r : Row) : Type 0 where
  pub period : q.0 < 65536
  pub start : r.start.0 < 65536
  pub fst : r.fst.0 < 65536
