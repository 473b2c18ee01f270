-- Periods at which the boards are wrong, by the columns of a table, and how the sweep over the distances comes to the first that is not.
-- Assumes nothing.
use Rattle.std.specs.Prelude.{ℕ, ◌<◌, ◌≤◌, ◌≡◌, true, false, List, length, get_or}
use Rattle.std.specs.Int.Bits.{bit_and}
use Rattle.rules.specs.Sets.{In, Share}
use Rattle.rules.specs.Table.{Table, held_to}
use Rattle.theory.specs.Tests.{via, boards_fine}
use Rattle.columns.specs.Columns.{op_by}
use Rattle.columns.specs.declared.Dated.{Dated}
use Rattle.marks.specs.Marks.{Marked, Meets}

-- at period x, operation `other` wants a board while `one` holds it, n + 1 cycles later, in a run through the modes R, for the list F of the
-- followers of each mode
pub record BadAt (F : List ℕ) (cols : List Dated) (R n x : ℕ) : Type 0 where
  pub one : ℕ
  pub other : ℕ
  pub first : one < 32
  pub second : other < 32
  pub board : Share (op_by cols one).boards (op_by cols other).boards
  pub mode : Share (via F 0 n (bit_and R (op_by cols one).modes)) (op_by cols other).modes
  pub lap : Meets (op_by cols one) (op_by cols other) n x

-- at some distance
abbrev pub Wrong : List ℕ → List Dated → ℕ → ℕ → Type 0
Wrong F cols R x = (n : ℕ) × BadAt F cols R n x

-- every operation lets go of its boards by the end of the table
abbrev pub EndsBy : List Dated → ℕ → Type 0
EndsBy cols len = (i : ℕ) → i < 32 → held_to (op_by cols i) ≤ len

-- each set names only operations that share a board with its own
abbrev pub Sharing : List Dated → List ℕ → Type 0
Sharing cols later = (i j : ℕ) → i < 32 → In j (get_or later i 0) → (j < 32) × Share (op_by cols i).boards (op_by cols j).boards

-- who shares a board with operation i and is not in its set meets it at no distance from n + 1 on and no period from q on
abbrev pub Dropped : List Dated → ℕ → ℕ → List ℕ → Type 0
Dropped cols n q later =
    (i j m x : ℕ) → i < 32 → j < 32 → n ≤ m → q ≤ x → Share (op_by cols i).boards (op_by cols j).boards
    → Meets (op_by cols i) (op_by cols j) m x → In j (get_or later i 0)

-- sizes and bounds that hold all along
pub record Sized (len q : ℕ) (later : List ℕ) (wrong : List ℕ) : Type 0 where
  pub marks : length wrong ≡ 1000
  pub sets : length later ≡ 32
  pub low : 1 ≤ q
  pub high : q ≤ len
  pub short : len ≤ 1000

-- What the sweep keeps, before distance n + 1. It began at b; q is the first period from b on that is not marked, and all before it are wrong.
-- A mark says that the period is wrong, and no mark, from q on, that nothing is wrong there at the first n distances.
pub record Swept (F : List ℕ) (cols : List Dated) (R len b n q : ℕ) (later : List ℕ) (wrong : List ℕ) : Type 0 where
  pub low : b ≤ q
  pub high : q ≤ len
  pub passed : (x : ℕ) → b ≤ x → x < q → Wrong F cols R x
  pub sound : (x : ℕ) → Marked wrong x → Wrong F cols R x
  pub met : (x m : ℕ) → q ≤ x → m < n → BadAt F cols R m x → Marked wrong x
  pub clear : q < len → Marked wrong q → ⊥
  pub sharing : Sharing cols later
  pub dropped : Dropped cols n q later

-- q is the first period from b on at which the boards are right
pub record FirstRight (F : List ℕ) (cols : List Dated) (R len b q : ℕ) : Type 0 where
  pub low : b ≤ q
  pub high : q ≤ len
  pub passed : (x : ℕ) → b ≤ x → x < q → Wrong F cols R x
  pub right : Wrong F cols R q → ⊥

-- the same by the finite test of a table
pub record FirstFine (T : Table) (R b q : ℕ) : Type 0 where
  pub low : b ≤ q
  pub high : q ≤ T.len
  pub none : (x : ℕ) → b ≤ x → x < q → boards_fine T R x ≡ false
  pub fine : boards_fine T R q ≡ true
