-- What document 02, No. 12 is proved by: a map taken back; two tables that are alike, each by the other's names; and the table that three maps give.
-- Assumes nothing.
use Rattle.std.specs.Prelude.{ℕ, zero, suc, ◌^◌, ◌<◌, ◌≡◌, cond, List, ◌↔◌, eqb, set}
use Rattle.std.specs.Int.Bits.{bit_or}
use Rattle.rules.specs.Sets.{has, In, Share}
use Rattle.rules.specs.Table.{Op, Table, nops, op, followers, Turn}
use Rattle.rules.specs.Renamed.{Names, following}

-- the number below n that f takes to u; 0 where there is none
unfoldable pub found : (ℕ → ℕ) → ℕ → ℕ → ℕ
found f zero u = 0
found f (suc n) u = cond (eqb (f n) u) n (found f n u)

-- the same dates and cells, and by f the same of n modes
pub record OpAlike (n : ℕ) (f : ℕ → ℕ) (o u : Op) : Type 0 where
  pub start : o.start ≡ u.start
  pub dur : o.dur ≡ u.dur
  pub hold : o.hold ≡ u.hold
  pub reads : o.reads ≡ u.reads
  pub writes : o.writes ≡ u.writes
  pub modes : (a : ℕ) → a < n → In a o.modes ↔ In (f a) u.modes

-- s takes the operations of S to those of T and t takes them back, f the modes and g back; who shares a board does in the other. Read with S and T
-- exchanged, and each map for the one that takes back, it says the same.
pub record Alike (S T : Table) (s t f g : ℕ → ℕ) : Type 0 where
  pub len : S.len ≡ T.len
  pub there : (i : ℕ) → i < nops S → s i < nops T
  pub back : (u : ℕ) → u < nops T → t u < nops S
  pub over : (i : ℕ) → i < nops S → t (s i) ≡ i
  pub onto : (u : ℕ) → u < nops T → s (t u) ≡ u
  pub each : (i : ℕ) → i < nops S → OpAlike S.modes f (op S i) (op T (s i))
  pub boards : (i j : ℕ) → i < nops S → j < nops S → Share (op S i).boards (op S j).boards ↔ Share (op T (s i)).boards (op T (s j)).boards
  pub mode_there : (a : ℕ) → a < S.modes → f a < T.modes
  pub mode_back : (b : ℕ) → b < T.modes → g b < S.modes
  pub mode_over : (a : ℕ) → a < S.modes → g (f a) ≡ a
  pub mode_onto : (b : ℕ) → b < T.modes → f (g b) ≡ b
  pub first : (a : ℕ) → a < S.modes → In a S.first ↔ In (f a) T.first
  pub turns : (a b : ℕ) → a < S.modes → b < S.modes → Turn S a b ↔ Turn T (f a) (f b)

-- ---- the table that the maps give

-- the set of the new names of the members of s that are below n
unfoldable pub image : (ℕ → ℕ) → ℕ → ℕ → ℕ
unfolding has
image f zero s = 0
image f (suc n) s = bit_or (cond (has s n) (2 ^ f n) 0) (image f n s)

-- xs with g i put at f i, for each i below n
unfoldable pub spread : {A : Type 0} → (ℕ → ℕ) → (ℕ → A) → ℕ → List A → List A
spread f g zero xs = xs
spread f g (suc n) xs = set (spread f g n xs) (f n) (g n)

-- an operation of T by its new names
abbrev pub renamed_op : Names → Table → Op → Op
renamed_op by T o =
    record {
      start = o.start;
      dur = o.dur;
      hold = o.hold;
      boards = image by.board T.boards o.boards;
      reads = o.reads;
      writes = o.writes;
      modes = image by.mode T.modes o.modes;
    }

-- T by its new names and in its new order, with n boards
unfoldable pub renamed_table : Names → ℕ → Table → Table
unfolding image spread
renamed_table by n T =
    record {
      len = T.len;
      boards = n;
      cells = T.cells;
      modes = T.modes;
      first = image by.mode T.modes T.first;
      follow = spread by.mode (λ a. image by.mode T.modes (followers T a)) T.modes T.follow;
      ops = spread by.place (λ i. renamed_op by T (op T i)) (nops T) T.ops;
      decider = following by.place T.decider;
    }
