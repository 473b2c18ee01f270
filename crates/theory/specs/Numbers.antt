-- A table handed over as numbers: the bytes that are written for it, and when its numbers fit their fields.
-- Assumes nothing.
use Rattle.std.specs.Prelude.{ℕ, zero, suc, ◌+◌, ◌*◌, ◌^◌, ◌<◌, ◌≤◌, ◌≡◌, Bool, cond, List, [], ◌∷◌, ◌++◌, length, get_or, drop}
use Rattle.rules.specs.Table.{Op, Decider, nobody, decides, Table}
use Rattle.rules.specs.Bytes.{be16, joined, op_size, op_form, settles, head_bytes, decider_bytes}
use Rattle.rules.specs.Judge.{Numbers, marked_of, op_of_numbers, head_of_numbers, decider_of}

-- "six for each operation, in layout order"
abbrev pub op_numbers : Op → List ℕ
op_numbers o = o.start ∷ o.dur ∷ o.boards ∷ o.reads ∷ o.writes ∷ o.modes ∷ []

-- beside them the mark and the hold
abbrev pub hold_numbers : Op → List ℕ
hold_numbers o = cond (settles o) 1 0 ∷ o.hold ∷ []

-- the mark and the number of who decides
abbrev pub mark_of : Decider → ℕ
mark_of nobody = 0
mark_of (decides d) = 1

abbrev pub number_of : Decider → ℕ
number_of nobody = 0
number_of (decides d) = d

-- a table handed over as numbers
unfoldable pub numbers_of : Table → Numbers
unfolding joined
numbers_of T =
    record {
      len = T.len;
      boards = T.boards;
      cells = T.cells;
      modes = T.modes;
      first = T.first;
      follow = T.follow;
      ops = joined op_numbers T.ops;
      holds = joined hold_numbers T.ops;
      mark = mark_of T.decider;
      decider = number_of T.decider;
    }

-- ---- "as if first written in this layout"

-- the field of an operation with numbers missing: a header of either form, and fewer bytes behind it than it says, whichever of the numbers that are
-- there they are
pub record Cut : Type 0 where
  pub form : Bool
  pub there : List ℕ
  pub few : length there < op_size form

abbrev pub cut_bytes : Cut → List ℕ
cut_bytes c = 4 ∷ be16 (op_size c.form) ++ c.there

-- six numbers, a mark and a hold are an operation's field, of 20 bytes where it is marked; what is left over at the end is one with numbers missing,
-- and with it the input ends. Behind whole operations comes what is last.
unfoldable pub ops_bytes : Cut → List ℕ → List ℕ → List ℕ → List ℕ
ops_bytes cut last [] [] = last
ops_bytes cut last [] (k ∷ hs) = cut_bytes cut
ops_bytes cut last (t ∷ []) hs = cut_bytes cut
ops_bytes cut last (t ∷ d ∷ []) hs = cut_bytes cut
ops_bytes cut last (t ∷ d ∷ b ∷ []) hs = cut_bytes cut
ops_bytes cut last (t ∷ d ∷ b ∷ r ∷ []) hs = cut_bytes cut
ops_bytes cut last (t ∷ d ∷ b ∷ r ∷ w ∷ []) hs = cut_bytes cut
ops_bytes cut last (t ∷ d ∷ b ∷ r ∷ w ∷ m ∷ ns) [] = cut_bytes cut
ops_bytes cut last (t ∷ d ∷ b ∷ r ∷ w ∷ m ∷ ns) (k ∷ []) = cut_bytes cut
ops_bytes cut last (t ∷ d ∷ b ∷ r ∷ w ∷ m ∷ ns) (k ∷ h ∷ hs) =
    op_form (marked_of (k ∷ [])) (op_of_numbers (t ∷ d ∷ b ∷ r ∷ w ∷ m ∷ []) (k ∷ h ∷ [])) ++ ops_bytes cut last ns hs

-- the fields 01, 02 and 03, with as many follower words as there are, the operations' fields, and the decider's where it is marked
unfoldable pub numbers_bytes : Cut → Numbers → List ℕ
unfolding joined ops_bytes
numbers_bytes cut N = head_bytes (head_of_numbers N) ++ ops_bytes cut (decider_bytes (decider_of N)) N.ops N.holds

-- ---- numbers that fit their fields

-- "boards, cells, modes, a byte each"
pub record CountsFit (N : Numbers) : Type 0 where
  pub boards : N.boards < 256
  pub cells : N.cells < 256
  pub modes : N.modes < 256

-- "first modes, then the followers of mode 0, 1, .. as 32-bit sets"
pub record SetsFit (N : Numbers) : Type 0 where
  pub first : N.first < 2 ^ 32
  pub follow : (a : ℕ) → a < length N.follow → get_or N.follow a 0 < 2 ^ 32

-- "start, duration, boards (16 bits each), reads, writes, modes (32 bits each)"; "a 16-bit hold"
pub record OpFits (o : Op) : Type 0 where
  pub start : o.start < 65536
  pub dur : o.dur < 65536
  pub hold : o.hold < 65536
  pub boards : o.boards < 65536
  pub reads : o.reads < 2 ^ 32
  pub writes : o.writes < 2 ^ 32
  pub modes : o.modes < 2 ^ 32

-- the operation k of the numbers, and whether it is marked
abbrev pub op_among : List ℕ → List ℕ → ℕ → Op
op_among ns hs k = op_of_numbers (drop (6 * k) ns) (drop (2 * k) hs)

abbrev pub mark_among : List ℕ → ℕ → Bool
mark_among hs k = marked_of (drop (2 * k) hs)

-- its field, if the first would be written at a place
unfoldable pub place_among : List ℕ → ℕ → ℕ → ℕ
place_among hs at zero = at
place_among hs at (suc k) = place_among (drop 2 hs) (at + 3 + op_size (marked_of hs)) k

-- each number fits its field, and so does the length of the field of the followers. (Nothing is asked of the numbers of an operation with
-- numbers missing: it is refused before they are looked at.)
pub record NumbersFit (N : Numbers) : Type 0 where
  pub len : N.len < 65536
  pub counts : CountsFit N
  pub sets : SetsFit N
  pub size : 4 + 4 * length N.follow < 65536
  pub each : (k : ℕ) → 6 * k + 6 ≤ length N.ops → 2 * k + 2 ≤ length N.holds → OpFits (op_among N.ops N.holds k)
  pub decider : (d : ℕ) → decider_of N ≡ decides d → d < 256
