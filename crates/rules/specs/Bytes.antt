-- Document 01, "Bytes": the layout. What is written for a table, for a reply and for its unfolded starts, and how a number is read. Document 02,
-- No. 4: the decider's field; No. 9: an operation's field with a hold.
-- Assumes nothing.
use Rattle.std.specs.Prelude.{ℕ, zero, suc, ◌+◌, ◌*◌, ◌/◌, ◌%◌, Bool, true, false, not, cond, List, [], ◌∷◌, ◌++◌, eqb, length, get_or}
use Rattle.rules.specs.Table.{Op, Decider, nobody, decides, Table}
use Rattle.rules.specs.Rows.{Ticks, Row, Reply, ticks, cycles}

-- ---- "All numbers are most significant byte first"

-- the number in 1, 2 or 4 bytes at a place
abbrev pub num8 : List ℕ → ℕ → ℕ
num8 s at = get_or s at 0

abbrev pub num16 : List ℕ → ℕ → ℕ
num16 s at = get_or s at 0 * 256 + get_or s (at + 1) 0

abbrev pub num32 : List ℕ → ℕ → ℕ
num32 s at = num16 s at * 65536 + num16 s (at + 2)

-- n numbers of 4 bytes, one after the other
unfoldable pub words : List ℕ → ℕ → ℕ → List ℕ
words s at zero = []
words s at (suc n) = num32 s at ∷ words s (at + 4) n

-- the 2 or 4 bytes of a number
abbrev pub be16 : ℕ → List ℕ
be16 x = x / 256 % 256 ∷ x % 256 ∷ []

abbrev pub be32 : ℕ → List ℕ
be32 x = x / 16777216 % 256 ∷ x / 65536 % 256 ∷ x / 256 % 256 ∷ x % 256 ∷ []

-- ---- "Each field is a one-byte tag, a two-byte length, and the value."
abbrev pub field_bytes : ℕ → List ℕ → List ℕ
field_bytes tag value = tag ∷ be16 (length value) ++ value

-- the bytes of each, one after the other
unfoldable pub joined : {A : Type 0} → (A → List ℕ) → List A → List ℕ
joined f [] = []
joined f (x ∷ xs) = f x ++ joined f xs

-- document 02, No. 9: "An operation field may have 20 bytes, with a 16-bit hold after the duration." An operation's field has one of two forms, with
-- a hold or without one, and its value so many bytes
abbrev pub op_size : Bool → ℕ
op_size held = cond held 20 18

-- "04, length 18, once for each operation: start, duration, boards (16 bits each), reads, writes, modes (32 bits each)"
abbrev pub op_form : Bool → Op → List ℕ
op_form false o =
    field_bytes 4
    (be16 o.start ++ be16 o.dur ++ be16 o.boards ++ be32 o.reads ++ be32 o.writes ++ be32 o.modes)
op_form true o =
    field_bytes 4
    (be16 o.start ++ be16 o.dur ++ be16 o.hold ++ be16 o.boards ++ be32 o.reads ++ be32 o.writes ++ be32 o.modes)

-- "An 18-byte field means hold 0", and "a 20-byte field with hold 0 is RANGE": so the hold alone says which form an operation has
abbrev pub settles : Op → Bool
settles o = not (eqb o.hold 0)

unfoldable pub op_bytes : Op → List ℕ
op_bytes o = op_form (settles o) o

-- "01, length 2: p. 02, length 3: boards, cells, modes, a byte each. 03, length 4 + 4·modes: first modes, then the followers of mode 0, 1,
-- .. as 32-bit sets."
abbrev pub head_bytes : Table → List ℕ
head_bytes T =
    field_bytes 1 (be16 T.len)
    ++ field_bytes 2 (T.boards ∷ T.cells ∷ T.modes ∷ [])
    ++ field_bytes 3 (be32 T.first ++ joined be32 T.follow)

-- document 02, No. 4: "An optional last field 05, length 1, gives the number of the deciding operation."
abbrev pub decider_bytes : Decider → List ℕ
decider_bytes nobody = []
decider_bytes (decides d) = field_bytes 5 (d ∷ [])

-- then the operations, and last who decides
unfoldable pub table_bytes : Table → List ℕ
unfolding op_bytes joined
table_bytes T = head_bytes T ++ (joined op_bytes T.ops ++ decider_bytes T.decider)

-- "The longest table has 818 bytes.", and with document 02, No. 4 and No. 9: "the longest table has 886 bytes, with the decider's field"
abbrev pub longest_table : ℕ
longest_table = 886

-- "no answer depends on bytes past 821", now 889: a longest table and one more header
abbrev pub farthest : ℕ
farthest = 889

-- the form of the operation's field at a place, by its length: with a hold where that is 20, and else the form of 18 bytes, for which every length but
-- 18 is refused
abbrev pub held_at : List ℕ → ℕ → Bool
held_at s at = eqb (num16 s (at + 1)) 20

-- the operation whose field is at a place, and has this form
abbrev pub read_op : Bool → List ℕ → ℕ → Op
read_op false s at =
    record {
      start = num16 s (at + 3);
      dur = num16 s (at + 5);
      hold = 0;
      boards = num16 s (at + 7);
      reads = num32 s (at + 9);
      writes = num32 s (at + 13);
      modes = num32 s (at + 17);
    }
read_op true s at =
    record {
      start = num16 s (at + 3);
      dur = num16 s (at + 5);
      hold = num16 s (at + 7);
      boards = num16 s (at + 9);
      reads = num32 s (at + 11);
      writes = num32 s (at + 15);
      modes = num32 s (at + 19);
    }

unfoldable pub op_at : List ℕ → ℕ → Op
op_at s at = read_op (held_at s at) s at

-- "11, length 2: period. 12, length 4, for each operation in table order: folded start, fst (16 bits each)." The tags are hexadecimal.
abbrev pub row_bytes : Row → List ℕ
row_bytes r = field_bytes 18 (be16 r.start.number ++ be16 r.fst.number)

unfoldable pub reply_bytes : Reply → List ℕ
unfolding joined
reply_bytes R = field_bytes 17 (be16 R.period.number) ++ joined row_bytes R.rows

-- the row whose field is at a place
abbrev pub row_at : List ℕ → ℕ → Row
row_at s at = record { start = ticks (num16 s (at + 3)); fst = cycles (num16 s (at + 5)) }

-- "Unfolding writes the starts in order, 2 bytes each."
unfoldable pub starts_bytes : List Ticks → List ℕ
unfolding joined
starts_bytes = joined (λ (t : Ticks). be16 t.number)

-- document 02, No. 1: the numbers of places of cells 0, 1, .., 2 bytes each
unfoldable pub places_bytes : List ℕ → List ℕ
unfolding joined
places_bytes = joined be16
