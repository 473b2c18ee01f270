-- The judge without document 02's No. 9: an operation's field has 18 bytes and no hold, and boards are held up to start + duration. What No. 9 did not
-- touch is taken from `rules`. And when a table is handed over without a hold.
-- Assumes nothing.
use Rattle.std.specs.Prelude.{ℕ, zero, suc, ◌+◌, ◌*◌, ◌≤◌, ◌≡◌, Bool, false, not, cond, ◌&&◌, List, [], ◌∷◌, ltb, eqb, length, get_or, drop}
use Rattle.rules.specs.Sets.{Share, Overlap, shares, overlaps}
use Rattle.rules.specs.Table.{Op, Decider, Table, nops, op, end_of}
use Rattle.rules.specs.Runs.{IsRun, Runs}
use Rattle.rules.specs.Verdicts.{Verdict, accepted, SHORT, ORDER, SIZE, CLASH, RACE, Test, refuse_if, ◌then◌, onwards, more}
use Rattle.rules.specs.Bytes.{read_op}
use Rattle.rules.specs.Judge.{not_many, ranged, fields_from, len_wrong, counts_wrong, sets_wrong, op_wrong, decider_wrong, races, pairs_test, early_test, head_of, with_ops, with_decider, ops_place, head_test, ops_done, decider_at, decider_test, Numbers, head_of_numbers, decider_of}
use Rattle.theory.specs.Numbers.{mark_among}

-- no operation of a table has a hold
abbrev pub NoHolds : Table → Type 0
NoHolds T = (i : ℕ) → (op T i).hold ≡ 0

-- ---- boards

unfoldable pub clashes18 : Op → Op → Bool
clashes18 o u =
    shares o.boards u.boards
    && (shares o.modes u.modes && overlaps o.start (end_of o) u.start (end_of u))

unfoldable pub whole18 : Table → Verdict Table
whole18 T = pairs_test clashes18 CLASH T then pairs_test races RACE T then early_test T T.decider then accepted T

unfoldable pub BoardsRight18 : Table → (ℕ → ℕ) → Type 0
BoardsRight18 T s =
    (r : List ℕ) → IsRun T r → (i k j l : ℕ) → Runs T r k i → Runs T r l j → ((i ≡ j) × (k ≡ l) → ⊥)
    → Share (op T i).boards (op T j).boards
    → Overlap ((op T i).start + s k) (end_of (op T i) + s k) ((op T j).start + s l) (end_of (op T j) + s l) → ⊥

-- ---- a table's bytes

-- the operation whose field is at a place, and which of its numbers is wrong first
abbrev pub op18 : List ℕ → ℕ → Op
op18 s at = read_op false s at

abbrev pub wrong18 : Table → List ℕ → ℕ → ℕ
wrong18 T s at = op_wrong T false (op18 s at)

unfoldable pub ops18 : Table → List ℕ → ℕ → ℕ → Verdict (List Op)
ops18 T = fields_from (ops_done T) 4 (λ s at. 18) (wrong18 T) op18

-- where the operations end
abbrev pub end18 : Table → ℕ
end18 T = ops_place T.modes + 21 * nops T

unfoldable pub behind18 : List ℕ → Table → Verdict Table
behind18 s T = decider_test s (end18 T) (nops T) then whole18 (with_decider T (decider_at s (end18 T)))

unfoldable pub judge18 : List ℕ → Verdict Table
judge18 s = head_test s then onwards (ops18 (head_of s) s 32 (ops_place (head_of s).modes)) (λ os. behind18 s (with_ops (head_of s) os))

-- ---- a table handed over as numbers: no mark and no hold is looked at

abbrev pub op_of18 : List ℕ → Op
op_of18 ns =
    record {
      start = get_or ns 0 0;
      dur = get_or ns 1 0;
      hold = 0;
      boards = get_or ns 2 0;
      reads = get_or ns 3 0;
      writes = get_or ns 4 0;
      modes = get_or ns 5 0;
    }

unfoldable pub numbers_test18 : Numbers → Test
numbers_test18 N =
    ranged (len_wrong N.len) 0
    then ranged (counts_wrong N.boards N.cells N.modes) 5
    then refuse_if (not (eqb (length N.follow) N.modes)) SIZE 11 0
    then ranged (sets_wrong N.modes (N.first ∷ N.follow)) 11
    then refuse_if (eqb (length N.ops) 0) ORDER (ops_place N.modes) 0

unfoldable pub ops_of18 : Table → List ℕ → ℕ → ℕ → Verdict (List Op)
ops_of18 T ns zero at = cond (eqb (length ns) 0) (accepted []) (not_many at 0 then accepted [])
ops_of18 T ns (suc left) at =
    cond (eqb (length ns) 0) (accepted [])
    (refuse_if (ltb (length ns) 6) SHORT at 0
    then ranged (op_wrong T false (op_of18 ns)) at
    then more (op_of18 ns) (ops_of18 T (drop 6 ns) left (at + 21)))

unfoldable pub decider18 : Decider → Table → Verdict Table
decider18 who T = ranged (decider_wrong (nops T) who) (end18 T) then whole18 (with_decider T who)

unfoldable pub numbers18 : Numbers → Verdict Table
numbers18 N =
    numbers_test18 N
    then onwards (ops_of18 (head_of_numbers N) N.ops 32 (ops_place N.modes)) (λ os. decider18 (decider_of N) (with_ops (head_of_numbers N) os))

-- every mark is unset, and there is a mark and a hold for each whole operation; where all are whole, there are no more
pub record Unmarked (ns hs : List ℕ) : Type 0 where
  pub marks : (k : ℕ) → mark_among hs k ≡ false
  pub enough : (k : ℕ) → 6 * k ≤ length ns → 2 * k ≤ length hs
  pub whole : (k : ℕ) → length ns ≡ 6 * k → length hs ≡ 2 * k
