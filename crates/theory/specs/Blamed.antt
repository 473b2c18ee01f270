-- Document 02, No. 7: which number a refusal for its range names. "In RANGE, let b be the offset of the first byte of the first wrong number, in
-- layout order".
-- Assumes nothing.
use Rattle.std.specs.Prelude.{ℕ, zero, suc, ◌+◌, ◌*◌, ◌<◌, ◌≤◌, ◌≡◌, Bool, true, false, cond, List, [], ◌∷◌, eqb, length, get_or}
use Rattle.rules.specs.Table.{Op, Decider, decides, Table}
use Rattle.rules.specs.Rows.{Ticks, Row}
use Rattle.rules.specs.Bytes.{num8, num16, num32, held_at, op_at, row_at}
use Rattle.rules.specs.Judge.{Number, number, len_ranges, len_wrong, count_ranges, counts_wrong, set_ranges, sets_wrong, op_ranges, op_wrong, decider_ranges, row_ranges, row_wrong, head_of, ops_place, size_at, Numbers, decider_of}
use Rattle.theory.specs.Holds.{place_from}
use Rattle.theory.specs.Numbers.{op_among, mark_among, place_among}

-- how many bytes the numbers before number k have: it begins that far behind the first
unfoldable pub bytes_before : ℕ → List Number → ℕ
bytes_before zero ns = 0
bytes_before (suc k) [] = 0
bytes_before (suc k) (n ∷ ns) = n.bytes + bytes_before k ns

-- number k of a list; past its end stands nothing that is wrong
abbrev pub among : List Number → ℕ → Number
among ns k = get_or ns k (number 0 0 (λ _. true))

-- of the numbers, the first of which begins at a place, one begins at w and is wrong, and each before it is in its range
pub record FirstFrom (place : ℕ) (ns : List Number) (w : ℕ) : Type 0 where
  pub which : ℕ
  pub there : which < length ns
  pub begins : w ≡ place + bytes_before which ns
  pub wrong : (among ns which).ok ≡ false
  pub before : (j : ℕ) → j < which → (among ns j).ok ≡ true

-- b is the offset of the first wrong number of the field at a, whose numbers stand behind its tag and its length
abbrev pub Names : List Number → ℕ → ℕ → Type 0
Names ns a b = FirstFrom (a + 3) ns b

-- the number in 1, 2 or 4 bytes at a place
abbrev pub number_at : ℕ → List ℕ → ℕ → ℕ
number_at bytes s at = cond (eqb bytes 1) (num8 s at) (cond (eqb bytes 2) (num16 s at) (num32 s at))

-- each of the numbers is the one that the bytes have where it begins, the first of all at a place
unfoldable pub ReadFrom : List ℕ → ℕ → List Number → Type 0
ReadFrom s place [] = Unit {0}
ReadFrom s place (n ∷ ns) = (n.value ≡ number_at n.bytes s place) × ReadFrom s (place + n.bytes) ns

-- the operations one after the other: the form of each one's field, what it is, and where it begins
pub record Steps : Type 0 where
  pub form : ℕ → Bool
  pub step : ℕ → Op
  pub place : ℕ → ℕ

-- no number of operation j is wrong
abbrev pub StepFine : Table → Steps → ℕ → Type 0
StepFine H S j = op_wrong H (S.form j) (S.step j) ≡ 0

-- what RANGE says of a table, by what stands before its operations, by each operation, and by who is named behind n operations: the field at a has
-- a wrong number, b is where the first one begins, and no number of the fields before that one is wrong (`Ranges.none_wrong`: each is in its range)
pub data Blames (H : Table) (S : Steps) (Behind : ℕ → Decider → Type 0) (a b : ℕ) : Type 0 where
  length_wrong : a ≡ 0 → Names (len_ranges H.len) a b → Blames H S Behind a b
  count_wrong : len_wrong H.len ≡ 0 → a ≡ 5 → Names (count_ranges H.boards H.cells H.modes) a b → Blames H S Behind a b
  set_wrong : len_wrong H.len ≡ 0 → counts_wrong H.boards H.cells H.modes ≡ 0 → a ≡ 11
      → Names (set_ranges H.modes (H.first ∷ H.follow)) a b → Blames H S Behind a b
  step_wrong_lem : len_wrong H.len ≡ 0 → counts_wrong H.boards H.cells H.modes ≡ 0 → sets_wrong H.modes (H.first ∷ H.follow) ≡ 0
      → (k : ℕ) → k < 32 → ((j : ℕ) → j < k → StepFine H S j) → a ≡ S.place k
      → Names (op_ranges H (S.form k) (S.step k)) a b → Blames H S Behind a b
  decider_wrong_lem : len_wrong H.len ≡ 0 → counts_wrong H.boards H.cells H.modes ≡ 0 → sets_wrong H.modes (H.first ∷ H.follow) ≡ 0
      → (n : ℕ) → n ≤ 32 → ((j : ℕ) → j < n → StepFine H S j) → a ≡ S.place n
      → (who : Decider) → Behind n who → Names (decider_ranges n who) a b → Blames H S Behind a b

-- where the field that comes as number k begins in a table's bytes: each stands behind the one before, by its own length
abbrev pub step_place : List ℕ → ℕ → ℕ
step_place s k = place_from size_at s (ops_place (head_of s).modes) k

-- the operations of a table's bytes, and of a table handed over
abbrev pub steps_in : List ℕ → Steps
steps_in s = record { form = λ k. held_at s (step_place s k); step = λ k. op_at s (step_place s k); place = step_place s }

abbrev pub steps_of : Numbers → Steps
steps_of N = record { form = mark_among N.holds; step = op_among N.ops N.holds; place = place_among N.holds (ops_place N.modes) }

-- a field 05 stands behind n operations in a table's bytes, and names who decides
abbrev pub FieldBehind : List ℕ → ℕ → Decider → Type 0
FieldBehind s n who = (num8 s (step_place s n) ≡ 5) × (who ≡ decides (num8 s (step_place s n + 3)))

-- n operations are handed over, and who decides
abbrev pub HandedBehind : Numbers → ℕ → Decider → Type 0
HandedBehind N n who = (length N.ops ≡ n * 6) × (length N.holds ≡ n * 2) × (who ≡ decider_of N)

-- likewise of a reply, by its period and by each row
pub data ReplyBlames (q : Ticks) (row : ℕ → Row) (a b : ℕ) : Type 0 where
  period_wrong : a ≡ 0 → Names (len_ranges q.number) a b → ReplyBlames q row a b
  row_wrong_lem : len_wrong q.number ≡ 0 → (k : ℕ) → k < 32 → ((j : ℕ) → j < k → row_wrong q (row j) ≡ 0) → a ≡ 5 + 7 * k
      → Names (row_ranges q (row k)) a b → ReplyBlames q row a b

-- the row whose field comes as number k in a reply's bytes
abbrev pub row_there : List ℕ → ℕ → Row
row_there s k = row_at s (5 + 7 * k)
