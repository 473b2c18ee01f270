-- What the bound of the values and the first period with right boards say of every run.
-- Assumes nothing.
use Rattle.std.specs.Prelude.{ℕ, ◌-◌, ◌≤◌, ◌≡◌, refl, List, map, length, replicate, true, ◌↔◌}
use Rattle.std.proofs.Common.{sym, ap, subst, ◌∙◌, length-append, arith}
use Rattle.std.proofs.lemmas.List.{length-map, length-replicate}
use Rattle.rules.specs.Table.{Table, Accepted}
use Rattle.rules.specs.Runs.{BoardsRightAt, ValuesRightAt, spaced, IsPeriod}
use Rattle.theory.specs.Walks.{IsReach}
use Rattle.theory.specs.Tests.{boards_fine}
use Rattle.theory.proofs.Order.{Cmp, cmp}
use Rattle.theory.proofs.Says.{Says, clash_bool}
use Rattle.theory.proofs.Tests.{says_boards_right, says_values_right}
use Rattle.table.specs.declared.Table as code
use Rattle.table.specs.Tables.{op_in, table_of, blank_op, padded, Good}
use Rattle.table.specs.TableLaws.{good_few, good_op}
use Rattle.columns.specs.Columns.{HeldShort, Columns, Short}
use Rattle.columns.specs.ColumnLaws.{columns_short, leaves_by}
use Rattle.columns.specs.declared.Dated.{Dated}
use Rattle.turns.specs.Turns.{TurnsOf}
use Rattle.turns.specs.TurnLaws.{good_via}
use Rattle.boards.specs.Boards.{EndsBy, FirstRight, FirstFine}
use Rattle.boards.specs.BoardLaws.{first_fine}
use Rattle.values.specs.Bounds.{IsBound}

module _ (T : Table) (ok : Accepted T) (R : ℕ) (reach : IsReach T R) where
  boards_said : (q : ℕ) → 1 ≤ q → Says (boards_fine T R q) (BoardsRightAt T (spaced q))
  boards_said q low = says_boards_right T R reach q low ok

  -- boards are right at q exactly when the sweep that begins at q ends there
  pub boards_at : (q r : ℕ) → 1 ≤ q → FirstFine T R q r → (r ≡ q) ↔ BoardsRightAt T (spaced q)
  boards_at q r low f = (λ e. (boards_said q low).0 (subst (λ (x : ℕ). boards_fine T R x ≡ true) e f.fine), λ right. go right (cmp q r))
    where
      go : BoardsRightAt T (spaced q) → Cmp q r → r ≡ q
      go right (Cmp.less h) = clash_bool ((boards_said q low).1 right) (f.none q (omega arith) h)
      go right (Cmp.same e) = sym e
      go right (Cmp.more h) = absurd (omega (arith, f.low))

  -- values are right exactly from the bound up
  pub values_said : (b q : ℕ) → IsBound T R b → 1 ≤ q → (b ≤ q) ↔ ValuesRightAt T (spaced q)
  values_said b q bound low =
      let said = says_values_right T R reach q low ok in
      let exact = bound.exact q low in
      (λ h. said.0 (exact.1 h), λ x. exact.0 (said.1 x))

  -- so the first period from the bound up at which boards are right is the period
  pub first_is_period : (b q : ℕ) → IsBound T R b → FirstFine T R b q → IsPeriod T q
  first_is_period b q bound f =
      let low : 1 ≤ q = omega (arith, bound.low, f.low) in
      record {
        low = low;
        high = f.high;
        right = record { boards = (boards_said q low).0 f.fine; values = (values_said b q bound low).0 f.low };
        least = λ x h l y. clash_bool ((boards_said x h).1 y.boards) (f.none x ((values_said b x bound h).1 y.values) l);
      }

-- ---- a table that the engine takes

-- a filled up list is as long as it is filled
length_padded : {A : Type 0} (n : ℕ) (d : A) (xs : List A) → length xs ≤ n → length (padded n d xs) ≡ n
unfolding padded
length_padded n d xs h = length-append xs (replicate (n - length xs) d) ∙ omega (arith, length-replicate (n - length xs) d)

words_32 : (t : code.Table) → Good t → length t.follow ≡ 32
words_32 t good =
    ap (λ (u : code.Table). length u.follow) good.tidy
    ∙ length_padded 32 0 (table_of t).follow (omega (arith, good.accepted.words, good.accepted.modes_high))

-- what its columns ask, and that they are its own
pub columns_asked : (t : code.Table) → Good t → (length t.ops ≡ 32) × (t.count ≤ 32) × HeldShort t.ops t.count
columns_asked t good = (
  ap (λ (u : code.Table). length u.ops) good.tidy
      ∙ length_padded 32 blank_op (map op_in (table_of t).ops) (omega (arith, length-map (table_of t).ops op_in, good.accepted.ops_high)),
  good_few t good,
  λ i h. omega (arith, (good_op t good i h).fits, good.accepted.len_high),
)

pub columns_found : (t : code.Table) {cols : List Dated} → ((T : Table) → T.ops ≡ (table_of t).ops → Columns T cols) → Columns (table_of t) cols
columns_found t f = f (table_of t) refl

-- what the loop over the turns finds
pub reach_found : (t : code.Table) (good : Good t) (r : ℕ)
    → ((T : Table) → Accepted T → TurnsOf T t.follow → T.first ≡ t.first → IsReach T r) → IsReach (table_of t) r
reach_found t good r f = f (table_of t) good.accepted (good_via t good) refl

-- ---- what the two searches ask, and what they find, by the columns of a table that the engine takes
module _ (t : code.Table) (good : Good t) (cols : List Dated) (c : Columns (table_of t) cols) where
  pub values_asked_lem : Short cols × (t.cells ≤ 32)
  values_asked_lem = (columns_short good.accepted c, good.accepted.cells_high)

  pub boards_asked_lem : (length t.follow ≡ 32) × Short cols × EndsBy cols t.len × (t.len ≤ 1000)
  boards_asked_lem =
      (words_32 t good, columns_short good.accepted c, leaves_by good.accepted c, good.accepted.len_high)

  pub values_found : (R r : ℕ)
      → ((T : Table) → Accepted T → Columns T cols → TurnsOf T t.follow → T.cells ≡ t.cells → IsBound T R r)
      → IsBound (table_of t) R r
  values_found R r f = f (table_of t) good.accepted c (good_via t good) refl

  pub boards_found : (R b q : ℕ) → 1 ≤ b → FirstRight t.follow cols R t.len b q → FirstFine (table_of t) R b q
  boards_found R b q low f = first_fine (table_of t) good.accepted cols c t.follow (good_via t good) R b q low f
