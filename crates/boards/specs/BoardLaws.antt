-- Boards by the columns are boards by the finite test of the table.
-- Assumes nothing.
use Rattle.std.specs.Prelude.{ℕ, suc, ◌+◌, ◌*◌, ◌<◌, ◌≤◌, ◌≡◌, refl, true, false, List}
use Rattle.std.proofs.Common.{subst, mul-le-mul_left, arith}
use Rattle.std.proofs.Math.Path.{subst⁻¹}
use Rattle.std.specs.Int.Bits.{bit_and}
use Rattle.rules.specs.Sets.{Share, Overlap}
use Rattle.rules.specs.Table.{Op, Table, nops, op, held_to, Accepted}
use Rattle.theory.specs.Tests.{via, board_bad, boards_fine}
use Rattle.theory.proofs.Says.{Says, Known, holds, fails, known, says_ltb, says_and, says_not, says_all}
use Rattle.theory.proofs.Sets.{says_shares}
use Rattle.theory.proofs.Tests.{says_overlaps}
use Rattle.columns.specs.Columns.{op_by, Columns}
use Rattle.columns.specs.ColumnLaws.{op_there_lem}
use Rattle.columns.specs.declared.Dated.{Dated}
use Rattle.turns.specs.Turns.{TurnsOf}
use Rattle.boards.specs.Boards.{BadAt, Wrong, FirstRight, FirstFine}

module _ (T : Table) (ok : Accepted T) (cols : List Dated) (c : Columns T cols) where
  module _ (F : List ℕ) (same : TurnsOf T F) (R x : ℕ) (low : 1 ≤ x) where
    -- two operations, in any terms
    abbrev Pair : ℕ → Op → Op → Type 0
    Pair n o u =
        Share o.boards u.boards
        × (Overlap o.start (held_to o) (u.start + suc n * x) (held_to u + suc n * x)
        × Share (via T.follow 0 n (bit_and R o.modes)) u.modes)

    abbrev Bad : ℕ → ℕ → ℕ → Type 0
    Bad n i j = (suc n * x < T.len) × Pair n (op T i) (op T j)

    says_bad : (n i j : ℕ) → Says (board_bad T R x n i j) (Bad n i j)
    unfolding board_bad
    says_bad n i j =
        says_and _ _ (says_ltb _ _) (says_and _ _ (says_shares _ _) (says_and _ _ (says_overlaps _ _ _ _) (says_shares _ _)))

    abbrev NoneBad : Type 0
    NoneBad = (n : ℕ) → n < T.len → (i : ℕ) → i < nops T → (j : ℕ) → j < nops T → Bad n i j → ⊥

    says_none : Says (boards_fine T R x) NoneBad
    unfolding boards_fine
    says_none = says_all _ _ (λ n _. says_all _ _ (λ i _. says_all _ _ (λ j _. says_not _ (says_bad n i j))))

    -- a pair that is wrong by the columns is wrong by the table, and the other way
    to_table : (n : ℕ) → BadAt F cols R n x → (i : ℕ) × (j : ℕ) × Pair n (op T i) (op T j)
    to_table n bad =
        let mode = subst (λ (s : ℕ). Share s (op_by cols bad.other).modes) (same 0 n (bit_and R (op_by cols bad.one).modes)) bad.mode in
        let pair : Pair n (op_by cols bad.one) (op_by cols bad.other) = (bad.board, (bad.lap, mode)) in (
          bad.one,
          bad.other,
          subst (λ (u : Op). Pair n (op T bad.one) u) (c.each bad.other bad.second)
              (subst (λ (o : Op). Pair n o (op_by cols bad.other)) (c.each bad.one bad.first) pair),
        )

    to_columns : (n i j : ℕ) → i < 32 → j < 32 → Pair n (op T i) (op T j) → BadAt F cols R n x
    to_columns n i j h l pair =
        let (board, (lap, mode)) =
        subst⁻¹ (λ (o : Op). Pair n o (op_by cols j)) (c.each i h) (subst⁻¹ (λ (u : Op). Pair n (op T i) u) (c.each j l) pair)
        in
        record {
          one = i;
          other = j;
          first = h;
          second = l;
          board = board;
          mode = subst⁻¹ (λ (s : ℕ). Share s (op_by cols j).modes) (same 0 n (bit_and R (op_by cols i).modes)) mode;
          lap = lap;
        }

    fine_right : NoneBad → Wrong F cols R x → ⊥
    fine_right none (n, bad) =
        let (i, j, (board, (lap, mode))) = to_table n bad in
        let h = op_there_lem T (λ o. o.boards) refl i board.0 board.1 in
        let l = op_there_lem T (λ o. o.boards) refl j board.0 board.2 in
        let near : suc n * x < T.len = omega (arith, lap.1, (ok.each i h).fits) in
        none n (omega (arith, mul-le-mul_left (suc n) low)) i h j l (near, (board, (lap, mode)))

    right_fine : (Wrong F cols R x → ⊥) → NoneBad
    right_fine right n _ i h j l (near, pair) =
        right (n, to_columns n i j (omega (arith, ok.ops_high)) (omega (arith, ok.ops_high)) pair)

    wrong_not : Wrong F cols R x → boards_fine T R x ≡ false
    wrong_not wrong = go (known (boards_fine T R x))
      where
        go : Known (boards_fine T R x) → boards_fine T R x ≡ false
        go (fails e) = e
        go (holds e) = absurd (fine_right (says_none.0 e) wrong)

    right_is : (Wrong F cols R x → ⊥) → boards_fine T R x ≡ true
    right_is right = says_none.1 (right_fine right)

  -- the first period that is right by the columns is the first by the test
  pub first_fine : (F : List ℕ) → TurnsOf T F → (R b q : ℕ) → 1 ≤ b
      → FirstRight F cols R T.len b q → FirstFine T R b q
  first_fine F same R b q low f =
      record {
        low = f.low;
        high = f.high;
        none = λ x l h. wrong_not F same R x (omega arith) (f.passed x l h);
        fine = right_is F same R q (omega (arith, f.low)) f.right;
      }
