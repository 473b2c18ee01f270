-- Laws of the loops over pairs of operations, for any hit: the pairs that were passed are clear, so a hit behind them is the first.
-- Assumes nothing.
use Rattle.std.specs.Prelude.{ℕ, ◌+◌, ◌<◌, ◌≤◌, ◌≡◌, Bool, true, length, get_or}
use Rattle.std.proofs.Math.Path.{ap}
use Rattle.std.proofs.Common.{sym, ap₂, ◌∙◌, arith}
use Rattle.std.proofs.Math.Bool.{false}
use Rattle.rules.specs.Table as rules
use Rattle.rules.specs.Table.{op}
use Rattle.rules.specs.Verdicts.{accepted, refused}
use Rattle.rules.specs.Judge.{pairs_test}
use Rattle.theory.proofs.Judging.{pairs_accepted, pairs_first}
use Rattle.theory.proofs.Order.{Cmp, cmp}
use Rattle.table.specs.Tables.{op_of, table_of, blank_op}
use Rattle.table.specs.TableLaws.{op_at_lem, nops_count}
use Rattle.table.specs.declared.Table.{Table}

module _ (hit : rules.Op → rules.Op → Bool) (t : Table) where
  -- the hit of operations i and j
  abbrev hit_at : ℕ → ℕ → Bool
  hit_at i j = hit (op_of (get_or t.ops i blank_op)) (op_of (get_or t.ops j blank_op))

  -- as a test of the two told it
  pub hit_by : {r b : Bool} (i j : ℕ) → r ≡ hit_at i j → r ≡ b → hit_at i j ≡ b
  hit_by i j e f = sym e ∙ f

  -- no pair with a first number below i is hit
  unfoldable pub RowsClear : ℕ → Type 0
  RowsClear i = (k l : ℕ) → k < i → k < l → l < t.count → hit_at k l ≡ false

  -- no pair of i with a second number below j is hit
  unfoldable pub RowClear : ℕ → ℕ → Type 0
  RowClear i j = (l : ℕ) → i < l → l < j → hit_at i l ≡ false

  -- ---- the steps

  pub rows_none : RowsClear 0
  unfolding RowsClear
  rows_none k l h = absurd (omega arith)

  pub row_none : (i : ℕ) → RowClear i (i + 1)
  unfolding RowClear
  row_none i l h g = absurd (omega arith)

  pub row_more : (i j : ℕ) → RowClear i j → hit_at i j ≡ false → RowClear i (j + 1)
  unfolding RowClear
  row_more i j row e l h g = go (cmp l j)
    where
      go : Cmp l j → hit_at i l ≡ false
      go (Cmp.less x) = row l h x
      go (Cmp.same x) = ap (hit_at i) x ∙ e
      go (Cmp.more x) = absurd (omega arith)

  pub rows_more : (i j : ℕ) → t.count ≤ j → RowsClear i → RowClear i j → RowsClear (i + 1)
  unfolding RowsClear RowClear
  rows_more i j end rows row k l h g w = go (cmp k i)
    where
      go : Cmp k i → hit_at k l ≡ false
      go (Cmp.less x) = rows k l x g w
      go (Cmp.same x) = ap (λ (m : ℕ). hit_at m l) x ∙ row l (omega arith) (omega arith)
      go (Cmp.more x) = absurd (omega arith)

  -- ---- the ends

  -- the hit, as the rules have it
  meant : (i j : ℕ) → i < j → j < t.count → hit (op (table_of t) i) (op (table_of t) j) ≡ hit_at i j
  meant i j h g = ap₂ hit (op_at_lem t i (omega arith)) (op_at_lem t j g)

  module _ (number : ℕ) (full : t.count ≤ length t.ops) where
    -- all rows are passed: no pair is hit
    pub pairs_clear : (i : ℕ) → t.count ≤ i → RowsClear i → pairs_test hit number (table_of t) ≡ accepted tt
    unfolding RowsClear
    pairs_clear i end rows =
        (pairs_accepted hit number (table_of t)).1
        (λ k l h g.
        let w : l < t.count = omega (arith, nops_count t full) in
        meant k l h w ∙ rows k l (omega arith) h w)

    -- a hit behind what was passed is the first
    pub pairs_hit : (i j : ℕ) → i < j → j < t.count → RowsClear i → RowClear i j → hit_at i j ≡ true
        → pairs_test hit number (table_of t) ≡ refused number i j
    unfolding RowsClear RowClear
    pairs_hit i j less within rows row e =
        (pairs_first hit number (table_of t) i j).1
        (record {
          less = less;
          within = omega (arith, nops_count t full);
          holds = meant i j less within ∙ e;
          rows = λ k l h g x.
              let w : l < t.count = omega (arith, nops_count t full) in
              meant k l g w ∙ rows k l h g w;
          row = λ l h g. meant i l h (omega arith) ∙ row l h g;
        })
