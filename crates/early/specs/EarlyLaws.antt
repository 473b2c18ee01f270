-- Laws of the tests of EARLY: the operations that were passed are late enough, so one behind them that is not is the lowest.
-- Assumes nothing.
use Rattle.std.specs.Prelude.{ℕ, ◌+◌, ◌<◌, ◌≤◌, ◌≡◌, Bool, true, length, get_or}
use Rattle.std.proofs.Math.Path.{ap, ap₂}
use Rattle.std.proofs.Common.{◌∙◌, arith}
use Rattle.std.proofs.Math.Bool.{false, not}
use Rattle.rules.specs.Table as rules
use Rattle.rules.specs.Table.{op}
use Rattle.rules.specs.Verdicts.{accepted, refused, EARLY}
use Rattle.rules.specs.Judge.{always, early, early_test}
use Rattle.theory.proofs.Order.{Cmp, cmp}
use Rattle.theory.proofs.Verdicts.{passes, refuses, each_accepts, then_accepts, then_refuses}
use Rattle.theory.proofs.Early.{early_row}
use Rattle.theory.proofs.Judging.{each_refuses}
use Rattle.table.specs.Tables.{op_of, table_of, blank_op}
use Rattle.table.specs.TableLaws.{op_at_lem, nops_count}
use Rattle.table.specs.declared.Table.{Table}
use Rattle.early.specs.Early.{always_in, early_in, early_from}

module _ (t : Table) (d : ℕ) where
  -- operation i starts too early, as the code has it
  abbrev early_at : ℕ → Bool
  early_at i = early_in t.modes (op_of (get_or t.ops d blank_op)) (op_of (get_or t.ops i blank_op))

  -- no operation below i does
  unfoldable pub LateTo : ℕ → Type 0
  LateTo i = (k : ℕ) → k < i → early_at k ≡ false

  pub late_none : LateTo 0
  unfolding LateTo
  late_none k h = absurd (omega arith)

  pub late_more : (i : ℕ) → LateTo i → early_at i ≡ false → LateTo (i + 1)
  unfolding LateTo
  late_more i late e k h = go (cmp k i)
    where
      go : Cmp k i → early_at k ≡ false
      go (Cmp.less x) = late k x
      go (Cmp.same x) = ap early_at x ∙ e
      go (Cmp.more x) = absurd (omega arith)

  module _ (full : t.count ≤ length t.ops) (is_op : d < t.count) where
    abbrev T : rules.Table
    T = table_of t

    -- the tests, as the rules have them
    always_meant : always T (op T d) ≡ always_in t.modes (op_of (get_or t.ops d blank_op))
    unfolding always
    always_meant = ap (always_in t.modes) (op_at_lem t d is_op)

    meant : (i : ℕ) → i < t.count → early T (op T d) (op T i) ≡ early_at i
    unfolding early
    meant i h = ap₂ (early_in t.modes) (op_at_lem t d is_op) (op_at_lem t i h)

    -- all are passed; one behind what was passed is not
    pub early_clear : (i : ℕ) → t.count ≤ i → LateTo i → early_from T d ≡ accepted tt
    unfolding LateTo early_from
    early_clear i end late =
        each_accepts _ 0 _ (λ k _ h. let w : k < t.count = omega (arith, nops_count t full) in passes _ EARLY d k (meant k w ∙ late k (omega arith)))

    pub early_hit : (i : ℕ) → i < t.count → LateTo i → early_at i ≡ true → early_from T d ≡ refused EARLY d i
    unfolding LateTo early_from
    early_hit i within late e =
        each_refuses _ 0 _ i EARLY d i
        (record {
          from = omega arith;
          to = omega (arith, nops_count t full);
          here = refuses _ EARLY d i (meant i within ∙ e);
          before = λ k _ h. passes _ EARLY d k (meant k (omega arith) ∙ late k h);
        })

    -- the decider itself first
    pub itself_early : always_in t.modes (op_of (get_or t.ops d blank_op)) ≡ false → early_test T (rules.decides d) ≡ refused EARLY d d
    itself_early e = early_row T d ∙ then_refuses _ (refuses _ EARLY d d (ap not (always_meant ∙ e)))

    pub itself_fine : always_in t.modes (op_of (get_or t.ops d blank_op)) ≡ true → early_test T (rules.decides d) ≡ early_from T d
    unfolding early_from
    itself_fine e = early_row T d ∙ then_accepts _ (passes _ EARLY d d (ap not (always_meant ∙ e)))
