-- The bound raised by every operation that holds boards is the gap. Columns and followers as they are lent become the table's here.
-- Assumes nothing.
use Prim.Native.Nat.{ℕ, suc, ◌+◌, ◌*◌, ◌<◌, ◌≤◌}
use Rattle.std.specs.Prelude.{◌≡◌, List, length, get_or, set}
use Rattle.std.proofs.Math.Path.{refl, subst, subst⁻¹}
use Rattle.std.proofs.Common.{sym, ap, ◌∙◌}
use Rattle.std.proofs.Math.Nat.{mul-le-mul}
use Rattle.std.proofs.Math.Decide.{dec_lt}
use native.Mathlib.Omega.{arith}
use Rattle.std.specs.Int.Bits.{bit_and}
use Rattle.rules.specs.Sets.{shares}
use Rattle.rules.specs.Table.{Op, Table, op, held_to, Accepted}
use Rattle.rules.specs.Gaps.{Serves, IsGap}
use Rattle.theory.specs.Walks.{IsReach}
use Rattle.theory.specs.Tests.{via, LetGo}
use Rattle.theory.proofs.Order.{filled_more}
use Rattle.theory.proofs.Tests.{clear_let_go}
use Rattle.theory.proofs.Values.{values_clear}
use Rattle.theory.proofs.Gaps.{serves_right, gap_iff, length_serves}
use Rattle.columns.specs.Columns.{op_by, Columns, Short}
use Rattle.columns.specs.ColumnLaws.{op_there_lem}
use Rattle.columns.specs.declared.Dated.{Dated}
use Rattle.turns.specs.Turns.{TurnsOf}
use Rattle.laters.specs.Laters.{LaterOf}
use Rattle.arrivals.specs.Arrivals.{Each}
use Rattle.raises.specs.Raises.{Raised, InTime}
use Rattle.raises.specs.RaiseLaws.{raised_up, in_time_late}
use Rattle.values.specs.Bounds.{IsBound, TurnsFine}
use Rattle.period.specs.PeriodLaws.{values_said}
use Rattle.gaps.specs.Holders.{ModesOf, LetsGo, HolderFine}

-- ---- the modes side by side

pub modes_more : (cols : List Dated) (k r : ℕ) (modes : List ℕ) → k < length modes → ModesOf cols k modes → r ≡ (op_by cols k).modes
    → ModesOf cols (k + 1) (set modes k r)
modes_more cols k r modes h all here = record { each = filled_more (λ j x. x ≡ (op_by cols j).modes) k r modes h all.each here }

-- ---- one operation that holds boards

-- at 1000 every board is let go in time
pub holder_late : (F : List ℕ) (cols : List Dated) → Short cols → (R i : ℕ) → i < 32 → HolderFine F cols R i 1000
unfolding HolderFine
holder_late F cols short R i h m j l b e = in_time_late (held_to (op_by cols i)) (op_by cols j).start m 1000 (short.leaves i h)

-- who is not among those that start before i lets go, one cycle of the bound later, asks for nothing more
module _ (F : List ℕ) (cols : List Dated) (R i b later : ℕ) (fits : LaterOf cols i b 32 later) (modes : List ℕ) (all : ModesOf cols 32 modes) where
  abbrev Turning : ℕ → Type 0
  Turning q = TurnsFine F cols later (λ j. get_or modes j 0) 0 (held_to (op_by cols i)) 0 (bit_and R (op_by cols i).modes) q

  turning_holder : (q : ℕ) → b ≤ q → Turning q → HolderFine F cols R i q
  unfolding HolderFine TurnsFine
  turning_holder q h x m j l board e = go (dec_lt ((op_by cols j).start + suc 0 * b) (held_to (op_by cols i)))
    where
      go : Dec ((op_by cols j).start + suc 0 * b < held_to (op_by cols i)) → InTime (held_to (op_by cols i)) (op_by cols j).start m q
      go (yes near) = omega (arith, x m j ((fits.exact j).1 (l, (board, near))) (ap (shares (via F 0 m (bit_and R (op_by cols i).modes))) (all.each j l) ∙ e))
      go (no near) = let one : 1 ≤ suc m = omega arith in omega (arith, mul-le-mul one h)

  holder_turning : (q : ℕ) → HolderFine F cols R i q → Turning q
  unfolding HolderFine TurnsFine
  holder_turning q x m j z e =
      let (l, may) = (fits.exact j).0 z in
      omega (arith, x m j l may.0 (sym (ap (shares (via F 0 m (bit_and R (op_by cols i).modes))) (all.each j l)) ∙ e))

  pub raised_holder : {r : ℕ} → Raised b Turning r → Raised b (HolderFine F cols R i) r
  raised_holder x =
      record {
        exact = λ q. (
          λ h. let (l, y) = (x.exact q).0 h in (l, turning_holder q l y),
          λ (l, y). (x.exact q).1 (l, holder_turning q y),
        );
      }

-- ---- all of them, of a table

module _ (T : Table) (ok : Accepted T) (F : List ℕ) (turns : TurnsOf T F) (cols : List Dated) (C : Columns T cols) (R : ℕ) where
  abbrev pub Holders : ℕ → Type 0
  Holders g = Each (HolderFine F cols R) 32 g

  holders_let_go : (g : ℕ) → Holders g → LetGo T R g
  unfolding HolderFine
  holders_let_go g x i hi n j hj b e =
      let li : i < 32 = omega (arith, ok.ops_high) in
      let lj : j < 32 = omega (arith, ok.ops_high) in
      let first = subst (λ (o : Op). LetsGo F R n g o (op_by cols j)) (C.each i li) (x i li n j lj) in
      subst (λ (u : Op). LetsGo F R n g (op T i) u) (C.each j lj) first b
      (ap (λ (s : ℕ). shares s (op T j).modes) (turns 0 n (bit_and R (op T i).modes)) ∙ e)

  -- an operation past the last has no board
  let_go_holders : (g : ℕ) → LetGo T R g → Holders g
  unfolding HolderFine
  let_go_holders g x i li m j lj =
      let first = subst⁻¹ (λ (o : Op). LetsGo F R m g o (op T j)) (C.each i li) lets in
      subst⁻¹ (λ (u : Op). LetsGo F R m g (op_by cols i) u) (C.each j lj) first
    where
      lets : LetsGo F R m g (op T i) (op T j)
      lets (k, bi, bj) e =
          x i (op_there_lem T (λ o. o.boards) refl i k bi) m j (op_there_lem T (λ o. o.boards) refl j k bj) (k, bi, bj)
          (sym (ap (λ (s : ℕ). shares s (op T j).modes) (turns 0 m (bit_and R (op T i).modes))) ∙ e)

  -- what serves is what both bounds allow
  module _ (reach : IsReach T R) (b : ℕ) (bound : IsBound T R b) (r : ℕ) (x : Raised b Holders r) where
    serves_from : (g : ℕ) → 1 ≤ g → r ≤ g → Serves T g
    serves_from g low h =
        let (l, y) = (x.exact g).0 h in
        (gap_iff T ok g).1 (
          (clear_let_go T R reach g low).1 (holders_let_go g y),
          values_clear T ok g ((values_said T ok R reach b g bound low).0 l),
        )

    serves_not_below : (g : ℕ) → 1 ≤ g → Serves T g → r ≤ g
    serves_not_below g low y =
        (x.exact g).1 (
          (values_said T ok R reach b g bound low).1 (serves_right T g y).values,
          let_go_holders g ((clear_let_go T R reach g low).0 ((gap_iff T ok g).0 y).0),
        )

    pub raised_gap : IsGap T r
    raised_gap =
        let low : 1 ≤ r = omega (arith, bound.low, raised_up x) in
        record {
          low = low;
          high = serves_not_below T.len ok.len_low (length_serves T ok);
          serves = serves_from r low (omega arith);
          least = λ g h l y. omega (arith, serves_not_below g h y);
        }
