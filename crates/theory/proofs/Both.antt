-- "A period is right exactly when both say yes": said of the two answers, for every input.
-- Assumes nothing.
use Prim.Native.Nat.{ℕ, ◌<◌, ◌≤◌}
use mathlib.Core.Path.{◌≡◌, refl}
use mathlib.Core.Bool.{Bool, true}
use mathlib.Core.Logic.{◌↔◌}
use mathlib.Core.List.{List}
use native.Mathlib.Omega.{arith}
use Rattle.rules.specs.Table.{Table}
use Rattle.rules.specs.Runs.{Right, IsPeriod}
use Rattle.rules.specs.Verdicts.{Verdict, accepted, refused}
use Rattle.rules.specs.Judge.{judge}
use Rattle.rules.specs.Answers.{Answers, IsPeriodOf, asked_table, YesFor, YesNo, Fit, BoardsFit, Arrive, ValuesArrive}
use Rattle.theory.proofs.Asking.{answered_first, accepted_answers, answered_refused, yes_first, yes_said}
use Rattle.theory.proofs.Answering.{boards_unique, values_unique}

-- the two questions are refused alike
pub same_refusals : (P Q : Table → ℕ → Type 0) (s : List ℕ) (q : ℕ) (v w : Verdict Bool) (n a b : ℕ) → YesNo P s q v → YesNo Q s q w
    → v ≡ refused n a b → w ≡ refused n a b
unfolding Answers
same_refusals P Q s q v w n a b said other e = rw (answered_refused (YesFor P q) (asked_table s q) v said e) at other

module _ (s : List ℕ) (q : ℕ) where
  -- both say yes exactly where the table is accepted, q is from 1 to its length, and q is right
  pub both_yes : (v w : Verdict Bool) → BoardsFit s q v → ValuesArrive s q w
      → ((v ≡ accepted true) × (w ≡ accepted true)) ↔ ((T : Table) × (judge s ≡ accepted T) × (1 ≤ q) × (q ≤ T.len) × Right T q)
  both_yes v w boards values = (
    λ (e, f).
        let (T, read, low, high, fit) = yes_first Fit s q boards e in
        let (U, again, _, _, arrive) = yes_first Arrive s q values f in
        let same : U ≡ T = cc (read, again) in
        (T, read, low, high, record { boards = fit; values = rw same at arrive }),
    λ (T, read, low, high, right). (
      boards_unique s q v (accepted true) boards (yes_said Fit s q T read low high right.boards),
      values_unique s q w (accepted true) values (yes_said Arrive s q T read low high right.values),
    ),
  )

  -- the period is the smallest at which both say yes
  pub period_both : IsPeriodOf s (accepted q)
      ↔ (BoardsFit s q (accepted true) × ValuesArrive s q (accepted true)
      × ((p : ℕ) → p < q → BoardsFit s p (accepted true) → ValuesArrive s p (accepted true) → ⊥))
  period_both = (
    λ is.
        let (T, read, period) = answered_first IsPeriod (judge s) (accepted q) is refl in (
          yes_said Fit s q T read period.low period.high period.right.boards,
          yes_said Arrive s q T read period.low period.high period.right.values,
          below T read period,
        ),
    λ (boards, values, none).
        let (T, read, low, high, fit) = yes_first Fit s q boards refl in
        let (U, again, _, _, arrive) = yes_first Arrive s q values refl in
        let same : U ≡ T = cc (read, again) in
        accepted_answers IsPeriod read (smallest T read low high (record { boards = fit; values = rw same at arrive }) none),
  )
    where
      below : (T : Table) → judge s ≡ accepted T → IsPeriod T q → (p : ℕ) → p < q → BoardsFit s p (accepted true) → ValuesArrive s p (accepted true) → ⊥
      below T read period p less boards values =
          let (U, again, low, _, fit) = yes_first Fit s p boards refl in
          let (W, other, _, _, arrive) = yes_first Arrive s p values refl in
          let same : U ≡ T = cc (read, again) in
          let too : W ≡ T = cc (read, other) in
          period.least p low less (record { boards = rw same at fit; values = rw too at arrive })

      smallest : (T : Table) → judge s ≡ accepted T → 1 ≤ q → q ≤ T.len → Right T q
          → ((p : ℕ) → p < q → BoardsFit s p (accepted true) → ValuesArrive s p (accepted true) → ⊥) → IsPeriod T q
      smallest T read low high right none =
          record {
            low = low;
            high = high;
            right = right;
            least = λ p some less fine.
                none p less (yes_said Fit s p T read some (omega arith) fine.boards) (yes_said Arrive s p T read some (omega arith) fine.values);
          }
