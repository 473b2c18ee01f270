-- Document 02, No. 1, on the bench: the list of tables with their places, one claim and one computation; and "Demand 3 says nothing about places."
-- Assumes nothing.
use Prim.Native.Nat.{ℕ, zero, suc, ◌<◌}
use mathlib.Core.Path.{◌≡◌, refl, subst}
use mathlib.Core.List.{List, [], ◌∷◌, map}
use native.Mathlib.Omega.{arith}
use Rattle.rules.specs.Table.{Table, op, Accepted}
use Rattle.rules.specs.Runs.{IsPeriod}
use Rattle.rules.specs.Better.{OpBetter, Better}
use Rattle.rules.specs.Places.{Enough, IsPlaces}
use Rattle.rules.specs.Verdicts.{Verdict}
use Rattle.rules.specs.Bytes.{table_bytes}
use Rattle.rules.specs.Judge.{judge}
use Rattle.rules.specs.Answers.{PlacesTo}
use Rattle.rules.specs.Bench.{All, PlacesCase, PlacesHold, places_bench, crossing, slow_board, quick_board}
use Rattle.theory.specs.Tests.{period_of}
use Rattle.theory.proofs.Says.{clash_bool}
use Rattle.theory.proofs.Judging.{judge_accepted}
use Rattle.theory.proofs.Exists.{period_found}
use Rattle.lives.specs.ByWalks.{differs, places_of, places_answer}
use Rattle.lives.proofs.ByWalks.{says_enough, places_found}
use Rattle.lives.proofs.Answered.{places_to_found}

-- ---- the bench

-- a case whose answer is computed holds
computed_holds : (k : PlacesCase) → places_answer k.bytes ≡ k.verdict → PlacesHold k
unfolding PlacesHold
computed_holds k e = subst (λ (v : Verdict (List ℕ)). PlacesTo k.bytes v) e (places_to_found k.bytes)

all_computed : (ks : List PlacesCase) → map (λ (k : PlacesCase). places_answer k.bytes) ks ≡ map (λ (k : PlacesCase). k.verdict) ks → All PlacesHold ks
unfolding All
all_computed [] e = tt
all_computed (k ∷ ks) e =
    let here : places_answer k.bytes ≡ k.verdict = cc in
    let rest : map (λ (x : PlacesCase). places_answer x.bytes) ks ≡ map (λ (x : PlacesCase). x.verdict) ks = cc in
    (computed_holds k here, all_computed ks rest)

places_computes : map (λ (k : PlacesCase). places_answer k.bytes) places_bench ≡ map (λ (k : PlacesCase). k.verdict) places_bench
unfolding places_answer places_bench
places_computes = refl

-- K1 to K9, tables for each sentence of the request, and refusals, each with its whole answer
pub places_bench_holds : All PlacesHold places_bench
places_bench_holds = all_computed places_bench places_computes

-- ---- "Demand 3 says nothing about places."

slow_accepted : Accepted slow_board
unfolding judge table_bytes
slow_accepted = judge_accepted (table_bytes slow_board) slow_board refl

quick_accepted : Accepted quick_board
unfolding judge table_bytes
quick_accepted = judge_accepted (table_bytes quick_board) quick_board refl

slow_period : IsPeriod slow_board 6
unfolding period_of
slow_period = period_found slow_board slow_accepted

quick_period : IsPeriod quick_board 3
unfolding period_of
quick_period = period_found quick_board quick_accepted

quick_better : Better slow_board quick_board
quick_better = record { len = refl; count = refl; each = same; firsts = λ m h. h; turns = λ a m h. h; decider = refl }
  where
    same : (i : ℕ) → i < 3 → OpBetter (op slow_board i) (op quick_board i)
    same zero h = record { start = refl; reads = refl; writes = refl; modes = refl; dur = omega arith; hold = omega arith; boards = λ m x. x }
    same (suc zero) h = record { start = refl; reads = refl; writes = refl; modes = refl; dur = omega arith; hold = omega arith; boards = λ m x. x }
    same (suc (suc zero)) h = record { start = refl; reads = refl; writes = refl; modes = refl; dur = omega arith; hold = omega arith; boards = λ m x. x }
    same (suc (suc (suc i))) h = absurd (omega arith)

-- the second table is accepted like the first and better known; its period falls from 6 to 3, and its cell needs 2 places where it needed 1
pub record Raises (first second : Table) (q s R S : ℕ) : Type 0 where
  pub accepted_first : Accepted first
  pub accepted_second : Accepted second
  pub better : Better first second
  pub period_first : IsPeriod first q
  pub period_second : IsPeriod second s
  pub places_first : IsPlaces first q 0 R
  pub places_second : IsPlaces second s 0 S
  pub shorter : s < q
  pub more : R < S

pub better_raises : Raises slow_board quick_board 6 3 1 2
unfolding places_of
better_raises =
    record {
      accepted_first = slow_accepted;
      accepted_second = quick_accepted;
      better = quick_better;
      period_first = slow_period;
      period_second = quick_period;
      places_first = places_found slow_board slow_accepted 0 6 slow_period.right.values (omega arith);
      places_second = places_found quick_board quick_accepted 0 3 quick_period.right.values (omega arith);
      shorter = omega arith;
      more = omega arith;
    }

-- ---- more places may not be enough where fewer are: at its period the crossing writes need 2 places, and 3 are not enough

crossing_accepted : Accepted crossing
unfolding judge table_bytes
crossing_accepted = judge_accepted (table_bytes crossing) crossing refl

crossing_period : IsPeriod crossing 1
unfolding period_of
crossing_period = period_found crossing crossing_accepted

pub crossing_places : IsPeriod crossing 1 × (IsPlaces crossing 1 0 2 × (Enough crossing 1 0 3 → ⊥))
unfolding places_of differs
crossing_places = (
  crossing_period,
  (
    places_found crossing crossing_accepted 0 1 crossing_period.right.values (omega arith),
    λ e. clash_bool ((says_enough crossing crossing_accepted 0 1 3 crossing_period.right.values (omega arith) (omega arith)).1 e) refl,
  ),
)
