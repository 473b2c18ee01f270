-- The starred bench tables: one list, one claim, one computation.
-- Assumes nothing.
use Prim.Native.Nat.{ℕ}
use mathlib.Core.Path.{◌≡◌, refl, subst}
use mathlib.Core.Bool.{Bool}
use mathlib.Core.List.{List, [], ◌∷◌, map}
use lib.IntN.{ℤ}
use Rattle.rules.specs.Rows.{Reply, margin}
use Rattle.rules.specs.Verdicts.{Verdict, accepted, ◌then◌, onwards}
use Rattle.rules.specs.Judge.{judge}
use Rattle.rules.specs.Answers.{ReplyTo, BoardsFit, ValuesArrive, IsGapOf, margin_test}
use Rattle.rules.specs.Bench.{Case, replies, margins, fits, arrives, gaps, Holds, All, bench, decider_bench, hold_bench, renamed_bench, gap_bench}
use Rattle.theory.specs.Tests.{plan_of, boards_answer, values_answer, gap_answer}
use Rattle.theory.proofs.Answering.{reply_found, boards_found, values_found, gap_of_found}

-- an answer of each kind
data Said : Type 0 where
  replied : Verdict Reply → Said
  measured : Verdict ℤ → Said
  decided : Verdict Bool → Said
  spread : Verdict ℕ → Said

-- what is computed for a case, and what stands beside it
computed : Case → Said
unfolding plan_of onwards judge margin_test ◌then◌ margin boards_answer values_answer gap_answer
computed (replies s v) = replied (plan_of s)
computed (margins s i j n q v) = measured (onwards (judge s) (λ T. margin_test T i j n q then accepted (margin T i j n q)))
computed (fits s q v) = decided (boards_answer s q)
computed (arrives s q v) = decided (values_answer s q)
computed (gaps s v) = spread (gap_answer s)

expected : Case → Said
expected (replies s v) = replied v
expected (margins s i j n q v) = measured v
expected (fits s q v) = decided v
expected (arrives s q v) = decided v
expected (gaps s v) = spread v

-- a case whose answer is computed holds
computed_holds : (c : Case) → computed c ≡ expected c → Holds c
unfolding computed expected Holds
computed_holds (replies s v) e = let same : plan_of s ≡ v = cc in subst (λ (x : Verdict Reply). ReplyTo s x) same (reply_found s)
computed_holds (margins s i j n q v) e = cc
computed_holds (fits s q v) e = let same : boards_answer s q ≡ v = cc in subst (λ (x : Verdict Bool). BoardsFit s q x) same (boards_found s q)
computed_holds (arrives s q v) e = let same : values_answer s q ≡ v = cc in subst (λ (x : Verdict Bool). ValuesArrive s q x) same (values_found s q)
computed_holds (gaps s v) e = let same : gap_answer s ≡ v = cc in subst (λ (x : Verdict ℕ). IsGapOf s x) same (gap_of_found s)

all_computed : (cs : List Case) → map computed cs ≡ map expected cs → All Holds cs
unfolding All
all_computed [] e = tt
all_computed (c ∷ cs) e =
    let here : computed c ≡ expected c = cc in
    let rest : map computed cs ≡ map expected cs = cc in
    (computed_holds c here, all_computed cs rest)

computes : map computed bench ≡ map expected bench
unfolding computed expected bench
computes = refl

-- K1 to K10, K1's two margins, and the two questions about K4 at 3 and K7 at 2, each with its whole answer
pub bench_holds : All Holds bench
bench_holds = all_computed bench computes

-- document 02, No. 4: tables with a decider
decider_computes : map computed decider_bench ≡ map expected decider_bench
unfolding computed expected decider_bench
decider_computes = refl

pub decider_bench_holds : All Holds decider_bench
decider_bench_holds = all_computed decider_bench decider_computes

-- document 02, No. 9: tables with a hold
hold_computes : map computed hold_bench ≡ map expected hold_bench
unfolding computed expected hold_bench
hold_computes = refl

pub hold_bench_holds : All Holds hold_bench
hold_bench_holds = all_computed hold_bench hold_computes

-- document 02, No. 12: tables before and after, and refused ones
renamed_computes : map computed renamed_bench ≡ map expected renamed_bench
unfolding computed expected renamed_bench
renamed_computes = refl

pub renamed_bench_holds : All Holds renamed_bench
renamed_bench_holds = all_computed renamed_bench renamed_computes

-- document 02, No. 6: gaps
gap_computes : map computed gap_bench ≡ map expected gap_bench
unfolding computed expected gap_bench
gap_computes = refl

pub gap_bench_holds : All Holds gap_bench
gap_bench_holds = all_computed gap_bench gap_computes
