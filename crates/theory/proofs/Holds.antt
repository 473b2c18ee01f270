-- Document 02, No. 9: "Boards are held until start + duration + hold ..; cells, EARLY and margins still go by the duration." What does not go by the
-- holds is the same for a table without them, accepted or not; and the boards do go by them.
-- Assumes nothing.
use Prim.Native.Nat.{ℕ, zero, suc, ◌-◌, ◌*◌, ◌<◌, ◌≤◌}
use mathlib.Core.Path.{◌≡◌, refl, ap, subst, subst⁻¹, ◌∙◌}
use mathlib.Core.Bool.{not, false≢true}
use mathlib.Core.List.{List}
use mathlib.Core.Logic.{◌↔◌}
use native.Mathlib.Omega.{arith}
use lib.IntN.{pos, ◌-ℤ◌}
use lib.ListN.{length-map, get_or-map}
use Rattle.rules.specs.Sets.{In}
use Rattle.rules.specs.Table.{Op, Decider, nobody, decides, Table, nops, no_op, op, end_of, Clash, Race, Always, Decided, OpOk, Accepted}
use Rattle.rules.specs.Runs.{mode, IsRun, Runs, plain_start, Source, BoardsRightAt, ValuesRightAt, RightAt, Right, spaced, IsPeriod}
use Rattle.rules.specs.Rows.{margin}
use Rattle.rules.specs.Better.{OpBetter, Better}
use Rattle.rules.specs.Verdicts.{accepted, RACE, EARLY, refuse_if, ◌then◌, each}
use Rattle.rules.specs.Bytes.{table_bytes}
use Rattle.rules.specs.Judge.{races, pairs_test, always, early, early_test, judge}
use Rattle.rules.specs.Answers.{Arrive}
use Rattle.rules.specs.Bench.{k1, k1_held}
use Rattle.theory.specs.Holds.{unheld, without_holds, OpBetterButHold, BetterButHolds}
use Rattle.theory.specs.Tests.{rightb, period_of}
use Rattle.theory.proofs.Exists.{says_right, period_found}
use Rattle.theory.proofs.Carry.{better_period}
use Rattle.theory.proofs.Judging.{judge_accepted}

-- ---- two operations

-- "They race when they share a mode and overlap": by the duration, as definition and as test
module _ (o u : Op) where
  pub race_unheld : Race (unheld o) (unheld u) ↔ Race o u
  race_unheld = (λ x. record { mode = x.mode; lap = x.lap; cell = x.cell }, λ x. record { mode = x.mode; lap = x.lap; cell = x.cell })

  pub races_unheld : races (unheld o) (unheld u) ≡ races o u
  unfolding races
  races_unheld = refl

  -- what clashes without holds clashes with them
  clash_unheld : Clash (unheld o) (unheld u) → Clash o u
  clash_unheld x = record { board = x.board; mode = x.mode; lap = (omega (arith, x.lap.0), omega (arith, x.lap.1)) }

-- ---- a table

module _ (T : Table) where
  abbrev U : Table
  U = without_holds T

  count_unheld : nops U ≡ nops T
  count_unheld = length-map T.ops unheld

  op_unheld : (i : ℕ) → op U i ≡ unheld (op T i)
  op_unheld i = get_or-map unheld T.ops i no_op

  -- the same as one equation of functions, for the rows of tests
  ops_unheld : ◌≡◌ {A = ℕ → Op} (λ i. op U i) (λ i. unheld (op T i))
  ops_unheld t i = op_unheld i t

  -- ---- runs and sources: "cells .. still go by the duration"

  run_held : {r : List ℕ} → IsRun U r → IsRun T r
  run_held x = record { some = x.some; begins = x.begins; goes = x.goes }

  run_unheld : {r : List ℕ} → IsRun T r → IsRun U r
  run_unheld x = record { some = x.some; begins = x.begins; goes = x.goes }

  runs_unheld : (r : List ℕ) (k i : ℕ) → Runs U r k i ↔ Runs T r k i
  runs_unheld r k i = (
    λ x.
        record {
          cycle = x.cycle;
          is_op = omega (arith, x.is_op, count_unheld);
          in_mode = subst (λ (o : Op). In (mode r k) o.modes) (op_unheld i) x.in_mode;
        },
    λ x.
        record {
          cycle = x.cycle;
          is_op = omega (arith, x.is_op, count_unheld);
          in_mode = subst⁻¹ (λ (o : Op). In (mode r k) o.modes) (op_unheld i) x.in_mode;
        },
  )

  writes_unheld : (c i : ℕ) → In c (op U i).writes ↔ In c (op T i).writes
  writes_unheld c i = (subst (λ (o : Op). In c o.writes) (op_unheld i), subst⁻¹ (λ (o : Op). In c o.writes) (op_unheld i))

  reads_unheld : (c i : ℕ) → In c (op U i).reads ↔ In c (op T i).reads
  reads_unheld c i = (subst (λ (o : Op). In c o.reads) (op_unheld i), subst⁻¹ (λ (o : Op). In c o.reads) (op_unheld i))

  start_unheld : (i : ℕ) → (op U i).start ≡ (op T i).start
  start_unheld i = ap (λ (o : Op). o.start) (op_unheld i)

  end_unheld : (i : ℕ) → end_of (op U i) ≡ end_of (op T i)
  end_unheld i = ap end_of (op_unheld i)

  pub source_unheld : (r : List ℕ) (c d i k : ℕ) → Source U r c d i k ↔ Source T r c d i k
  source_unheld r c d i k = (
    λ x.
        record {
          runs = (runs_unheld r k i).0 x.runs;
          writes = (writes_unheld c i).0 x.writes;
          before = omega (arith, x.before, end_unheld i);
          last = λ u m y w h.
              let last = x.last u m ((runs_unheld r m u).1 y) ((writes_unheld c u).1 w) (omega (arith, h, end_unheld u)) in
              omega (arith, end_unheld u, end_unheld i);
        },
    λ x.
        record {
          runs = (runs_unheld r k i).1 x.runs;
          writes = (writes_unheld c i).1 x.writes;
          before = omega (arith, x.before, end_unheld i);
          last = λ u m y w h.
              let last = x.last u m ((runs_unheld r m u).0 y) ((writes_unheld c u).0 w) (omega (arith, h, end_unheld u)) in
              omega (arith, end_unheld u, end_unheld i);
        },
  )

  -- the date of a reader, too, is the same
  source_at : (r : List ℕ) (c i k j l : ℕ) → Source U r c (plain_start U j l) i k ↔ Source T r c (plain_start T j l) i k
  source_at r c i k j l =
      let date : plain_start U j l ≡ plain_start T j l = omega (arith, start_unheld j) in
      let same = source_unheld r c (plain_start T j l) i k in (
        λ x. same.0 (subst (λ (d : ℕ). Source U r c d i k) date x),
        λ x. subst⁻¹ (λ (d : ℕ). Source U r c d i k) date (same.1 x),
      )

  -- ---- right: values arrive at the same dates, and boards that fit with the holds fit without them; whatever the dates at which the cycles start

  pub values_unheld : (start : ℕ → ℕ) → ValuesRightAt U start ↔ ValuesRightAt T start
  unfolding ValuesRightAt
  values_unheld start = (
    λ right r run c i k j l y v src.
        let fine = right r (run_unheld run) c i k j l ((runs_unheld r l j).1 y) ((reads_unheld c j).1 v) ((source_at r c i k j l).1 src) in
        omega (arith, end_unheld i, start_unheld j),
    λ right r run c i k j l y v src.
        let fine = right r (run_held run) c i k j l ((runs_unheld r l j).0 y) ((reads_unheld c j).0 v) ((source_at r c i k j l).0 src) in
        omega (arith, end_unheld i, start_unheld j),
  )

  pub arrive_unheld : (q : ℕ) → Arrive U q ↔ Arrive T q
  arrive_unheld q = values_unheld (spaced q)

  pub boards_unheld : (start : ℕ → ℕ) → BoardsRightAt T start → BoardsRightAt U start
  unfolding BoardsRightAt
  boards_unheld start right r run i k j l x y ne (b, here, there) lap =
      right r (run_held run) i k j l ((runs_unheld r k i).0 x) ((runs_unheld r l j).0 y) ne
      (b, subst (λ (o : Op). In b o.boards) (op_unheld i) here, subst (λ (o : Op). In b o.boards) (op_unheld j) there)
      (omega (arith, lap.0, start_unheld i, end_unheld j, none j), omega (arith, lap.1, start_unheld j, end_unheld i, none i))
    where
      none : (n : ℕ) → (op U n).hold ≡ 0
      none n = ap (λ (o : Op). o.hold) (op_unheld n)

  pub right_unheld : (start : ℕ → ℕ) → RightAt T start → RightAt U start
  right_unheld start x = record { boards = boards_unheld start x.boards; values = (values_unheld start).1 x.values }

  -- ---- "margins still go by the duration"
  pub margin_unheld : (i j n q : ℕ) → margin U i j n q ≡ margin T i j n q
  unfolding margin
  margin_unheld i j n q =
      ap (λ (e : ℕ). pos (n * q) -ℤ (pos e -ℤ pos (op U j).start)) (end_unheld i)
      ∙ ap (λ (t : ℕ). pos (n * q) -ℤ (pos (end_of (op T i)) -ℤ pos t)) (start_unheld j)

  -- ---- RACE and EARLY, as tests: the same verdict with the same figures
  pub race_test_unheld : pairs_test races RACE U ≡ pairs_test races RACE T
  unfolding pairs_test races
  race_test_unheld =
      ap (λ (f : ℕ → Op). each (λ i. each (λ j. refuse_if (races (f i) (f j)) RACE i j) (suc i) (nops U - suc i)) 0 (nops U)) ops_unheld
      ∙ ap (λ (n : ℕ). each (λ i. each (λ j. refuse_if (races (op T i) (op T j)) RACE i j) (suc i) (n - suc i)) 0 n) count_unheld

  pub early_unheld : (who : Decider) → early_test U who ≡ early_test T who
  unfolding early_test early always
  early_unheld nobody = refl
  early_unheld (decides d) =
      ap (λ (f : ℕ → Op). refuse_if (not (always T (f d))) EARLY d d then each (λ i. refuse_if (early T (f d) (f i)) EARLY d i) 0 (nops U)) ops_unheld
      ∙ ap (λ (n : ℕ). refuse_if (not (always T (op T d))) EARLY d d then each (λ i. refuse_if (early T (op T d) (op T i)) EARLY d i) 0 n) count_unheld

  -- and as definitions
  always_unheld : (i : ℕ) → Always U (op U i) ↔ Always T (op T i)
  always_unheld i = (subst (λ (o : Op). Always T o) (op_unheld i), subst⁻¹ (λ (o : Op). Always T o) (op_unheld i))

  pub decided_unheld : (who : Decider) → Decided U who ↔ Decided T who
  decided_unheld nobody = (λ x. x, λ x. x)
  decided_unheld (decides d) = (
    λ x.
        record {
          is_op = omega (arith, x.is_op, count_unheld);
          always = (always_unheld d).0 x.always;
          later = λ i h n.
              omega (arith, x.later i (omega (arith, h, count_unheld)) (λ a. n ((always_unheld i).0 a)), end_unheld d, start_unheld i);
        },
    λ x.
        record {
          is_op = omega (arith, x.is_op, count_unheld);
          always = (always_unheld d).1 x.always;
          later = λ i h n.
              omega (arith, x.later i (omega (arith, h, count_unheld)) (λ a. n ((always_unheld i).1 a)), end_unheld d, start_unheld i);
        },
  )

  -- ---- an accepted table is accepted without its holds

  op_ok_unheld : (o : Op) → OpOk T o → OpOk U (unheld o)
  op_ok_unheld o x =
      record { lasts = x.lasts; fits = omega (arith, x.fits); boards = x.boards; reads = x.reads; writes = x.writes; modes = x.modes }

  pub unheld_accepted : Accepted T → Accepted U
  unheld_accepted ok =
      record {
        len_low = ok.len_low;
        len_high = ok.len_high;
        boards_low = ok.boards_low;
        boards_high = ok.boards_high;
        cells_high = ok.cells_high;
        modes_low = ok.modes_low;
        modes_high = ok.modes_high;
        ops_low = omega (arith, ok.ops_low, count_unheld);
        ops_high = omega (arith, ok.ops_high, count_unheld);
        firsts = ok.firsts;
        words = ok.words;
        follows = ok.follows;
        each = λ i h. subst⁻¹ (λ (o : Op). OpOk U o) (op_unheld i) (op_ok_unheld (op T i) (ok.each i (omega (arith, h, count_unheld))));
        no_clash = λ i j h n x.
            ok.no_clash i j h (omega (arith, n, count_unheld)) (clash_unheld (op T i) (op T j) (both (λ o u. Clash o u) i j x));
        no_race = λ i j h n x.
            ok.no_race i j h (omega (arith, n, count_unheld)) ((race_unheld (op T i) (op T j)).0 (both (λ o u. Race o u) i j x));
        decided = (decided_unheld T.decider).1 ok.decided;
      }
    where
      both : (P : Op → Op → Type 0) (i j : ℕ) → P (op U i) (op U j) → P (unheld (op T i)) (unheld (op T j))
      both P i j x = subst (λ (u : Op). P (unheld (op T i)) u) (op_unheld j) (subst (λ (o : Op). P o (op U j)) (op_unheld i) x)

  -- ---- demand 3 speaks of it: "the second table has no longer holds either"
  pub unheld_better : Better T U
  unheld_better =
      record {
        len = refl;
        count = count_unheld;
        each = λ i h.
            subst⁻¹ (λ (u : Op). OpBetter (op T i) u) (op_unheld i)
            (record { start = refl; reads = refl; writes = refl; modes = refl; dur = omega arith; hold = omega arith; boards = λ m x. x });
        firsts = λ m x. x;
        turns = λ a m x. x;
        decider = refl;
      }

  -- so its period is no longer
  pub unheld_period : Accepted T → (q p : ℕ) → IsPeriod T q → IsPeriod U p → p ≤ q
  unheld_period ok = better_period T U ok (unheld_accepted ok) unheld_better

-- ---- "Boards are held until start + duration + hold": K1 with hold 1 has period 4, and 3 without it

abbrev Read : Table → Type 0
Read T = judge (table_bytes T) ≡ accepted T

k1_read : Read k1
unfolding judge table_bytes
k1_read = refl

held_read : Read (k1_held 1)
unfolding judge table_bytes
held_read = refl

k1_ok : Accepted k1
k1_ok = judge_accepted (table_bytes k1) k1 k1_read

held_ok : Accepted (k1_held 1)
held_ok = judge_accepted (table_bytes (k1_held 1)) (k1_held 1) held_read

pub hold_counts : IsPeriod (k1_held 1) 4 × IsPeriod (without_holds (k1_held 1)) 3
unfolding period_of
hold_counts = (period_found (k1_held 1) held_ok, period_found k1 k1_ok)

-- ---- "In demand 3 the second table has no longer holds either"

-- demand 3's relation is the one with no word on holds, and this
pub better_holds : (S T : Table) → Better S T ↔ (BetterButHolds S T × ((i : ℕ) → i < nops S → (op T i).hold ≤ (op S i).hold))
better_holds S T = (
  λ x. (
    record {
      len = x.len;
      count = x.count;
      each = λ i h.
          let y = x.each i h in record { start = y.start; reads = y.reads; writes = y.writes; modes = y.modes; dur = y.dur; boards = y.boards };
      firsts = x.firsts;
      turns = x.turns;
      decider = x.decider;
    },
    λ i h. (x.each i h).hold,
  ),
  λ (x, holds).
      record {
        len = x.len;
        count = x.count;
        each = λ i h.
            let y = x.each i h in
            record { start = y.start; reads = y.reads; writes = y.writes; modes = y.modes; dur = y.dur; hold = holds i h; boards = y.boards };
        firsts = x.firsts;
        turns = x.turns;
        decider = x.decider;
      },
)

-- and without this a period that is right for the first, up to the table's length, need not be right for the second: K1 and K1 with hold 1, at 3
k1_but_held : BetterButHolds k1 (k1_held 1)
k1_but_held = record { len = refl; count = refl; each = same; firsts = λ m x. x; turns = λ a m x. x; decider = refl }
  where
    same : (i : ℕ) → i < 1 → OpBetterButHold (op k1 i) (op (k1_held 1) i)
    same zero h = record { start = refl; reads = refl; writes = refl; modes = refl; dur = omega arith; boards = λ m x. x }
    same (suc i) h = absurd (omega arith)

pub holds_needed : Accepted k1 × Accepted (k1_held 1) × BetterButHolds k1 (k1_held 1) × (3 ≤ k1.len) × Right k1 3 × (Right (k1_held 1) 3 → ⊥)
unfolding rightb
holds_needed = (
  k1_ok,
  held_ok,
  k1_but_held,
  omega arith,
  (says_right k1 k1_ok 3 (omega arith)).0 refl,
  λ x. false≢true ((says_right (k1_held 1) held_ok 3 (omega arith)).1 x),
)
