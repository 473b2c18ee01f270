-- What the search for one cell knows, row by row, and what it is asked for of a table that the engine takes.
-- Assumes nothing.
use Rattle.std.specs.Prelude.{ℕ, ◌+◌, ◌*◌, ◌%◌, ◌^◌, ◌<◌, ◌≤◌, ◌≡◌, refl, List, ◌↔◌, length, get_or, take}
use Rattle.std.proofs.Common.{subst, ◌∙◌, arith, length-take, get_or-take}
use Rattle.std.proofs.Math.Path.{subst⁻¹}
use Rattle.std.proofs.Math.Decide.{dec_lt}
use Rattle.rules.specs.Sets.{In}
use Rattle.rules.specs.Table.{Op, Table, Accepted}
use Rattle.rules.specs.Runs.{ValuesRightAt, spaced}
use Rattle.rules.specs.Places.{IsPlaces, EachPlaces}
use Rattle.theory.specs.Tests.{step, via}
use Rattle.theory.proofs.Sets.{in_single}
use Rattle.theory.proofs.Modes.{in_step}
use Rattle.lives.specs.Left.{Most, Used, IsRow, Farther, Few}
use Rattle.lives.proofs.Rows.{ring_first, searched_none, searched_bound, searched_more, searched_places}
use Rattle.columns.specs.Columns.{op_by, Columns}
use Rattle.columns.specs.declared.Dated.{Dated}
use Rattle.turns.specs.Turns.{TurnsOf}
use Rattle.cells.specs.Cells.{Turned}
use Rattle.counting.specs.Counting.{ReadersOf, WritersOf}
use Rattle.ranks.specs.Ranks.{CountsOf}
use Rattle.ring.specs.Ring.{Carried}
use Rattle.ring.specs.RingLaws.{carried_next}
use Rattle.offers.specs.Offers.{UsesOf}
use Rattle.remains.specs.Remains.{FollowsOf}
use Rattle.places.specs.Search.{Known}

-- ---- of a table

-- one turn from one mode
step_one : (F : List ℕ) (m b : ℕ) → In b (step F (2 ^ m)) ↔ In b (get_or F m 0)
step_one F m b = (
  λ h. let (a, x, y) = (in_step F (2 ^ m) b).0 h in subst (λ (k : ℕ). In b (get_or F k 0)) ((in_single a m).0 x) y,
  λ h. (in_step F (2 ^ m) b).1 (m, (in_single m m).1 refl, h),
)

pub follows_of : (T : Table) (F : List ℕ) → TurnsOf T F → FollowsOf T F
unfolding via
follows_of T F turns m b h =
    let same : step F (2 ^ m) ≡ step T.follow (2 ^ m) = turns 0 0 (2 ^ m) in (
      λ x. (step_one T.follow m b).0 (subst (λ (s : ℕ). In b s) same ((step_one F m b).1 x)),
      λ x. (step_one F m b).0 (subst⁻¹ (λ (s : ℕ). In b s) same ((step_one T.follow m b).1 x)),
    )

module _ (T : Table) (cols : List Dated) (C : Columns T cols) (users : List ℕ) (c : ℕ) (small : c < 32) where
  pub writers_of : Turned (λ k. (op_by cols k).writes) users → WritersOf T c (get_or users c 0)
  writers_of turned u = (
    λ h. let (l, x) = (turned.each c u small).0 h in (l, subst (λ (o : Op). In c o.writes) (C.each u l) x),
    λ (l, x). (turned.each c u small).1 (l, subst⁻¹ (λ (o : Op). In c o.writes) (C.each u l) x),
  )

  pub readers_of : Turned (λ k. (op_by cols k).reads) users → ReadersOf T c (get_or users c 0)
  readers_of turned u = (
    λ h. let (l, x) = (turned.each c u small).0 h in (l, subst (λ (o : Op). In c o.reads) (C.each u l) x),
    λ (l, x). (turned.each c u small).1 (l, subst⁻¹ (λ (o : Op). In c o.reads) (C.each u l) x),
  )

-- ---- row by row

module _ (T : Table) (ok : Accepted T) (q c : ℕ) where
  -- before the first only uses wait
  pub known_first : (ring : List ℕ) → UsesOf T c ring → Known T q c 0 0 0 ring
  known_first ring uses =
      record {
        searched = searched_none T ok q c;
        waits =
            record {
              stands = refl;
              waits =
                  ring_first T ok q c (λ t m. get_or ring (32 * (t % 33) + m) 0)
                  (λ t m h l. let at : t ≡ t % 33 = omega arith in subst (λ (k : ℕ). Most (Used T c t m) (get_or ring (32 * k + m) 0)) at (uses t m h l));
            };
      }

  module _ {s far slot : ℕ} {ring : List ℕ} (k : Known T q c s far slot ring) where
    pub known_more : (row counts new : List ℕ) (r next : ℕ) → s ≤ far → CountsOf T c counts → Few counts → IsRow T q c s (λ b. get_or row b 0)
        → Farther T c s (λ b. get_or row b 0) 32 far r → Carried row counts slot 32 ring new → next ≡ (slot + 1) % 33
        → Known T q c (s + 1) r next new
    known_more row counts new r next h count few made farther carried e =
        record {
          searched = searched_more T ok q c s far k.searched (λ b. get_or row b 0) r h made farther;
          waits =
              record {
                stands = omega (arith, k.waits.stands);
                waits = carried_next T ok q c s slot row counts ring new k.waits.stands count few k.waits.waits made carried;
              };
        }

    -- the first number that no row below it reaches
    pub known_places : ValuesRightAt T (spaced q) → far < s → IsPlaces T q c s
    known_places values h = searched_places T ok q c s far k.searched values (omega arith) h

    -- it comes before 32,001 is passed
    pub known_never : 1 ≤ q → s ≤ far → s ≡ 32001 → ⊥
    known_never low h e = omega (arith, searched_bound T ok q c s far k.searched low h)

    -- so it is that at the latest
    pub known_last : 1 ≤ q → ValuesRightAt T (spaced q) → s ≡ 32001 → IsPlaces T q c 32001
    known_last low values e = subst (λ (n : ℕ). IsPlaces T q c n) e (known_places values (go (dec_lt far s)))
      where
        go : Dec (far < s) → far < s
        go (yes h) = h
        go (no h) = absurd (known_never low (omega arith) e)

-- ---- cell by cell
pub each_all : (T : Table) (q : ℕ) (out : List ℕ) → T.cells ≤ length out → ((c : ℕ) → c < T.cells → IsPlaces T q c (get_or out c 0))
    → EachPlaces T q (take T.cells out)
each_all T q out h each =
    record {
      size = length-take T.cells out ∙ omega arith;
      each = λ c l. subst⁻¹ (λ (r : ℕ). IsPlaces T q c r) (get_or-take T.cells out c 0 l) (each c l);
    }
