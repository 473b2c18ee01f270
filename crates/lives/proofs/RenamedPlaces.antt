-- Document 02, No. 12, of the places of each cell: a table with its operations in another order, its boards and its modes renamed has the same, since
-- cells are not renamed. A run of the one is, mode by mode, a run of the other, in which the same values are written and read.
-- Assumes nothing.
use Prim.Native.Nat.{ℕ, ◌*◌, ◌<◌}
use mathlib.Core.Path.{◌≡◌, sym, ap, subst, subst⁻¹, ◌∙◌}
use mathlib.Core.List.{List, map}
use mathlib.Core.Logic.{◌↔◌, inl, inr}
use native.Mathlib.Omega.{arith}
use lib.ListN.{length, get_or, length-map}
use Rattle.rules.specs.Table.{Table, nops, Accepted}
use Rattle.rules.specs.Runs.{mode, IsRun, plain_start, plain_end}
use Rattle.rules.specs.Places.{sum, one, writes_by, Writes, Reads, Unread, Lives, Conflict, Enough, IsPlaces, EachPlaces}
use Rattle.rules.specs.Renamed.{Names, Renamed}
use Rattle.rules.specs.Verdicts.{Verdict, accepted}
use Rattle.rules.specs.Bytes.{table_bytes}
use Rattle.rules.specs.Judge.{judge}
use Rattle.rules.specs.Answers.{Answers, PlacesFor, PlacesTo}
use Rattle.theory.specs.Renamed.{Alike}
use Rattle.theory.specs.Carry.{Carry}
use Rattle.theory.proofs.Says.{says_same}
use Rattle.theory.proofs.Exists.{run_mode}
use Rattle.theory.proofs.Judging.{judge_accepted}
use Rattle.theory.proofs.Asking.{answered_back, accepted_answers}
use Rattle.theory.proofs.Carry.{mode_map, run_of, runs_of, runs_to}
use Rattle.theory.proofs.Alike.{turned, alike_carry}
use Rattle.theory.proofs.Renamed.{place_back, mode_back_of, renamed_alike, renamed_accepted, renamed_period}
use Rattle.theory.proofs.RenamedAnswers.{read_renamed}
use Rattle.lives.proofs.Sums.{sum_same, sum_moved}
use Rattle.lives.proofs.Counts.{says_write_by, counts, in_cycle, writes_by_is}

-- ---- two tables that are alike

module _ (S T : Table) (s t f g : ℕ → ℕ) (okS : Accepted S) (a : Alike S T s t f g) where
  carry : Carry S T s t f
  carry = alike_carry S T s t f g okS a

  -- the plain run has the same dates
  start_alike : (i k : ℕ) → i < nops S → plain_start S i k ≡ plain_start T (s i) k
  start_alike i k h = omega (arith, (a.each i h).start, ap (λ (p : ℕ). k * p) a.len)

  end_alike : (i k : ℕ) → i < nops S → plain_end S i k ≡ plain_end T (s i) k
  end_alike i k h = omega (arith, (a.each i h).start, (a.each i h).dur, ap (λ (p : ℕ). k * p) a.len)

  module _ (r : List ℕ) (run : IsRun S r) (c : ℕ) where
    -- an operation is counted where the one that it is taken to is
    counts_alike : (d k u : ℕ) → k < length r → u < nops S → counts S r c d k u ≡ counts T (map f r) c d k (s u)
    counts_alike d k u x h =
        let p = a.each u h in
        let m = mode_map f r k x in
        let (to, from) = p.modes (mode r k) (run_mode S okS r run k x) in
        ap one
        (says_same _ _ (says_write_by S c (mode r k) (k * S.len) d u) (says_write_by T c (mode (map f r) k) (k * T.len) d (s u))
        (λ w. record { runs = rw m (to w.runs); writes = rw p.writes at w.writes; ends = omega (arith, w.ends, end_alike u k h) })
        (λ w. record { runs = from (rw m at w.runs); writes = rw p.writes w.writes; ends = omega (arith, w.ends, end_alike u k h) }))

    -- as many writes have come
    writes_by_alike : (d e : ℕ) → d ≡ e → writes_by S r c d ≡ writes_by T (map f r) c e
    writes_by_alike d e same =
        ap (writes_by S r c) same
        ∙ writes_by_is S r c e
        ∙ sum_same (in_cycle S r c e) (in_cycle T (map f r) c e) (length r)
        (λ k x. sum_moved (counts S r c e k) (counts T (map f r) c e k) s t (nops S) (nops T) a.there a.back a.over a.onto (λ u h. counts_alike e k u x h))
        ∙ ap (sum (in_cycle T (map f r) c e)) (sym (length-map r f))
        ∙ sym (writes_by_is T (map f r) c e)

    -- the same values are written, read and alive
    writes_alike : (w i k : ℕ) → Writes S r c w i k → Writes T (map f r) c w (s i) k
    writes_alike w i k x =
        let h = x.runs.is_op in
        record {
          runs = runs_of S T s t f carry okS r run k i x.runs;
          writes = rw (a.each i h).writes at x.writes;
          value = sym (writes_by_alike (plain_end S i k) (plain_end T (s i) k) (end_alike i k h)) ∙ x.value;
        }

    reads_alike : (w j l : ℕ) → j < nops S → Reads S r c w j l ↔ Reads T (map f r) c w (s j) l
    reads_alike w j l h =
        let reads = (a.each j h).reads in
        let same = writes_by_alike (plain_start S j l) (plain_start T (s j) l) (start_alike j l h) in (
          λ x. record { runs = runs_of S T s t f carry okS r run l j x.runs; reads = rw reads at x.reads; value = sym same ∙ x.value },
          λ x. record { runs = runs_to S T s t f carry okS r run l j h x.runs; reads = rw reads x.reads; value = same ∙ x.value },
        )

    unread_alike : (w : ℕ) → Unread S r c w → Unread T (map f r) c w
    unfolding Unread
    unread_alike w none j l x =
        let h = x.runs.is_op in
        none (t j) l ((reads_alike w (t j) l (a.back j h)).1 (subst⁻¹ (λ (u : ℕ). Reads T (map f r) c w u l) (a.onto j h) x))

    lives_alike : (w j l : ℕ) → Lives S r c w j l → Lives T (map f r) c w (s j) l
    unfolding Lives
    lives_alike w j l (inl x) = inl ((reads_alike w j l x.runs.is_op).0 x)
    lives_alike w j l (inr (x, none)) = inr (writes_alike w j l x, unread_alike w none)

    lives_op : (w j l : ℕ) → Lives S r c w j l → j < nops S
    unfolding Lives
    lives_op w j l (inl x) = x.runs.is_op
    lives_op w j l (inr (x, none)) = x.runs.is_op

    conflict_alike : (q w v j l i k : ℕ) → Conflict S q r c w v j l i k → Conflict T q (map f r) c w v (s j) l (s i) k
    conflict_alike q w v j l i k x =
        let hi = x.write.runs.is_op in
        let hj = lives_op w j l x.lives in
        record {
          lives = lives_alike w j l x.lives;
          write = writes_alike v i k x.write;
          later = x.later;
          soon = omega (arith, x.soon, (a.each i hi).start, (a.each j hj).start, (a.each j hj).dur);
          other = λ e. x.other (carry.apart i j hi hj e.0, e.1);
        }

  -- what is enough for the one that this is taken to is enough
  alike_enough : (q c R : ℕ) → Enough T q c R → Enough S q c R
  unfolding Enough
  alike_enough q c R enough r run w v j l i k e x =
      enough (map f r) (run_of S T s t f carry okS r run) w v (s j) l (s i) k e (conflict_alike r run c q w v j l i k x)

-- ---- a renamed table

module _ (by : Names) (S T : Table) (ok : Accepted S) (re : Renamed by S T) where
  pub renamed_enough : (q c R : ℕ) → Enough S q c R ↔ Enough T q c R
  renamed_enough q c R =
      let there = renamed_alike by S T ok re in
      let back = turned S T by.place (place_back by S T ok re) by.mode (mode_back_of by S T ok re) there in (
        alike_enough T S (place_back by S T ok re) by.place (mode_back_of by S T ok re) by.mode (renamed_accepted by S T ok re) back q c R,
        alike_enough S T by.place (place_back by S T ok re) by.mode (mode_back_of by S T ok re) ok there q c R,
      )

  pub renamed_places : (q c R : ℕ) → IsPlaces S q c R ↔ IsPlaces T q c R
  renamed_places q c R = (
    λ x. record {
      low = x.low;
      enough = (renamed_enough q c R).0 x.enough;
      least = λ n low less y. x.least n low less ((renamed_enough q c n).1 y);
    },
    λ x. record {
      low = x.low;
      enough = (renamed_enough q c R).1 x.enough;
      least = λ n low less y. x.least n low less ((renamed_enough q c n).0 y);
    },
  )

  -- cells keep their numbers
  pub renamed_each : (q : ℕ) (rs : List ℕ) → EachPlaces S q rs → EachPlaces T q rs
  renamed_each q rs x =
      record {
        size = x.size ∙ sym re.cells;
        each = λ c h. (renamed_places q c (get_or rs c 0)).0 (x.each c (omega (arith, h, re.cells)));
      }

-- ---- the public answers

module _ (by : Names) (s : List ℕ) (S T : Table) (read : judge s ≡ accepted S) (re : Renamed by S T) where
  -- the bytes of the second table
  abbrev t : List ℕ
  t = table_bytes T

  ok : Accepted S
  ok = judge_accepted s S read

  -- what the table keeps is the same answer
  answer_renamed : {B : Type 0} (P : Table → B → Type 0) → ((y : B) → P S y → P T y) → (v : Verdict B) → Answers P (judge s) v → Answers P (judge t) v
  answer_renamed {B} P keeps v x =
      let (y, is, e) = answered_back P (judge s) v x read in
      subst (λ (u : Verdict B). Answers P (judge t) u) (sym e) (accepted_answers P (read_renamed by s S T read re) (keeps y is))

  -- the same numbers, cell by cell
  pub places_renamed : (v : Verdict (List ℕ)) → PlacesTo s v → PlacesTo t v
  places_renamed =
      answer_renamed PlacesFor (λ rs (q, is, each). (q, (renamed_period by S T ok re q).0 is, renamed_each by S T ok re q rs each))
