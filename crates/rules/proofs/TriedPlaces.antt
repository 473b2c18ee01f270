-- Document 02, No. 1, tried before anything is proved over it: the numbers of values, how long they live, which writes conflict, how many places are
-- enough, and their bytes. The must-fail edits of Places and of its answers are refused here.
-- Assumes nothing.
use Prim.Native.Nat.{ℕ, zero, suc, ◌+◌, ◌*◌, ◌<◌, ◌≤◌}
use mathlib.Core.Path.{◌≡◌, refl, subst}
use mathlib.Core.Bool.{Bool, true, false, false≢true, ◌&&◌}
use mathlib.Core.List.{List, [], ◌∷◌, map}
use mathlib.Core.Logic.{inl, inr}
use native.Mathlib.Decide.{dec_lt}
use native.Mathlib.Omega.{arith}
use borrow.Author.Tests.{leb-true, le-leb}
use lib.Dec.{leb}
use lib.ListN.{length, get_or, replicate}
use Rattle.rules.specs.Sets.{has, In}
use Rattle.rules.specs.Table.{nobody, Table, nops, op}
use Rattle.rules.specs.Runs.{mode, IsRun, plain_end, BoardsRightAt, ValuesRightAt, Right, spaced, IsPeriod}
use Rattle.rules.specs.Places.{sum, one, writer, writes_by, Writes, Reads, Unread, Lives, Conflict, Enough, IsPlaces, EachPlaces}
use Rattle.rules.specs.Verdicts.{accepted, refused}
use Rattle.rules.specs.Bytes.{table_bytes, places_bytes}
use Rattle.rules.specs.Judge.{judge}
use Rattle.rules.specs.Answers.{written, Answers, bytes_of, PlacesFor, PlacesTo, IsStored}
use Rattle.rules.specs.Bench.{opn, one_mode, k1, k1_bytes, k2, k7, k8, k10, last_reader, later_write, crossing, own_read, initial_value, four_cells, settling_reader, PlacesHold, places}
use Rattle.rules.proofs.Tried.{in_zero, only_zero, only_one, twice, k9_idle}
use Rattle.rules.proofs.TriedGaps.{just, k1_serves}

-- ---- "the writes of a cell are counted from 1 in plain order"

-- the only mode twice
abbrev two : List ℕ
two = 0 ∷ 0 ∷ []

-- who writes: in K7 operation 0, in mode 0 alone; operation 1 reads. In K2 operation 0 writes c0 and not c1
k7_writer : writer k7 0 0 0 ∷ writer k7 0 1 0 ∷ writer k7 0 2 1 ∷ writer k2 0 0 0 ∷ writer k2 1 0 0 ∷ []
    ≡ true ∷ false ∷ false ∷ true ∷ false ∷ []
unfolding writer
k7_writer = refl

-- K8 twice: its writes end at 2 and 6, 8 and 12, and at the end's own date a write has come
k8_counted : map (writes_by k8 two 0) (0 ∷ 1 ∷ 2 ∷ 5 ∷ 6 ∷ 7 ∷ 8 ∷ 11 ∷ 12 ∷ 100 ∷ [])
    ≡ 0 ∷ 0 ∷ 1 ∷ 1 ∷ 2 ∷ 2 ∷ 3 ∷ 3 ∷ 4 ∷ 4 ∷ []
unfolding writes_by
k8_counted = refl

-- once: no write comes after the run. K7: only the cycles of mode 0 write, the first and the fourth
ends_counted : writes_by k8 (0 ∷ []) 0 100 ∷ writes_by k7 (0 ∷ 1 ∷ 2 ∷ 0 ∷ []) 0 6 ∷ writes_by k7 (0 ∷ 1 ∷ 2 ∷ 0 ∷ []) 0 23
    ∷ writes_by k7 (0 ∷ 1 ∷ 2 ∷ 0 ∷ []) 0 24 ∷ []
    ≡ 2 ∷ 1 ∷ 1 ∷ 2 ∷ []
unfolding writes_by
ends_counted = refl

-- each cell by itself: in K2 c0 is written by 2, c1 by 4
k2_counted : writes_by k2 two 0 3 ∷ writes_by k2 two 1 3 ∷ writes_by k2 two 1 4 ∷ writes_by k2 two 0 8 ∷ writes_by k2 two 1 8 ∷ []
    ≡ 1 ∷ 0 ∷ 1 ∷ 2 ∷ 1 ∷ []
unfolding writes_by
k2_counted = refl

-- a write's number, the write itself counted: those of cycle 0 have 1 and 2, those of cycle 1 have 3 and 4
k8_write_1 : Writes k8 two 0 1 0 0
unfolding has writes_by
k8_write_1 = record { runs = record { cycle = omega arith; is_op = omega arith; in_mode = refl }; writes = refl; value = refl }

k8_write_2 : Writes k8 two 0 2 2 0
unfolding has writes_by
k8_write_2 = record { runs = record { cycle = omega arith; is_op = omega arith; in_mode = refl }; writes = refl; value = refl }

k8_write_3 : Writes k8 two 0 3 0 1
unfolding has writes_by
k8_write_3 = record { runs = record { cycle = omega arith; is_op = omega arith; in_mode = refl }; writes = refl; value = refl }

k8_write_4 : Writes k8 two 0 4 2 1
unfolding has writes_by
k8_write_4 = record { runs = record { cycle = omega arith; is_op = omega arith; in_mode = refl }; writes = refl; value = refl }

-- no other number; and a reader writes nothing, nor does a cycle past the run's end
k8_not_write : (Writes k8 two 0 0 0 0 → ⊥) × ((Writes k8 two 0 2 0 0 → ⊥) × (Writes k8 two 0 2 0 1 → ⊥))
unfolding writes_by
k8_not_write = (
  λ x. let e : ◌≡◌ {A = ℕ} 1 0 = x.value in omega arith,
  (λ x. let e : ◌≡◌ {A = ℕ} 1 2 = x.value in omega arith, λ x. let e : ◌≡◌ {A = ℕ} 3 2 = x.value in omega arith),
)

k8_no_writer : (w : ℕ) → (Writes k8 two 0 w 1 0 → ⊥) × ((Writes k8 two 0 w 0 2 → ⊥) × (Writes k8 two 0 w 3 0 → ⊥))
unfolding has
k8_no_writer w = (λ x. false≢true x.writes, (λ x. omega (arith, x.runs.cycle), λ x. omega (arith, x.runs.is_op)))

-- an operation that does not run in the mode of its cycle writes nothing
k7_idle : (w : ℕ) → Writes k7 (0 ∷ 1 ∷ 2 ∷ []) 0 w 0 1 → ⊥
unfolding has
k7_idle w x = false≢true x.runs.in_mode

-- ---- who reads which value

-- in K8 the reader starts when a write of its cycle ends, and takes that one: 1, then 3
k8_read_1 : Reads k8 two 0 1 1 0
unfolding has writes_by
k8_read_1 = record { runs = record { cycle = omega arith; is_op = omega arith; in_mode = refl }; reads = refl; value = refl }

k8_read_3 : Reads k8 two 0 3 1 1
unfolding has writes_by
k8_read_3 = record { runs = record { cycle = omega arith; is_op = omega arith; in_mode = refl }; reads = refl; value = refl }

-- and no other; a writer reads nothing, nor does a cycle past the run's end
k8_not_read : (Reads k8 two 0 0 1 0 → ⊥) × ((Reads k8 two 0 2 1 0 → ⊥) × (Reads k8 two 0 2 1 1 → ⊥))
unfolding writes_by
k8_not_read = (
  λ x. let e : ◌≡◌ {A = ℕ} 1 0 = x.value in omega arith,
  (λ x. let e : ◌≡◌ {A = ℕ} 1 2 = x.value in omega arith, λ x. let e : ◌≡◌ {A = ℕ} 3 2 = x.value in omega arith),
)

k8_no_reader : (w : ℕ) → (Reads k8 two 0 w 0 0 → ⊥) × ((Reads k8 two 0 w 1 2 → ⊥) × (Reads k8 two 0 w 3 0 → ⊥))
unfolding has
k8_no_reader w = (λ x. false≢true x.reads, (λ x. omega (arith, x.runs.cycle), λ x. omega (arith, x.runs.is_op)))

-- K7's reader, in mode 2, takes the value of two cycles before; in mode 0 it does not run
k7_read : Reads k7 (0 ∷ 1 ∷ 2 ∷ []) 0 1 1 2
unfolding has writes_by
k7_read = record { runs = record { cycle = omega arith; is_op = omega arith; in_mode = refl }; reads = refl; value = refl }

k7_not_read : (w : ℕ) → Reads k7 (0 ∷ 1 ∷ 2 ∷ []) 0 w 1 0 → ⊥
unfolding has
k7_not_read w x = false≢true x.runs.in_mode

-- "the initial value is value 0": a step that reads and writes again has it in the first cycle, and writes 1; then it reads that and writes 2
own_read_0 : Reads own_read two 0 0 0 0
unfolding has writes_by
own_read_0 = record { runs = record { cycle = omega arith; is_op = omega arith; in_mode = refl }; reads = refl; value = refl }

own_read_1 : Reads own_read two 0 1 0 1
unfolding has writes_by
own_read_1 = record { runs = record { cycle = omega arith; is_op = omega arith; in_mode = refl }; reads = refl; value = refl }

own_write_2 : Writes own_read two 0 2 0 1
unfolding has writes_by
own_write_2 = record { runs = record { cycle = omega arith; is_op = omega arith; in_mode = refl }; writes = refl; value = refl }

-- ---- lives

-- K8's value 1 is read, until operation 1 has ended and not until its write has; value 2 is read by nobody, and lives until its write has ended
k8_read : Unread k8 two 0 1 → ⊥
unfolding Unread
k8_read none = none 1 0 k8_read_1

k8_unread : Unread k8 two 0 2
unfolding Unread has writes_by
k8_unread zero l x = false≢true x.reads
k8_unread (suc zero) zero x = let e : ◌≡◌ {A = ℕ} 1 2 = x.value in omega arith
k8_unread (suc zero) (suc zero) x = let e : ◌≡◌ {A = ℕ} 3 2 = x.value in omega arith
k8_unread (suc zero) (suc (suc l)) x = omega (arith, x.runs.cycle)
k8_unread (suc (suc j)) l x = in_zero 0 (none j x.reads)
  where
    none : (j : ℕ) → In 0 (op k8 (suc (suc j))).reads → In 0 0
    none zero h = h
    none (suc j) h = h

k8_not_own : Lives k8 two 0 1 0 0 → ⊥
unfolding Lives
k8_not_own (inl x) = (k8_no_reader 1).0 x
k8_not_own (inr x) = k8_read x.1

k8_lives_1 : Lives k8 two 0 1 1 0
unfolding Lives
k8_lives_1 = inl k8_read_1

k8_lives_2 : Lives k8 two 0 2 2 0
unfolding Lives
k8_lives_2 = inr (k8_write_2, k8_unread)

-- and no longer: not until the next writer, and not until the reader of another value
k8_not_longer : (Lives k8 two 0 1 2 0 → ⊥) × (Lives k8 two 0 1 1 1 → ⊥)
unfolding Lives has writes_by
k8_not_longer = (by_writer, by_reader)
  where
    by_writer : Lives k8 two 0 1 2 0 → ⊥
    by_writer (inl x) = false≢true x.reads
    by_writer (inr x) = let e : ◌≡◌ {A = ℕ} 2 1 = x.0.value in omega arith

    by_reader : Lives k8 two 0 1 1 1 → ⊥
    by_reader (inl x) = let e : ◌≡◌ {A = ℕ} 3 1 = x.value in omega arith
    by_reader (inr x) = false≢true x.0.writes

-- ---- each cell by itself: p 3; [0,1) board 0 writes c0 and c1; [1,2) board 1 writes c1; [2,3) board 2 reads c1
abbrev second_cell : Table
second_cell = one_mode 3 3 2 (opn 0 1 1 0 3 1 ∷ opn 1 1 2 0 2 1 ∷ opn 2 1 4 2 0 1 ∷ [])

-- the second write of c1, where c0 has had one, is what the reader takes; the first is read by nobody
second_write_1 : Writes second_cell two 1 1 0 0
unfolding has writes_by
second_write_1 = record { runs = record { cycle = omega arith; is_op = omega arith; in_mode = refl }; writes = refl; value = refl }

second_write_2 : Writes second_cell two 1 2 1 0
unfolding has writes_by
second_write_2 = record { runs = record { cycle = omega arith; is_op = omega arith; in_mode = refl }; writes = refl; value = refl }

second_write_3 : Writes second_cell two 1 3 0 1
unfolding has writes_by
second_write_3 = record { runs = record { cycle = omega arith; is_op = omega arith; in_mode = refl }; writes = refl; value = refl }

second_read_2 : Reads second_cell two 1 2 2 0
unfolding has writes_by
second_read_2 = record { runs = record { cycle = omega arith; is_op = omega arith; in_mode = refl }; reads = refl; value = refl }

second_read : Unread second_cell two 1 2 → ⊥
unfolding Unread
second_read none = none 2 0 second_read_2

second_unread : Unread second_cell two 1 1
unfolding Unread has writes_by
second_unread zero l x = in_zero 1 x.reads
second_unread (suc zero) l x = in_zero 1 x.reads
second_unread (suc (suc zero)) zero x = let e : ◌≡◌ {A = ℕ} 2 1 = x.value in omega arith
second_unread (suc (suc zero)) (suc zero) x = let e : ◌≡◌ {A = ℕ} 4 1 = x.value in omega arith
second_unread (suc (suc zero)) (suc (suc l)) x = omega (arith, x.runs.cycle)
second_unread (suc (suc (suc j))) l x = in_zero 1 x.reads

second_lives : Lives second_cell two 1 1 0 0 × Lives second_cell two 1 2 2 0
unfolding Lives
second_lives = (inr (second_write_1, second_unread), inl second_read_2)

-- at 1 the next write of c1 starts at tick 1, before the reader has ended
second_conflict : Conflict second_cell 1 two 1 2 3 2 0 0 1
second_conflict =
    record {
      lives = second_lives.1;
      write = second_write_3;
      later = omega arith;
      soon = omega arith;
      other = λ e. omega (arith, e.1);
    }

-- ---- conflicts

-- K8 at its period 3: value 2 is written for [3,6), and the write of value 3 starts at 3. At 6 it starts when that life is over
k8_conflict : Conflict k8 3 two 0 2 3 2 0 0 1
k8_conflict = record { lives = k8_lives_2; write = k8_write_3; later = omega arith; soon = omega arith; other = λ e. omega (arith, e.1) }

k8_touching : Conflict k8 6 two 0 2 3 2 0 0 1 → ⊥
k8_touching x = omega (arith, x.soon)

-- nor does the write that starts, at 3 in its cycle, when the reader has ended; nor, at 3, the one of cycle 3 when that of cycle 1 has ended
k8_touching_later : (Conflict k8 6 two 0 1 2 1 0 2 0 → ⊥) × ((r : List ℕ) → Conflict k8 3 r 0 4 7 2 1 0 3 → ⊥)
k8_touching_later = (λ x. omega (arith, x.soon), λ r x. omega (arith, x.soon))

-- no "later write": an earlier one, and the value's own
k8_not_later : (q : ℕ) → (Conflict k8 q two 0 2 1 2 0 0 0 → ⊥) × (Conflict k8 q two 0 2 2 2 0 2 0 → ⊥)
k8_not_later q = (λ x. omega (arith, x.later), λ x. omega (arith, x.later))

-- "A step that reads a value and writes the cell again does not conflict with its own read"; in another cycle the same step does: at 1 its next
-- write starts before its read has ended
own_read_fine : (q : ℕ) → Conflict own_read q two 0 0 1 0 0 0 0 → ⊥
own_read_fine q x = x.other (omega arith)

own_read_next : Conflict own_read 1 two 0 0 2 0 0 0 1
unfolding Lives
own_read_next = record { lives = inl own_read_0; write = own_write_2; later = omega arith; soon = omega arith; other = λ e. omega (arith, e.1) }

-- another step of the same cycle does, where the two race: [0,2) reads c0 and [1,2) writes it
abbrev overwritten : Table
overwritten = one_mode 2 2 1 (opn 0 2 1 1 0 1 ∷ opn 1 1 2 0 1 1 ∷ [])

overwritten_conflict : Conflict overwritten 2 (0 ∷ []) 0 0 1 0 0 1 0
unfolding Lives has writes_by
overwritten_conflict =
    record {
      lives = inl (record { runs = record { cycle = omega arith; is_op = omega arith; in_mode = refl }; reads = refl; value = refl });
      write = record { runs = record { cycle = omega arith; is_op = omega arith; in_mode = refl }; writes = refl; value = refl };
      later = omega arith;
      soon = omega arith;
      other = λ e. omega (arith, e.0);
    }

-- lives go by the duration: at the period 4 board 1 settles until tick 5, and both its read and its write have ended at 2
settling_fine : (Conflict settling_reader 4 two 0 1 2 1 0 0 1 → ⊥) × (Conflict settling_reader 4 two 1 2 3 1 0 0 1 → ⊥)
settling_fine = (λ x. omega (arith, x.soon), λ x. omega (arith, x.soon))

-- ---- how many places are not enough

-- one at the period 5, by the reader that ends last: value 1 is read until tick 6, and the write of value 2 starts at tick 5
last_reader_one : Enough last_reader 5 0 1 → ⊥
unfolding Enough Lives has writes_by
last_reader_one enough =
    enough two (twice 6 3 1 _) 1 2 1 0 0 1 refl
    (record {
      lives = inl (record { runs = record { cycle = omega arith; is_op = omega arith; in_mode = refl }; reads = refl; value = refl });
      write = record { runs = record { cycle = omega arith; is_op = omega arith; in_mode = refl }; writes = refl; value = refl };
      later = omega arith;
      soon = omega arith;
      other = λ e. omega (arith, e.1);
    })

-- one at 1, of the second cell
second_one : Enough second_cell 1 1 1 → ⊥
unfolding Enough
second_one enough = enough two (twice 3 3 2 _) 2 3 2 0 0 1 refl second_conflict

-- where no operation reads, no value is read
nobody_reads : (T : Table) → ((j : ℕ) → In 0 (op T j).reads → ⊥) → (r : List ℕ) (w : ℕ) → Unread T r 0 w
unfolding Unread
nobody_reads T none r w j l x = none j x.reads

later_write_none : (j : ℕ) → In 0 (op later_write j).reads → ⊥
later_write_none zero h = in_zero 0 h
later_write_none (suc zero) h = in_zero 0 h
later_write_none (suc (suc zero)) h = in_zero 0 h
later_write_none (suc (suc (suc j))) h = in_zero 0 h

-- one at the period 3: value 2 is written for [5,6), and the write of value 3, later in plain order, starts at tick 3
later_write_one : Enough later_write 3 0 1 → ⊥
unfolding Enough Lives has writes_by
later_write_one enough =
    enough two (twice 6 3 1 _) 2 3 1 0 0 1 refl
    (record {
      lives = inr (
        record { runs = record { cycle = omega arith; is_op = omega arith; in_mode = refl }; writes = refl; value = refl },
        nobody_reads later_write later_write_none two 2,
      );
      write = record { runs = record { cycle = omega arith; is_op = omega arith; in_mode = refl }; writes = refl; value = refl };
      later = omega arith;
      soon = omega arith;
      other = λ e. omega (arith, e.1);
    })

-- four at the period 1, by value 0, "live from before tick 0": it is read until tick 5, and the write of value 4 starts at tick 4
run_initial : IsRun initial_value (0 ∷ 1 ∷ 1 ∷ 1 ∷ 1 ∷ [])
unfolding has
run_initial = record { some = omega arith; begins = refl; goes = go }
  where
    go : (k : ℕ) → suc k < 5 → In (mode (0 ∷ 1 ∷ 1 ∷ 1 ∷ 1 ∷ []) (suc k)) (get_or (2 ∷ 2 ∷ []) (mode (0 ∷ 1 ∷ 1 ∷ 1 ∷ 1 ∷ []) k) 0)
    go zero h = refl
    go (suc zero) h = refl
    go (suc (suc zero)) h = refl
    go (suc (suc (suc zero))) h = refl
    go (suc (suc (suc (suc k)))) h = absurd (omega arith)

initial_four : Enough initial_value 1 0 4 → ⊥
unfolding Enough Lives has writes_by
initial_four enough =
    enough (0 ∷ 1 ∷ 1 ∷ 1 ∷ 1 ∷ []) run_initial 0 4 0 0 1 4 refl
    (record {
      lives = inl (record { runs = record { cycle = omega arith; is_op = omega arith; in_mode = refl }; reads = refl; value = refl });
      write = record { runs = record { cycle = omega arith; is_op = omega arith; in_mode = refl }; writes = refl; value = refl };
      later = omega arith;
      soon = omega arith;
      other = λ e. omega (arith, e.1);
    })

-- three at the period 1, where two are, and one: value 2 is written for [5,6), and the write of value 5, two cycles later, starts at tick 2
crossing_none : (j c : ℕ) → In c (op crossing j).reads → ⊥
crossing_none zero c h = in_zero c h
crossing_none (suc zero) c h = in_zero c h
crossing_none (suc (suc j)) c h = in_zero c h

thrice : IsRun crossing (0 ∷ 0 ∷ 0 ∷ [])
unfolding has
thrice = record { some = omega arith; begins = refl; goes = go }
  where
    go : (k : ℕ) → suc k < 3 → In (mode (0 ∷ 0 ∷ 0 ∷ []) (suc k)) (get_or (1 ∷ []) (mode (0 ∷ 0 ∷ 0 ∷ []) k) 0)
    go zero h = refl
    go (suc zero) h = refl
    go (suc (suc k)) h = absurd (omega arith)

crossing_conflict : Conflict crossing 1 (0 ∷ 0 ∷ 0 ∷ []) 0 2 5 1 0 0 2
unfolding Lives has writes_by
crossing_conflict =
    record {
      lives = inr (
        record { runs = record { cycle = omega arith; is_op = omega arith; in_mode = refl }; writes = refl; value = refl },
        nobody_reads crossing (λ j. crossing_none j 0) (0 ∷ 0 ∷ 0 ∷ []) 2,
      );
      write = record { runs = record { cycle = omega arith; is_op = omega arith; in_mode = refl }; writes = refl; value = refl };
      later = omega arith;
      soon = omega arith;
      other = λ e. omega (arith, e.1);
    }

crossing_few : (Enough crossing 1 0 3 → ⊥) × (Enough crossing 1 0 1 → ⊥)
unfolding Enough
crossing_few = (
  λ enough. enough (0 ∷ 0 ∷ 0 ∷ []) thrice 2 5 1 0 0 2 refl crossing_conflict,
  λ enough. enough (0 ∷ 0 ∷ 0 ∷ []) thrice 2 5 1 0 0 2 refl crossing_conflict,
)

-- ---- "the smallest number R of places"

-- 0 is no number of places; one that is not enough is not; and one that is enough, with a smaller, is not: for a cell that nobody writes it is 1
no_places : (T : Table) (q c : ℕ) → IsPlaces T q c 0 → ⊥
no_places T q c x = omega (arith, x.low)

last_reader_not_1 : IsPlaces last_reader 5 0 1 → ⊥
last_reader_not_1 x = last_reader_one x.enough

-- where nobody writes, any number is enough
unwritten : (T : Table) (c : ℕ) → ((i : ℕ) → In c (op T i).writes → ⊥) → (q R : ℕ) → Enough T q c R
unfolding Enough
unwritten T c none q R r run w v j l i k same x = none i x.write.writes

-- c1 of four cells is only read, c2 not used
four_1 : (i : ℕ) → In 1 (op four_cells i).writes → ⊥
unfolding has
four_1 zero h = false≢true h
four_1 (suc zero) h = in_zero 1 h
four_1 (suc (suc i)) h = in_zero 1 h

four_2 : (i : ℕ) → In 2 (op four_cells i).writes → ⊥
unfolding has
four_2 zero h = false≢true h
four_2 (suc zero) h = in_zero 2 h
four_2 (suc (suc i)) h = in_zero 2 h

four_not_2 : (q : ℕ) → (IsPlaces four_cells q 1 2 → ⊥) × (IsPlaces four_cells q 2 3 → ⊥)
four_not_2 q = (
  λ x. x.least 1 (omega arith) (omega arith) (unwritten four_cells 1 four_1 q 1),
  λ x. x.least 1 (omega arith) (omega arith) (unwritten four_cells 2 four_2 q 1),
)

four_places : (q : ℕ) → IsPlaces four_cells q 1 1 × IsPlaces four_cells q 2 1
four_places q = (
  record { low = omega arith; enough = unwritten four_cells 1 four_1 q 1; least = λ fewer low h. absurd (omega arith) },
  record { low = omega arith; enough = unwritten four_cells 2 four_2 q 1; least = λ fewer low h. absurd (omega arith) },
)

-- "in every run": where the only writer runs in a mode that is never reached, any number is enough
abbrev never_written : Table
never_written =
    record { len = 4; boards = 1; cells = 1; modes = 2; first = 2; follow = 1 ∷ 2 ∷ []; ops = opn 0 4 1 0 1 1 ∷ []; decider = nobody }

never_enough : (q R : ℕ) → Enough never_written q 0 R
unfolding Enough
never_enough q R r run w v j l zero k same x =
    k9_idle r (record { some = run.some; begins = run.begins; goes = run.goes }) k 0
    (record { cycle = x.write.runs.cycle; is_op = omega arith; in_mode = x.write.runs.in_mode })
never_enough q R r run w v j l (suc i) k same x = omega (arith, x.write.runs.is_op)

-- "For each cell": p 1; [0,1) board 0 reads c0; c1 is not used. Not one number for both, nor three; not 2 for either
abbrev two_cells : Table
two_cells = one_mode 1 1 2 (opn 0 1 1 1 0 1 ∷ [])

two_unwritten : (c i : ℕ) → In c (op two_cells i).writes → ⊥
two_unwritten c zero h = in_zero c h
two_unwritten c (suc i) h = in_zero c h

two_not : (q : ℕ) → (EachPlaces two_cells q (1 ∷ []) → ⊥) × ((EachPlaces two_cells q (1 ∷ 1 ∷ 1 ∷ []) → ⊥)
    × ((EachPlaces two_cells q (2 ∷ 1 ∷ []) → ⊥) × (EachPlaces two_cells q (1 ∷ 2 ∷ []) → ⊥)))
two_not q = (
  λ x. omega (arith, x.size),
  (
    λ x. omega (arith, x.size),
    (
      λ x. (x.each 0 (omega arith)).least 1 (omega arith) (omega arith) (unwritten two_cells 0 (two_unwritten 0) q 1),
      λ x. (x.each 1 (omega arith)).least 1 (omega arith) (omega arith) (unwritten two_cells 1 (two_unwritten 1) q 1),
    ),
  ),
)

two_each : (q : ℕ) → EachPlaces two_cells q (1 ∷ 1 ∷ [])
two_each q = record { size = refl; each = go }
  where
    go : (c : ℕ) → c < 2 → IsPlaces two_cells q c (get_or (1 ∷ 1 ∷ []) c 0)
    go zero h = record { low = omega arith; enough = unwritten two_cells 0 (two_unwritten 0) q 1; least = λ fewer low f. absurd (omega arith) }
    go (suc zero) h = record { low = omega arith; enough = unwritten two_cells 1 (two_unwritten 1) q 1; least = λ fewer low f. absurd (omega arith) }
    go (suc (suc c)) h = absurd (omega arith)

-- ---- "for the period found"

two_boards : BoardsRightAt two_cells (spaced 1)
unfolding BoardsRightAt
two_boards r run zero k zero l x y apart share lap = apart (refl, omega arith)
two_boards r run zero k (suc j) l x y apart share lap = omega (arith, y.is_op)
two_boards r run (suc i) k j l x y apart share lap = omega (arith, x.is_op)

two_values : ValuesRightAt two_cells (spaced 1)
unfolding ValuesRightAt
two_values r run c i k j l y reads source = absurd (two_unwritten c i source.writes)

two_period : IsPeriod two_cells 1
two_period =
    record {
      low = omega arith;
      high = omega arith;
      right = record { boards = two_boards; values = two_values };
      least = λ q low h. absurd (omega arith);
    }

-- crossing writes, each the only one on its board: their period is 1 and no other
crossing_boards : BoardsRightAt crossing (spaced 1)
unfolding BoardsRightAt has
crossing_boards r run zero k zero l x y apart share lap = apart (refl, omega arith)
crossing_boards r run zero k (suc zero) l x y apart (b, u, v) lap = omega (arith, only_zero b u, only_one b v)
crossing_boards r run (suc zero) k zero l x y apart (b, u, v) lap = omega (arith, only_one b u, only_zero b v)
crossing_boards r run (suc zero) k (suc zero) l x y apart share lap = apart (refl, omega arith)
crossing_boards r run zero k (suc (suc j)) l x y apart share lap = omega (arith, y.is_op)
crossing_boards r run (suc zero) k (suc (suc j)) l x y apart share lap = omega (arith, y.is_op)
crossing_boards r run (suc (suc i)) k j l x y apart share lap = omega (arith, x.is_op)

crossing_right : Right crossing 1
unfolding ValuesRightAt
crossing_right = record { boards = crossing_boards; values = λ r run c i k j l y reads source. absurd (crossing_none j c reads) }

crossing_period : (q : ℕ) → IsPeriod crossing q → q ≡ 1
crossing_period q x = only (dec_lt 1 q)
  where
    only : Dec (1 < q) → q ≡ 1
    only (yes h) = absurd (x.least 1 (omega arith) h crossing_right)
    only (no h) = omega (arith, x.low)

-- so its places are those for 1: neither 1, which is enough at its length, nor 3
crossing_not : (PlacesFor crossing (1 ∷ []) → ⊥) × (PlacesFor crossing (3 ∷ []) → ⊥)
crossing_not = (
  λ (q, x, each). crossing_few.1 (subst (λ (p : ℕ). Enough crossing p 0 1) (crossing_period q x) (each.each 0 (omega arith)).enough),
  λ (q, x, each). crossing_few.0 (subst (λ (p : ℕ). Enough crossing p 0 3) (crossing_period q x) (each.each 0 (omega arith)).enough),
)

-- ---- the answers

two_answered : PlacesTo (table_bytes two_cells) (accepted (1 ∷ 1 ∷ []))
unfolding Answers judge table_bytes
two_answered = (1 ∷ 1 ∷ [], (1, two_period, two_each 1), refl)

-- "refused 6 0 1" for K10, and "Empty input: refused 2 0 0"
refused_answered : PlacesTo (table_bytes k10) (refused 6 0 1) × PlacesTo [] (refused 2 0 0)
unfolding Answers judge table_bytes
refused_answered = (refl, refl)

-- what a case of the bench claims
claimed : PlacesHold (places two_cells (1 ∷ 1 ∷ [])) × (PlacesHold (places crossing (1 ∷ [])) → ⊥)
unfolding PlacesHold Answers judge table_bytes
claimed = (two_answered, λ (rs, x, e). let same : rs ≡ 1 ∷ [] = cc in crossing_not.0 (subst (λ (ys : List ℕ). PlacesFor crossing ys) same x))

-- their bytes: 2 for each cell, and none without cells; 32001 is 125 * 256 + 1
places_bytes_lem : places_bytes (2 ∷ 2 ∷ []) ∷ places_bytes (32001 ∷ []) ∷ places_bytes (1 ∷ 256 ∷ []) ∷ places_bytes [] ∷ []
    ≡ (0 ∷ 2 ∷ 0 ∷ 2 ∷ []) ∷ (125 ∷ 1 ∷ []) ∷ (0 ∷ 1 ∷ 1 ∷ 0 ∷ []) ∷ [] ∷ []
unfolding places_bytes
places_bytes_lem = refl

-- in a buffer that is too short by one, in one that is just long enough, and in one that is longer
two_stored : IsStored (table_bytes two_cells) (replicate 3 9) (record { answer = refused 8 4 0; buffer = replicate 3 9 })
    × (IsStored (table_bytes two_cells) (replicate 4 9) (record { answer = accepted 4; buffer = 0 ∷ 1 ∷ 0 ∷ 1 ∷ [] })
    × IsStored (table_bytes two_cells) (replicate 6 9) (record { answer = accepted 4; buffer = 0 ∷ 1 ∷ 0 ∷ 1 ∷ 9 ∷ 9 ∷ [] }))
unfolding written bytes_of places_bytes
two_stored = (
  (accepted (1 ∷ 1 ∷ []), two_answered, refl),
  ((accepted (1 ∷ 1 ∷ []), two_answered, refl), (accepted (1 ∷ 1 ∷ []), two_answered, refl)),
)

refused_stored : IsStored (table_bytes k10) (replicate 3 9) (record { answer = refused 6 0 1; buffer = replicate 3 9 })
    × IsStored [] [] (record { answer = refused 2 0 0; buffer = [] })
unfolding written bytes_of
refused_stored = ((refused 6 0 1, refused_answered.0, refl), (refused 2 0 0, refused_answered.1, refl))

-- K1 has no cells: nothing is written, and the empty buffer is long enough
k1_period : IsPeriod k1 3
unfolding BoardsRightAt has
k1_period =
    record {
      low = omega arith;
      high = omega arith;
      right = k1_serves (spaced 3) just;
      least = λ q low h x. x.boards two (twice 5 1 0 _) 0 0 0 1
          (record { cycle = omega arith; is_op = omega arith; in_mode = refl })
          (record { cycle = omega arith; is_op = omega arith; in_mode = refl })
          (λ e. omega (arith, e.1))
          (0, refl, refl)
          (omega arith);
    }

k1_each : EachPlaces k1 3 []
k1_each = record { size = refl; each = λ c h. absurd (omega arith) }

k1_stored : IsStored k1_bytes [] (record { answer = accepted 0; buffer = [] })
    × IsStored k1_bytes (9 ∷ []) (record { answer = accepted 0; buffer = 9 ∷ [] })
unfolding Answers judge k1_bytes written bytes_of places_bytes
k1_stored = ((accepted [], ([], (3, k1_period, k1_each), refl), refl), (accepted [], ([], (3, k1_period, k1_each), refl), refl))

-- ---- one place for a step that reads and writes again, in every run of every length

sum_le : (f g : ℕ → ℕ) (n : ℕ) → ((k : ℕ) → f k ≤ g k) → sum f n ≤ sum g n
unfolding sum
sum_le f g zero h = omega arith
sum_le f g (suc n) h = omega (arith, sum_le f g n h, h n)

one_le : (b : Bool) (x d e : ℕ) → d ≤ e → one (b && leb x d) ≤ one (b && leb x e)
unfolding one
one_le false x d e h = omega arith
one_le true x d e h = go (leb x d) refl
  where
    go : (y : Bool) → leb x d ≡ y → one (leb x d) ≤ one (leb x e)
    go false t = rw t (omega arith)
    go true t = rw (t, le-leb x e (omega (arith, leb-true x d t))) (omega arith)

-- at a later date no fewer writes have come
by_later : (T : Table) (r : List ℕ) (c d e : ℕ) → d ≤ e → writes_by T r c d ≤ writes_by T r c e
unfolding writes_by
by_later T r c d e h =
    sum_le (λ k. sum (λ u. one (writer T c (mode r k) u && leb (plain_end T u k) d)) (nops T))
    (λ k. sum (λ u. one (writer T c (mode r k) u && leb (plain_end T u k) e)) (nops T)) (length r)
    (λ k. sum_le (λ u. one (writer T c (mode r k) u && leb (plain_end T u k) d))
    (λ u. one (writer T c (mode r k) u && leb (plain_end T u k) e)) (nops T)
    (λ u. one_le (writer T c (mode r k) u) (plain_end T u k) d e h))

own_enough : Enough own_read 2 0 1
unfolding Enough Lives
own_enough r run w v zero l zero k same x = go x.lives (dec_lt k l)
  where
    go : Lives own_read r 0 w 0 l → Dec (k < l) → ⊥
    go lives (no h) = x.other (refl, omega (arith, x.soon))
    go (inl y) (yes h) = omega (arith, x.later, x.write.value, y.value, by_later own_read r 0 (2 + k * 4) (0 + l * 4) (omega arith))
    go (inr y) (yes h) = omega (arith, x.later, x.write.value, y.0.value, by_later own_read r 0 (2 + k * 4) (2 + l * 4) (omega arith))
own_enough r run w v zero l (suc i) k same x = omega (arith, x.write.runs.is_op)
own_enough r run w v (suc j) l i k same x = go x.lives
  where
    go : Lives own_read r 0 w (suc j) l → ⊥
    go (inl y) = omega (arith, y.runs.is_op)
    go (inr y) = omega (arith, y.0.runs.is_op)

own_places : IsPlaces own_read 2 0 1
own_places = record { low = omega arith; enough = own_enough; least = λ fewer low h. absurd (omega arith) }
