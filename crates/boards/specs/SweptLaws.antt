-- One distance after the other: what the sweep keeps, and what it has found when it ends.
-- Assumes nothing.
use Rattle.std.specs.Prelude.{ℕ, suc, ◌+◌, ◌*◌, ◌<◌, ◌≤◌, ◌≡◌, List, ◌⊎◌, get_or, replicate}
use Rattle.std.proofs.Common.{sym, subst, inl, inr, mul-le-mul, mul-le-mul_left, arith}
use Rattle.std.proofs.Math.Decide.{dec_lt}
use Rattle.std.specs.Int.Bits.{bit_and}
use Rattle.std.proofs.lemmas.List.{length-replicate, get_or-replicate}
use Rattle.std.proofs.Math.ListN.{get_or-eq_default}
use Rattle.rules.specs.Sets.{Share}
use Rattle.theory.proofs.Order.{Cmp, cmp}
use Rattle.theory.proofs.Sets.{in_none}
use Rattle.columns.specs.Columns.{op_by}
use Rattle.columns.specs.declared.Dated.{Dated}
use Rattle.turns.specs.Turns.{TurnsBy}
use Rattle.marks.specs.Marks.{Marked, Adds, Near}
use Rattle.sweeps.specs.Sweeps.{HitAny, AllKept, FirstUnmarked}
use Rattle.boards.specs.Boards.{BadAt, Wrong, EndsBy, Dropped, Swept, FirstRight}
use Rattle.laters.specs.Laters.{AllLater, AllEmpty}

-- more cycles of a longer period are later
later_yet : (n m q x : ℕ) → n ≤ m → q ≤ x → suc n * q ≤ suc m * x
later_yet n m q x h l = mul-le-mul {n₁ = suc n} {m₁ = q} {n₂ = suc m} {m₂ = x} (omega arith) l

-- the same distance in other words
pub swept_at : {F : List ℕ} {cols : List Dated} {later : List ℕ} {wrong : List ℕ} {R len b n m q : ℕ} → n ≡ m → Swept F cols R len b n q later wrong → Swept F cols R len b m q later wrong
swept_at {F} {cols} {later} {wrong} {R} {len} {b} {n} {m} {q} e s = subst (λ (k : ℕ). Swept F cols R len b k q later wrong) e s

module _ (F : List ℕ) (cols : List Dated) (R len b : ℕ) where
  -- ---- the beginning: nothing is marked yet
  pub swept_first : (later : List ℕ) → b ≤ len → AllLater cols b 32 later → Swept F cols R len b 0 b later (replicate 1000 0)
  swept_first later h sets =
      record {
        low = omega arith;
        high = h;
        passed = λ x l m. absurd (omega arith);
        sound = λ x m. absurd (none x m);
        met = λ x m l k. absurd (omega arith);
        clear = λ l m. none b m;
        sharing = λ i j l m. let (there, (board, near)) = ((sets.each i l).exact j).0 m in (there, board);
        dropped = λ i j m x a c k l board lap.
            let near : Near (op_by cols i) (op_by cols j) 0 b = omega (arith, lap.1, later_yet 0 m b x k l) in
            ((sets.each i a).exact j).1 (c, (board, near));
      }
    where
      none : (x : ℕ) → Marked (replicate 1000 0) x → ⊥
      none x m = omega (arith, m, nothing x (dec_lt x 1000))
        where
          nothing : (y : ℕ) → Dec (y < 1000) → get_or {A = ℕ} (replicate 1000 0) y 0 ≡ 0
          nothing y (yes l) = get_or-replicate {A = ℕ} 1000 y 0 0 l
          nothing y (no l) = get_or-eq_default {A = ℕ} (replicate 1000 0) 0 {n = y} (omega (arith, length-replicate {A = ℕ} 1000 0))

  -- ---- the end
  module _ {n q : ℕ} {later : List ℕ} {wrong : List ℕ} (s : Swept F cols R len b n q later wrong) where
    -- nothing is wrong at q at the first n distances
    early : (m : ℕ) → m < n → BadAt F cols R m q → EndsBy cols len → ⊥
    early m h bad fits = go (dec_lt q len)
      where
        go : Dec (q < len) → ⊥
        go (yes l) = s.clear l (s.met q m (omega arith) h bad)
        go (no l) = omega (arith, bad.lap.1, fits bad.one bad.first, later_yet 0 m q q (omega arith) (omega arith))

    -- nothing more is wrong from q on: further distances may be called visited
    pub swept_rest : (k : ℕ) → n ≤ k → ((x m : ℕ) → q ≤ x → n ≤ m → BadAt F cols R m x → ⊥) → Swept F cols R len b k q later wrong
    swept_rest k h none =
        record {
          low = s.low;
          high = s.high;
          passed = s.passed;
          sound = s.sound;
          met = λ x m l _ bad. go x m l bad (dec_lt m n);
          clear = s.clear;
          sharing = s.sharing;
          dropped = λ i j m x a c l. s.dropped i j m x a c (omega arith);
        }
      where
        go : (x m : ℕ) → q ≤ x → BadAt F cols R m x → Dec (m < n) → Marked wrong x
        go x m l bad (yes e) = s.met x m l e bad
        go x m l bad (no e) = absurd (none x m l (omega arith) bad)

    pub swept_end : EndsBy cols len → ((x m : ℕ) → q ≤ x → n ≤ m → BadAt F cols R m x → ⊥) → FirstRight F cols R len b q
    swept_end fits none =
        record { low = s.low; high = s.high; passed = s.passed; right = λ (m, bad). go m bad (dec_lt m n) }
      where
        go : (m : ℕ) → BadAt F cols R m q → Dec (m < n) → ⊥
        go m bad (yes e) = early m e bad fits
        go m bad (no e) = none q m (omega arith) (omega arith) bad

    -- since n + 1 cycles take until the end of the table
    pub none_far : EndsBy cols len → len ≤ (n + 1) * q → (x m : ℕ) → q ≤ x → n ≤ m → BadAt F cols R m x → ⊥
    none_far fits far x m l h bad =
        omega (arith, bad.lap.1, fits bad.one bad.first, later_yet n m q x h l)

    -- since no set has a member
    pub none_left_lem : AllEmpty later → (x m : ℕ) → q ≤ x → n ≤ m → BadAt F cols R m x → ⊥
    none_left_lem none x m l h bad =
        let here = s.dropped bad.one bad.other m x bad.first bad.second h l bad.board bad.lap in
        in_none bad.other (rw (none bad.one bad.first) at here)

    -- ---- one distance more
    module _ {row later' : List ℕ} {wrong' : List ℕ} {r : ℕ} (by : TurnsBy F n row)
        (kept : AllKept cols n q 32 later later')
        (adds : Adds wrong (λ x. (q ≤ x) × HitAny cols row R n later 32 x) wrong')
        (found : FirstUnmarked wrong' len q r)
      where
        -- a hit is a pair that is wrong
        hit_bad : (x : ℕ) → HitAny cols row R n later 32 x → BadAt F cols R n x
        hit_bad x (i, h, (j, l, (mode, lap))) =
            let (there, board) = s.sharing i j h l in
            record {
              one = i;
              other = j;
              first = h;
              second = there;
              board = board;
              mode = subst (λ (after : ℕ). Share after (op_by cols j).modes) (by.exact (bit_and R (op_by cols i).modes)) mode;
              lap = lap;
            }

        bad_hit : (x : ℕ) → q ≤ x → BadAt F cols R n x → HitAny cols row R n later 32 x
        bad_hit x l bad = (
          bad.one,
          bad.first,
          (
            bad.other,
            s.dropped bad.one bad.other n x bad.first bad.second (omega arith) l bad.board bad.lap,
            (
              subst (λ (after : ℕ). Share after (op_by cols bad.other).modes) (sym (by.exact (bit_and R (op_by cols bad.one).modes))) bad.mode,
              bad.lap,
            ),
          ),
        )

        sound' : (x : ℕ) → Marked wrong' x → Wrong F cols R x
        sound' x m = go ((adds.exact x).0 m)
          where
            go : Marked wrong x ⊎ ((q ≤ x) × HitAny cols row R n later 32 x) → Wrong F cols R x
            go (inl old) = s.sound x old
            go (inr (l, hit)) = (n, hit_bad x hit)

        passed' : (x : ℕ) → b ≤ x → x < r → Wrong F cols R x
        passed' x l h = go (dec_lt x q)
          where
            go : Dec (x < q) → Wrong F cols R x
            go (yes e) = s.passed x l e
            go (no e) = sound' x (found.passed x (omega arith) h)

        met' : (x m : ℕ) → r ≤ x → m < n + 1 → BadAt F cols R m x → Marked wrong' x
        met' x m l h bad = go (cmp m n)
          where
            on : q ≤ x
            on = omega (arith, found.low)

            go : Cmp m n → Marked wrong' x
            go (Cmp.less e) = (adds.exact x).1 (inl (s.met x m on e bad))
            go (Cmp.same e) = (adds.exact x).1 (inr (on, bad_hit x on (subst (λ (k : ℕ). BadAt F cols R k x) e bad)))
            go (Cmp.more e) = absurd (omega arith)

        dropped' : Dropped cols (n + 1) r later'
        dropped' i j m x a c h l board lap =
            let on : q ≤ x = omega (arith, found.low) in
            let near : Near (op_by cols i) (op_by cols j) n q = omega (arith, lap.1, later_yet n m q x (omega arith) on) in
            ((kept.each i a).exact j).1 (s.dropped i j m x a c (omega arith) on board lap, near)

        pub swept_more : Swept F cols R len b (n + 1) r later' wrong'
        swept_more =
            record {
              low = omega (arith, s.low, found.low);
              high = found.high;
              passed = passed';
              sound = sound';
              met = met';
              clear = found.clear;
              sharing = λ i j h l. s.sharing i j h (((kept.each i h).exact j).0 l).0;
              dropped = dropped';
            }

-- ---- a distance that is looked at

pub distance_fits : (n q : ℕ) {len : ℕ} → 1 ≤ q → (n + 1) * q < len → len ≤ 1000 → n ≤ 1000
distance_fits n q low near short = omega (arith, mul-le-mul_left (n + 1) low)
