-- A number is a difference exactly when a walk from a reachable mode shows it: a use of a value in the first mode, a write in the last that
-- starts before the use has ended, and the writes of the cell between the two counted along the walk.
-- Assumes nothing.
use Prim.Native.Nat.{ℕ, zero, suc, ◌+◌, ◌*◌, ◌<◌, ◌≤◌}
use mathlib.Core.Path.{◌≡◌, refl, sym, ap, subst, ◌∙◌}
use mathlib.Core.List.{List, [], ◌∷◌, ◌++◌}
use mathlib.Core.Logic.{◌↔◌, ◌⊎◌, inl, inr}
use native.Mathlib.Nat.{mul-le-mul_left, mul-le-mul_right}
use native.Mathlib.Omega.{arith}
use native.Mathlib.Decide.{dec_lt}
use lib.ListN.{length}
use Rattle.rules.specs.Sets.{In}
use Rattle.rules.specs.Table.{Table, nops, op, end_of, Turn, Accepted}
use Rattle.rules.specs.Runs.{mode, IsRun, Runs, plain_start, plain_end}
use Rattle.theory.proofs.Order.{Cmp, cmp, distance}
use Rattle.theory.proofs.Walks.{Ends, run_reach, reach_run, snoc, snoc_keeps}
use Rattle.theory.proofs.Period.{never_race}
use Rattle.rules.specs.Places.{writes_by, Writes, Reads}
use Rattle.lives.specs.Near.{Uses, Meets, Differ, writes_in, ended_in, Counted, last, more, UseIn, WriteIn, NearBy, NearDiffer}
use Rattle.lives.proofs.Counts.{ended_mono}
use Rattle.lives.proofs.Cycles.{before, before_suc, before_mono, in_parts, writes_in_most, ended_self, ended_split}

module _ (T : Table) (ok : Accepted T) (c : ℕ) where
  -- ---- what a run tells of its modes
  module _ (r : List ℕ) (run : IsRun T r) where
    -- between two cycles a run is a walk, and the writes between are counted
    run_counted : (n k l : ℕ) → l ≡ suc (k + n) → l < length r
        → (s : ℕ) × Counted T c (suc n) s (mode r k) (mode r l) × (before T c r l ≡ before T c r k + writes_in T c (mode r k) + s)
    run_counted zero k l e h =
        let d : suc k ≡ l = omega arith in (
          0,
          last (subst (λ (x : ℕ). Turn T (mode r k) (mode r x)) d (run.goes k (omega arith))),
          omega (arith, before_suc T c r k, ap (before T c r) d),
        )
    run_counted (suc n) k l e h =
        let (s, w, b) = run_counted n (suc k) l (omega arith) h in
        (writes_in T c (mode r (suc k)) + s, more (run.goes k (omega arith)) w, omega (arith, b, before_suc T c r k))

    -- the value that is used, by the cycles before and the date in its cycle
    use_in : (w j l : ℕ) → Uses T r c w j l → (e : ℕ) × UseIn T c (mode r l) j e × (w ≡ before T c r l + ended_in T c (mode r l) e)
    unfolding Uses
    use_in w j l (inl x) = (
      (op T j).start,
      record { is_op = x.runs.is_op; runs = x.runs.in_mode; uses = inl (x.reads, refl) },
      sym x.value ∙ ended_split T c r ok l (op T j).start x.runs.cycle (omega (arith, (ok.each j x.runs.is_op).fits)),
    )
    use_in w j l (inr x) = (
      end_of (op T j),
      record { is_op = x.runs.is_op; runs = x.runs.in_mode; uses = inr (x.writes, refl) },
      sym x.value ∙ ended_split T c r ok l (end_of (op T j)) x.runs.cycle (omega (arith, (ok.each j x.runs.is_op).fits)),
    )

    write_in : (v i k : ℕ) → Writes T r c v i k
        → WriteIn T c (mode r k) i × (v ≡ before T c r k + ended_in T c (mode r k) (end_of (op T i)))
    write_in v i k x = (
      record { is_op = x.runs.is_op; runs = x.runs.in_mode; writes = x.writes },
      sym x.value ∙ ended_split T c r ok k (end_of (op T i)) x.runs.cycle (omega (arith, (ok.each i x.runs.is_op).fits)),
    )

    pub use_runs : (w j l : ℕ) → Uses T r c w j l → Runs T r l j
    unfolding Uses
    use_runs w j l (inl x) = x.runs
    use_runs w j l (inr x) = x.runs

    -- a later write ends after the user has started
    after_use : (w v j l i k : ℕ) → Uses T r c w j l → Writes T r c v i k → w < v → plain_start T j l < plain_end T i k
    unfolding Uses
    after_use w v j l i k x y h = go x (dec_lt (plain_start T j l) (plain_end T i k))
      where
        go : Reads T r c w j l ⊎ Writes T r c w j l → Dec (plain_start T j l < plain_end T i k) → plain_start T j l < plain_end T i k
        go z (yes a) = a
        go (inl z) (no a) =
            absurd (omega (arith, ended_mono T r c (plain_end T i k) (plain_start T j l) (omega arith), z.value, y.value))
        go (inr z) (no a) =
            absurd (omega (arith, ended_mono T r c (plain_end T i k) (plain_end T j l) (omega arith), z.value, y.value))

    -- in one cycle nothing conflicts: the two would race
    not_same_cycle : (q w v j l i k : ℕ) → Meets T q r c w v j l i k → k ≡ l → ⊥
    unfolding Uses
    not_same_cycle q w v j l i k x e =
        never_race T ok i j x.write.runs.is_op (use_runs w j l x.uses).is_op (λ d. x.other (d, e))
        (record {
          mode =
              (mode r k, x.write.runs.in_mode, subst (λ (m : ℕ). In (mode r m) (op T j).modes) (sym e) (use_runs w j l x.uses).in_mode);
          lap =
              let a = after_use w v j l i k x.uses x.write x.later in
              omega (arith, x.soon, ap (λ (m : ℕ). m * T.len) e, ap (λ (m : ℕ). m * q) e);
          cell = (c, inl (x.write.writes, cells x.uses));
        })
      where
        cells : Reads T r c w j l ⊎ Writes T r c w j l → In c (op T j).reads ⊎ In c (op T j).writes
        cells (inl z) = inl z.reads
        cells (inr z) = inr z.writes

    -- a later write is in no cycle before
    pub not_before : (q w v j l i k : ℕ) → Meets T q r c w v j l i k → k < l → ⊥
    not_before q w v j l i k x h =
        let (e, u, a) = use_in w j l x.uses in
        let (y, b) = write_in v i k x.write in
        omega (arith, x.later, before_mono T c r k l h, in_parts T c (mode r k) (end_of (op T i)))

    -- so it is in a later one, at the end of a walk
    conflict_near : (q w d j l i k : ℕ) → Meets T q r c w (w + d) j l i k → NearDiffer T q c d
    unfolding NearDiffer
    conflict_near q w d j l i k x = go (cmp k l)
      where
        go : Cmp k l → NearDiffer T q c d
        go (Cmp.less h) = absurd (not_before q w (w + d) j l i k x h)
        go (Cmp.same h) = absurd (not_same_cycle q w (w + d) j l i k x h)
        go (Cmp.more h) =
            let (n, f) = distance h in
            let (e, u, a) = use_in w j l x.uses in
            let (y, b) = write_in (w + d) i k x.write in
            let (s, z, t) = run_counted n l k f x.write.runs.cycle in (
              suc n,
              s,
              mode r l,
              mode r k,
              j,
              e,
              i,
              record {
                reach = run_reach T r run l (use_runs w j l x.uses).cycle;
                used = u;
                walk = z;
                write = y;
                soon = omega (arith, x.soon, ap (λ (m : ℕ). m * q) f);
                count = omega (arith, in_parts T c (mode r l) e);
              },
            )

  pub differ_near : (q d : ℕ) → Differ T q c d → NearDiffer T q c d
  unfolding Differ
  differ_near q d (r, run, w, j, l, i, k, x) = conflict_near r run q w d j l i k x

  -- ---- the other way: a walk from a reachable mode is part of a run, with as many writes

  -- the run t goes on from the run r, which ends at cycle k, by n turns to the mode b, with s writes between
  record Stretch (r : List ℕ) (k n s b : ℕ) (t : List ℕ) : Type 0 where
    pub ends : Ends T t (k + n) b
    pub keeps : (m : ℕ) → m ≤ k → mode t m ≡ mode r m
    pub total : before T c t (k + n) ≡ before T c t k + writes_in T c (mode t k) + s

  counted_run : {n s a b : ℕ} → Counted T c n s a b → (r : List ℕ) (k : ℕ) → Ends T r k a → (t : List ℕ) × Stretch r k n s b t
  counted_run (last {a = a} {b = b} f) r k e = (
    r ++ (b ∷ []),
    record {
      ends = subst (λ (x : ℕ). Ends T (r ++ (b ∷ [])) x b) (omega arith) (snoc T r k a b e f);
      keeps = snoc_keeps T r k a b e f;
      total =
          let d : k + 1 ≡ suc k = omega arith in
          omega (arith, before_suc T c (r ++ (b ∷ [])) k, ap (before T c (r ++ (b ∷ []))) d);
    },
  )
  counted_run (more {n = n} {s = s} {a = a} {m = m} {b = b} f w) r k e =
      let (t, x) = counted_run w (r ++ (m ∷ [])) (suc k) (snoc T r k a m e f) in (
        t,
        record {
          ends = subst (λ (y : ℕ). Ends T t y b) (omega arith) x.ends;
          keeps = λ l h. x.keeps l (omega arith) ∙ snoc_keeps T r k a m e f l h;
          total =
              let d : k + suc n ≡ suc k + n = omega arith in
              omega (
                arith,
                x.total,
                before_suc T c t k,
                ap (before T c t) d,
                ap (writes_in T c) (x.keeps (suc k) (omega arith) ∙ (snoc T r k a m e f).at),
              );
        },
      )

  pub counted_low : {n s a b : ℕ} → Counted T c n s a b → 1 ≤ n
  counted_low (last f) = omega arith
  counted_low (more f w) = omega arith

  use_date : {a j e : ℕ} → UseIn T c a j e → e ≤ T.len
  use_date {a} {j} {e} x = go x.uses
    where
      go : (In c (op T j).reads × (e ≡ (op T j).start)) ⊎ (In c (op T j).writes × (e ≡ end_of (op T j))) → e ≤ T.len
      go (inl (y, f)) = omega (arith, (ok.each j x.is_op).fits)
      go (inr (y, f)) = omega (arith, (ok.each j x.is_op).fits)

  -- a use in a mode is a use in each cycle of a run with that mode
  use_run : (r : List ℕ) (a j e l : ℕ) → UseIn T c a j e → l < length r → mode r l ≡ a → Uses T r c (writes_by T r c (e + l * T.len)) j l
  unfolding Uses
  use_run r a j e l x h f = go x.uses
    where
      runs : Runs T r l j
      runs = record { cycle = h; is_op = x.is_op; in_mode = rw f x.runs }

      go : (In c (op T j).reads × (e ≡ (op T j).start)) ⊎ (In c (op T j).writes × (e ≡ end_of (op T j)))
          → Reads T r c (writes_by T r c (e + l * T.len)) j l ⊎ Writes T r c (writes_by T r c (e + l * T.len)) j l
      go (inl (y, g)) =
          inl (record { runs = runs; reads = y; value = ap (λ (m : ℕ). writes_by T r c (m + l * T.len)) (sym g) })
      go (inr (y, g)) =
          inr (record { runs = runs; writes = y; value = ap (λ (m : ℕ). writes_by T r c (m + l * T.len)) (sym g) })

  -- a walk that shows d gives a conflict
  near_conflict : (q d n s a b j e i : ℕ) → NearBy T q c d n s a b j e i → (r : List ℕ) (k : ℕ) → Ends T r k a → (t : List ℕ) → Stretch r k n s b t
      → Meets T q t c (writes_by T t c (e + k * T.len)) (writes_by T t c (e + k * T.len) + d) j k i (k + n)
  near_conflict q d n s a b j e i x r k y t z =
      let low = counted_low x.walk in
      let at : mode t k ≡ a = z.keeps k (omega arith) ∙ y.at in
      let one = ended_split T c t ok k e (omega (arith, z.ends.size)) (use_date x.used) in
      let two =
      ended_split T c t ok (k + n) (end_of (op T i)) (omega (arith, z.ends.size)) (omega (arith, (ok.each i x.write.is_op).fits)) in
      record {
        uses = use_run t a j e k x.used (omega (arith, z.ends.size)) at;
        write =
            record {
              runs =
                  record { cycle = omega (arith, z.ends.size); is_op = x.write.is_op; in_mode = rw z.ends.at x.write.runs };
              writes = x.write.writes;
              value =
                  omega (
                    arith,
                    one,
                    two,
                    z.total,
                    x.count,
                    in_parts T c a e,
                    ap (writes_in T c) at,
                    ap (λ (m : ℕ). ended_in T c m e) at,
                    ap (λ (m : ℕ). ended_in T c m (end_of (op T i))) z.ends.at,
                  );
            };
        later = omega (arith, x.count, ended_self T c b i x.write);
        soon = omega (arith, x.soon);
        other = λ f. omega (arith, f.1);
      }

  pub near_differ : (q d : ℕ) → NearDiffer T q c d → Differ T q c d
  unfolding Differ NearDiffer
  near_differ q d (n, s, a, b, j, e, i, x) =
      let (r, k, y) = reach_run T x.reach in
      let (t, z) = counted_run x.walk r k y in
      (t, z.ends.run, writes_by T t c (e + k * T.len), j, k, i, k + n, near_conflict q d n s a b j e i x r k y t z)

  pub differ_iff : (q d : ℕ) → Differ T q c d ↔ NearDiffer T q c d
  differ_iff q d = (differ_near q d, near_differ q d)

  -- ---- bounds

  -- in the modes between there are at most as many writes as W, each time
  counted_most : (W : ℕ) → ((m : ℕ) → writes_in T c m ≤ W) → {n s a b : ℕ} → Counted T c n s a b → s + W ≤ n * W
  counted_most W h (last f) = omega arith
  counted_most W h (more {m = m} f w) = omega (arith, counted_most W h w, h m)

  -- a walk that shows a difference is short: n * q is below the length
  pub near_short : (q d n s a b j e i : ℕ) → NearBy T q c d n s a b j e i → n * q < T.len
  near_short q d n s a b j e i x = omega (arith, x.soon, (ok.each j x.used.is_op).fits)

  -- and with at most W writes of the cell in a mode its difference is at most (n + 1) * W
  pub near_most : (W : ℕ) → ((m : ℕ) → writes_in T c m ≤ W) → (q d n s a b j e i : ℕ) → NearBy T q c d n s a b j e i → d ≤ suc n * W
  near_most W h q d n s a b j e i x =
      omega (arith, x.count, counted_most W h x.walk, in_parts T c a e, in_parts T c b (end_of (op T i)), h a, h b)

  -- so, for W writes in a mode at most, a difference is at most (n + 1) * W for some n with n * q below the length
  pub differ_within : (W : ℕ) → ((m : ℕ) → writes_in T c m ≤ W) → (q d : ℕ) → Differ T q c d → (n : ℕ) × (n * q < T.len) × (d ≤ suc n * W)
  unfolding NearDiffer
  differ_within W h q d x =
      let (n, s, a, b, j, e, i, y) = differ_near q d x in
      (n, near_short q d n s a b j e i y, near_most W h q d n s a b j e i y)

  -- at most operations times length
  pub differ_most : (q d : ℕ) → 1 ≤ q → Differ T q c d → d ≤ nops T * T.len
  differ_most q d low x =
      let (n, y, z) = differ_within (nops T) (writes_in_most T c) q d x in
      let h : n < T.len = omega (arith, mul-le-mul_left n low) in
      omega (arith, mul-le-mul_right (nops T) h)
