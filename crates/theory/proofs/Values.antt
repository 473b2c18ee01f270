-- A period is right for the values, in runs of every length, exactly when each value is in time at the distances n with n * q below the
-- length; and so is every longer one, and all starts of cycles that are so far apart.
-- Assumes nothing.
use Prim.Native.Nat.{ℕ, suc, ◌+◌, ◌*◌, ◌<◌, ◌≤◌}
use mathlib.Core.Path.{◌≡◌, ap, subst, ◌∙◌}
use mathlib.Core.List.{List}
use mathlib.Core.Logic.{◌↔◌}
use native.Mathlib.Omega.{arith}
use native.Mathlib.Decide.{dec_lt}
use Rattle.rules.specs.Sets.{In}
use Rattle.rules.specs.Table.{Table, nops, op, end_of, Accepted}
use Rattle.rules.specs.Runs.{mode, IsRun, Runs, plain_start, Source, ValuesRightAt, spaced}
use Rattle.rules.specs.Gaps.{Apart}
use Rattle.theory.specs.Near.{LastWriter, Quiet, QuietTo, ValuePair, ValuesNear, ValuesClear}
use Rattle.theory.proofs.Order.{Cmp, cmp, distance, later}
use Rattle.theory.proofs.Apart.{spaced_apart, apart_turns}
use Rattle.theory.proofs.Walks.{Realised, realise, run_reach, run_walk}

module _ (T : Table) (ok : Accepted T) where
  -- ---- what the source of a reader in a later cycle tells of the modes
  module _ (r : List ℕ) (run : IsRun T r) (c i k j l : ℕ) (y : Runs T r l j) (v : In c (op T j).reads)
      (s : Source T r c ((op T j).start + l * T.len) i k) (h : k < l)
    where
      -- a write of the cell in a cycle before the reader's came no later than the source
      no_later : (u m : ℕ) → m < l → u < nops T → In (mode r m) (op T u).modes → In c (op T u).writes
          → end_of (op T u) + m * T.len ≤ end_of (op T i) + k * T.len
      no_later u m x a b w =
          s.last u m (record { cycle = omega (arith, y.cycle); is_op = a; in_mode = b }) w
          (omega (arith, later T.len x, (ok.each u a).fits))

      source_last : LastWriter T c (mode r k) i
      source_last =
          record {
            is_op = s.runs.is_op;
            runs = s.runs.in_mode;
            writes = s.writes;
            last = λ u a b w. omega (arith, no_later u k h a b w);
          }

      source_quiet : (m : ℕ) → k < m → m < l → Quiet T c (mode r m)
      source_quiet m f g u a b w =
          omega (arith, no_later u m g a b w, later T.len f, (ok.each i s.runs.is_op).fits, (ok.each u a).lasts)

      source_quiet_to : QuietTo T c (op T j).start (mode r l)
      source_quiet_to u a b w e =
          omega (
            arith,
            s.last u l (record { cycle = y.cycle; is_op = a; in_mode = b }) w (omega arith),
            later T.len h,
            (ok.each i s.runs.is_op).fits,
            (ok.each u a).lasts,
          )

      source_pair : (n : ℕ) → l ≡ suc (k + n) → ValuePair T (suc n) c i j (mode r k) (mode r l)
      source_pair n e =
          record {
            reach = run_reach T r run k s.runs.cycle;
            writer = source_last;
            walk = run_walk T r run (Quiet T c) n k l e y.cycle source_quiet;
            is_op = y.is_op;
            reads = v;
            runs = y.in_mode;
            quiet = source_quiet_to;
          }

  -- ---- the other way: what a pair tells of the source
  module _ (n c i j a b : ℕ) (low : 1 ≤ n) (p : ValuePair T n c i j a b) (r : List ℕ) (k : ℕ) (w : Realised T (Quiet T c) n a b r k)
    where
      pair_last : (u m : ℕ) → Runs T r m u → In c (op T u).writes
          → end_of (op T u) + m * T.len ≤ (op T j).start + (k + n) * T.len
          → end_of (op T u) + m * T.len ≤ end_of (op T i) + k * T.len
      pair_last u m x z h = go (cmp m k) (cmp m (k + n))
        where
          go : Cmp m k → Cmp m (k + n) → end_of (op T u) + m * T.len ≤ end_of (op T i) + k * T.len
          go (Cmp.less e) d = omega (arith, later T.len e, (ok.each u x.is_op).fits)
          go (Cmp.same e) d =
              omega (
                arith,
                ap (λ (t : ℕ). t * T.len) e,
                p.writer.last u x.is_op (subst (λ (t : ℕ). In t (op T u).modes) (ap (mode r) e ∙ w.from) x.in_mode) z,
              )
          go (Cmp.more e) (Cmp.less d) = absurd (w.via m e d u x.is_op x.in_mode z)
          go (Cmp.more e) (Cmp.same d) =
              absurd
              (p.quiet u x.is_op (subst (λ (t : ℕ). In t (op T u).modes) (ap (mode r) d ∙ w.ends.at) x.in_mode) z
              (omega (arith, ap (λ (t : ℕ). t * T.len) d)))
          go (Cmp.more e) (Cmp.more d) =
              absurd (omega (arith, later T.len d, (ok.each u x.is_op).lasts, (ok.each j p.is_op).fits))

      pair_source : Source T r c ((op T j).start + (k + n) * T.len) i k
      pair_source =
          record {
            runs =
                record {
                  cycle = omega (arith, w.ends.size);
                  is_op = p.writer.is_op;
                  in_mode = rw w.from p.writer.runs;
                };
            writes = p.writer.writes;
            before = omega (arith, (ok.each i p.writer.is_op).fits, step);
            last = pair_last;
          }
        where
          step : k * T.len + T.len ≤ (k + n) * T.len
          step = later T.len (omega arith)

  -- values are right where no reader takes one of an earlier cycle too early: in its own cycle it comes as in the plain run
  values_by : (s : ℕ → ℕ)
      → ((r : List ℕ) → IsRun T r → (c i k j l : ℕ) → Runs T r l j → In c (op T j).reads → Source T r c (plain_start T j l) i k → k < l
      → end_of (op T i) + s k ≤ (op T j).start + s l)
      → ValuesRightAt T s
  unfolding ValuesRightAt
  values_by s before r run c i k j l y v x = go (cmp k l)
    where
      go : Cmp k l → end_of (op T i) + s k ≤ (op T j).start + s l
      go (Cmp.less h) = before r run c i k j l y v x h
      go (Cmp.same e) = omega (arith, x.before, ap s e, ap (λ (m : ℕ). m * T.len) e)
      go (Cmp.more h) =
          absurd
          (omega (arith, x.before, later T.len h, (ok.each j y.is_op).fits, (ok.each i x.runs.is_op).lasts))

  module _ (q : ℕ) where
    -- further cycles ask nothing more
    near_clear : ValuesNear T q → ValuesClear T q
    unfolding ValuesNear ValuesClear
    near_clear near n low c i j a b p = go (dec_lt (n * q) T.len)
      where
        go : Dec (n * q < T.len) → end_of (op T i) ≤ (op T j).start + n * q
        go (yes h) = near n low h c i j a b p
        go (no h) = omega (arith, (ok.each i p.writer.is_op).fits)

    -- values that are in time at every distance are right for all starts that are q or more apart
    pub clear_values : ValuesClear T q → (s : ℕ → ℕ) → Apart q s → ValuesRightAt T s
    unfolding ValuesClear
    clear_values clear s x =
        values_by s (λ r run c i k j l y v src h.
        let (n, e) = distance h in
        omega (
          arith,
          apart_turns x n k l e,
          clear (suc n) (omega arith) c i j (mode r k) (mode r l) (source_pair r run c i k j l y v src h n e),
        ))

    values_near : ValuesRightAt T (spaced q) → ValuesNear T q
    unfolding ValuesNear ValuesRightAt
    values_near right n low near c i j a b p =
        let (r, k, w) = realise T p.reach p.walk in
        omega (
          arith,
          right r w.ends.run c i k j (k + n)
              (record { cycle = omega (arith, w.ends.size); is_op = p.is_op; in_mode = rw w.ends.at p.runs })
              p.reads
              (pair_source n c i j a b low p r k w),
        )

    pub values_iff : ValuesRightAt T (spaced q) ↔ ValuesNear T q
    values_iff = (values_near, λ near. clear_values (near_clear near) (spaced q) (spaced_apart (omega arith)))

    pub values_clear : ValuesRightAt T (spaced q) → ValuesClear T q
    values_clear right = near_clear (values_near right)

  -- values that are right at a period are right at every longer one
  pub values_longer : (q p : ℕ) → q ≤ p → ValuesRightAt T (spaced q) → ValuesRightAt T (spaced p)
  values_longer q p h right = clear_values q (values_clear q right) (spaced p) (spaced_apart h)
