-- The numbers of the writes of a cell in a run: they go up in plain order, one by one, and a reader takes the value of its plain source.
-- Assumes nothing.
use Prim.Native.Nat.{ℕ, zero, suc, ◌+◌, ◌*◌, ◌<◌, ◌≤◌}
use mathlib.Core.Path.{◌≡◌, refl, sym, ap, ◌∙◌}
use mathlib.Core.Bool.{false, ◌&&◌}
use mathlib.Core.List.{List}
use mathlib.Core.Logic.{◌↔◌}
use native.Mathlib.Omega.{arith}
use native.Mathlib.Decide.{dec_lt}
use lib.Dec.{leb}
use lib.ListN.{length}
use Rattle.rules.specs.Sets.{has, In}
use Rattle.rules.specs.Table.{Table, nops, op, end_of, Accepted}
use Rattle.rules.specs.Runs.{mode, Runs, plain_start, plain_end, Source}
use Rattle.theory.proofs.Order.{Cmp, cmp}
use Rattle.theory.proofs.Says.{Says, Known, holds, fails, known, clash_bool, says_by, says_and, says_leb}
use Rattle.theory.proofs.Sources.{source_unique}
use Rattle.rules.specs.Places.{sum, one, writer, writes_by, Writes, Reads}
use Rattle.lives.proofs.Sums.{sum_le, sum_lt, sum_grew, sum_one, sum_some, one_true, one_false, one_le, one_lt, one_mono, one_some}

-- the test that is counted
pub record WriteBy (T : Table) (c m s d u : ℕ) : Type 0 where
  pub runs : In m (op T u).modes
  pub writes : In c (op T u).writes
  pub ends : end_of (op T u) + s ≤ d

pub says_writer : (T : Table) (c m u : ℕ) → Says (writer T c m u) (In m (op T u).modes × In c (op T u).writes)
unfolding writer
says_writer T c m u =
    says_and (has (op T u).modes m) (has (op T u).writes c) ((λ e. e), (λ e. e)) ((λ e. e), (λ e. e))

pub says_write_by : (T : Table) (c m s d u : ℕ) → Says (writer T c m u && leb (end_of (op T u) + s) d) (WriteBy T c m s d u)
says_write_by T c m s d u =
    says_by (says_and (writer T c m u) (leb (end_of (op T u) + s) d) (says_writer T c m u) (says_leb (end_of (op T u) + s) d))
    (λ x. record { runs = x.0.0; writes = x.0.1; ends = x.1 })
    (λ x. ((x.runs, x.writes), x.ends))

module _ (T : Table) (r : List ℕ) (c : ℕ) where
  -- 1 where operation u writes the cell in cycle k by the date d
  abbrev pub counts : ℕ → ℕ → ℕ → ℕ
  counts d k u = one (writer T c (mode r k) u && leb (plain_end T u k) d)

  abbrev pub in_cycle : ℕ → ℕ → ℕ
  in_cycle d k = sum (counts d k) (nops T)

  pub writes_by_is : (d : ℕ) → writes_by T r c d ≡ sum (in_cycle d) (length r)
  unfolding writes_by
  writes_by_is d = refl

  counts_le : (d e : ℕ) → d ≤ e → (k u : ℕ) → counts d k u ≤ counts e k u
  counts_le d e h k u =
      one_mono _ _
      (λ t. let x = (says_write_by T c (mode r k) (k * T.len) d u).0 t in
      (says_write_by T c (mode r k) (k * T.len) e u).1 (record { runs = x.runs; writes = x.writes; ends = omega arith }))

  -- at a later date no fewer writes have ended
  pub ended_mono : (d e : ℕ) → d ≤ e → writes_by T r c d ≤ writes_by T r c e
  ended_mono d e h =
      rw (writes_by_is d, writes_by_is e)
      (sum_le (in_cycle d) (in_cycle e) (length r) (λ k x. sum_le (counts d k) (counts e k) (nops T) (λ u y. counts_le d e h k u)))

  -- what counts at e and not at d
  counts_grew : (d e k u : ℕ) → counts d k u < counts e k u → WriteBy T c (mode r k) (k * T.len) e u × (d < plain_end T u k)
  counts_grew d e k u h =
      let (a, b) = one_lt _ _ h in
      let x = (says_write_by T c (mode r k) (k * T.len) e u).0 b in
      (x, go x a (dec_lt d (plain_end T u k)))
    where
      go : WriteBy T c (mode r k) (k * T.len) e u → writer T c (mode r k) u && leb (plain_end T u k) d ≡ false → Dec (d < plain_end T u k)
          → d < plain_end T u k
      go x a (yes y) = y
      go x a (no y) =
          clash_bool
          ((says_write_by T c (mode r k) (k * T.len) d u).1 (record { runs = x.runs; writes = x.writes; ends = omega arith }))
          a

  -- where more writes have ended at e than at d, there is one between
  pub record Between (d e i k : ℕ) : Type 0 where
    pub runs : Runs T r k i
    pub writes : In c (op T i).writes
    pub after : d < plain_end T i k
    pub by : plain_end T i k ≤ e

  pub ended_grew : (d e : ℕ) → writes_by T r c d < writes_by T r c e → (i k : ℕ) × Between d e i k
  ended_grew d e h =
      let (k, a, x) = sum_grew (in_cycle d) (in_cycle e) (length r) (rw (sym (writes_by_is d), sym (writes_by_is e)) h) in
      let (i, b, y) = sum_grew (counts d k) (counts e k) (nops T) x in
      let (z, w) = counts_grew d e k i y in
      (i, k, record { runs = record { cycle = a; is_op = b; in_mode = z.runs }; writes = z.writes; after = w; by = z.ends })

  -- and where there is one between, more have ended
  pub ended_lt : (d e i k : ℕ) → Between d e i k → writes_by T r c d < writes_by T r c e
  ended_lt d e i k x =
      let h : d ≤ e = omega (arith, x.after, x.by) in
      rw (writes_by_is d, writes_by_is e)
      (sum_lt (in_cycle d) (in_cycle e) (length r) k
      (λ m y. sum_le (counts d m) (counts e m) (nops T) (λ u z. counts_le d e h m u))
      x.runs.cycle
      (sum_lt (counts d k) (counts e k) (nops T) i (λ u z. counts_le d e h k u) x.runs.is_op (here h (known _))))
    where
      here : d ≤ e → Known (writer T c (mode r k) i && leb (plain_end T i k) d) → counts d k i < counts e k i
      here h (holds t) = absurd (omega (arith, ((says_write_by T c (mode r k) (k * T.len) d i).0 t).ends, x.after))
      here h (fails t) =
          omega (
            arith,
            one_false t,
            one_true ((says_write_by T c (mode r k) (k * T.len) e i).1
                (record { runs = x.runs.in_mode; writes = x.writes; ends = x.by })),
          )

  module _ (ok : Accepted T) where
    -- ---- writes of one plain end are one
    own_source : (i k d : ℕ) → Runs T r k i → In c (op T i).writes → plain_end T i k ≡ d → Source T r c d i k
    own_source i k d x w e =
        record { runs = x; writes = w; before = omega arith; last = λ u m y z h. omega arith }

    pub one_end : (i k j l : ℕ) → Runs T r k i → In c (op T i).writes → Runs T r l j → In c (op T j).writes → plain_end T i k ≡ plain_end T j l
        → (i ≡ j) × (k ≡ l)
    one_end i k j l x w y v e =
        source_unique T ok r c (plain_end T j l) i k j l (own_source i k (plain_end T j l) x w e) (own_source j l (plain_end T j l) y v refl)

    -- ---- in one tick one write at most ends
    tick_op : (d k u : ℕ) → k < length r → u < nops T → counts d k u < counts (suc d) k u
        → Runs T r k u × In c (op T u).writes × (plain_end T u k ≡ suc d)
    tick_op d k u a b h =
        let (x, y) = counts_grew d (suc d) k u h in
        (record { cycle = a; is_op = b; in_mode = x.runs }, x.writes, omega (arith, x.ends))

    tick_cycle : (d k : ℕ) → k < length r → in_cycle (suc d) k ≤ suc (in_cycle d k)
    tick_cycle d k a =
        sum_one (counts d k) (counts (suc d) k) (nops T)
        (λ u b. omega (arith, one_le (writer T c (mode r k) u && leb (plain_end T u k) (suc d))))
        (λ u v b e x y.
        let (p, w, f) = tick_op d k u a b x in
        let (s, z, g) = tick_op d k v a e y in
        (one_end u k v k p w s z (f ∙ sym g)).0)

    tick : (d : ℕ) → writes_by T r c (suc d) ≤ suc (writes_by T r c d)
    tick d =
        rw (writes_by_is d, writes_by_is (suc d))
        (sum_one (in_cycle d) (in_cycle (suc d)) (length r) (tick_cycle d)
        (λ k l a b x y.
        let (u, e, h) = sum_grew (counts d k) (counts (suc d) k) (nops T) x in
        let (v, f, g) = sum_grew (counts d l) (counts (suc d) l) (nops T) y in
        let (p, w, m) = tick_op d k u a e h in
        let (s, z, n) = tick_op d l v b f g in
        (one_end u k v l p w s z (m ∙ sym n)).1))

    -- nothing has ended at date 0
    pub ended_none : writes_by T r c 0 ≡ 0
    ended_none = go (dec_lt 0 (writes_by T r c 0))
      where
        go : Dec (0 < writes_by T r c 0) → writes_by T r c 0 ≡ 0
        go (no x) = omega arith
        go (yes x) =
            let (k, a, y) = sum_some (in_cycle 0) (length r) (rw (sym (writes_by_is 0)) x) in
            let (u, b, z) = sum_some (counts 0 k) (nops T) y in
            let w = (says_write_by T c (mode r k) (k * T.len) 0 u).0 (one_some _ z) in
            absurd (omega (arith, w.ends, (ok.each u b).lasts))

    -- ---- each number up to what has ended is the number of a write
    pub number_write : (d v : ℕ) → 1 ≤ v → v ≤ writes_by T r c d → (i k : ℕ) × Writes T r c v i k
    number_write zero v a b = absurd (omega (arith, ended_none))
    number_write (suc d) v a b = go (dec_lt (writes_by T r c d) v) (λ h. number_write d v a h)
      where
        go : Dec (writes_by T r c d < v) → (v ≤ writes_by T r c d → (i k : ℕ) × Writes T r c v i k) → (i k : ℕ) × Writes T r c v i k
        go (no x) f = f (omega arith)
        go (yes x) f =
            let (i, k, y) = ended_grew d (suc d) (omega arith) in
            let e : plain_end T i k ≡ suc d = omega (arith, y.after, y.by) in
            (i, k, record { runs = y.runs; writes = y.writes; value = ap (writes_by T r c) e ∙ n })
          where
            n : writes_by T r c (suc d) ≡ v
            n = omega (arith, tick d, x, b)

    -- a number is that of one write
    pub write_unique : (v i k j l : ℕ) → Writes T r c v i k → Writes T r c v j l → (i ≡ j) × (k ≡ l)
    write_unique v i k j l x y = go (cmp (plain_end T i k) (plain_end T j l))
      where
        go : Cmp (plain_end T i k) (plain_end T j l) → (i ≡ j) × (k ≡ l)
        go (Cmp.less h) =
            absurd
            (omega (
              arith,
              ended_lt (plain_end T i k) (plain_end T j l) j l (record { runs = y.runs; writes = y.writes; after = h; by = omega arith }),
              x.value,
              y.value,
            ))
        go (Cmp.same e) = one_end i k j l x.runs x.writes y.runs y.writes e
        go (Cmp.more h) =
            absurd
            (omega (
              arith,
              ended_lt (plain_end T j l) (plain_end T i k) i k (record { runs = x.runs; writes = x.writes; after = h; by = omega arith }),
              x.value,
              y.value,
            ))

    -- a write has a number from 1 on, and a later one in plain order a greater one
    pub number_low : (v i k : ℕ) → Writes T r c v i k → 1 ≤ v
    number_low v i k x =
        omega (
          arith,
          ended_lt 0 (plain_end T i k) i k
              (record { runs = x.runs; writes = x.writes; after = omega (arith, (ok.each i x.runs.is_op).lasts); by = omega arith }),
          x.value,
        )

    pub number_order : (v w i k j l : ℕ) → Writes T r c v i k → Writes T r c w j l → v < w ↔ (plain_end T i k < plain_end T j l)
    number_order v w i k j l x y = (
      λ h. up h (dec_lt (plain_end T i k) (plain_end T j l)),
      λ h. omega (
        arith,
        ended_lt (plain_end T i k) (plain_end T j l) j l (record { runs = y.runs; writes = y.writes; after = h; by = omega arith }),
        x.value,
        y.value,
      ),
    )
      where
        up : v < w → Dec (plain_end T i k < plain_end T j l) → plain_end T i k < plain_end T j l
        up h (yes a) = a
        up h (no a) = absurd (omega (arith, ended_mono (plain_end T j l) (plain_end T i k) (omega arith), x.value, y.value))

  -- ---- the value that a reader takes is that of its plain source
  pub source_value : (w j l i k : ℕ) → Reads T r c w j l → Source T r c (plain_start T j l) i k → Writes T r c w i k
  source_value w j l i k x s =
      record { runs = s.runs; writes = s.writes; value = go (dec_lt (writes_by T r c (plain_end T i k)) w) }
    where
      go : Dec (writes_by T r c (plain_end T i k) < w) → writes_by T r c (plain_end T i k) ≡ w
      go (no h) = omega (arith, ended_mono (plain_end T i k) (plain_start T j l) s.before, x.value)
      go (yes h) =
          let (u, m, y) = ended_grew (plain_end T i k) (plain_start T j l) (omega (arith, x.value)) in
          absurd (omega (arith, s.last u m y.runs y.writes y.by, y.after))

  pub value_source : (w j l i k : ℕ) → Reads T r c w j l → Writes T r c w i k → Source T r c (plain_start T j l) i k
  value_source w j l i k x y =
      record { runs = y.runs; writes = y.writes; before = before (dec_lt (plain_start T j l) (plain_end T i k)); last = latest }
    where
      before : Dec (plain_start T j l < plain_end T i k) → plain_end T i k ≤ plain_start T j l
      before (no h) = omega arith
      before (yes h) =
          absurd
          (omega (
            arith,
            ended_lt (plain_start T j l) (plain_end T i k) i k (record { runs = y.runs; writes = y.writes; after = h; by = omega arith }),
            x.value,
            y.value,
          ))

      latest : (u m : ℕ) → Runs T r m u → In c (op T u).writes → plain_end T u m ≤ plain_start T j l → plain_end T u m ≤ plain_end T i k
      latest u m a b h = go (dec_lt (plain_end T i k) (plain_end T u m))
        where
          go : Dec (plain_end T i k < plain_end T u m) → plain_end T u m ≤ plain_end T i k
          go (no z) = omega arith
          go (yes z) =
              absurd
              (omega (
                arith,
                ended_lt (plain_end T i k) (plain_start T j l) u m (record { runs = a; writes = b; after = z; by = h }),
                x.value,
                y.value,
              ))

  -- a reader takes value 0 exactly when it has no source
  pub initial_value : (j l : ℕ) → Accepted T → Reads T r c 0 j l → (i k : ℕ) → Source T r c (plain_start T j l) i k → ⊥
  initial_value j l ok x i k s = omega (arith, number_low ok 0 i k (source_value 0 j l i k x s))

  pub has_source : (w j l : ℕ) → Accepted T → 1 ≤ w → Reads T r c w j l → (i k : ℕ) × Source T r c (plain_start T j l) i k
  has_source w j l ok h x =
      let (i, k, y) = number_write ok (plain_start T j l) w h (omega (arith, x.value)) in (i, k, value_source w j l i k x y)
