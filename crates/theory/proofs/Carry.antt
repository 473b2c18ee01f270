-- What is right for a table is right for a table that is carried into it, whatever the dates at which the cycles start; and demand 3 from it.
-- Assumes nothing.
use Prim.Native.Nat.{ℕ, zero, suc, ◌+◌, ◌*◌, ◌<◌, ◌≤◌}
use mathlib.Core.Path.{◌≡◌, refl, ap, subst, subst⁻¹}
use mathlib.Core.List.{List, [], ◌∷◌, map}
use native.Mathlib.Omega.{arith}
use lib.ListN.{length, length-map}
use Rattle.rules.specs.Sets.{In}
use Rattle.rules.specs.Table.{Table, nops, op, end_of, Accepted}
use Rattle.rules.specs.Runs.{mode, IsRun, Runs, Source, BoardsRightAt, ValuesRightAt, RightAt, Right, spaced, IsPeriod}
use Rattle.rules.specs.Better.{Better}
use Rattle.theory.specs.Carry.{OpCarried, Carry}
use Rattle.theory.proofs.Order.{not_below}
use Rattle.theory.proofs.Exists.{run_mode}
use Rattle.theory.proofs.Sources.{ended_iff_started, writes_in_order}

pub mode_map : (f : ℕ → ℕ) (r : List ℕ) (k : ℕ) → k < length r → mode (map f r) k ≡ f (mode r k)
mode_map f [] k h = absurd (omega arith)
mode_map f (m ∷ r) zero h = refl
mode_map f (m ∷ r) (suc k) h = mode_map f r k (omega arith)

module _ (S T : Table) (s t f : ℕ → ℕ) (c : Carry S T s t f) (okS : Accepted S) where
  pub run_of : (r : List ℕ) → IsRun S r → IsRun T (map f r)
  run_of r x =
      record {
        some = omega (arith, x.some, length-map r f);
        begins = rw (mode_map f r 0 x.some) (c.first (mode r 0) x.begins);
        goes = λ k h.
            let l : suc k < length r = omega (arith, length-map r f) in
            rw (mode_map f r k (omega arith), mode_map f r (suc k) l) (c.turns (mode r k) (mode r (suc k)) (x.goes k l));
      }

  module _ (r : List ℕ) (run : IsRun S r) where
    pub runs_of : (k i : ℕ) → Runs S r k i → Runs T (map f r) k (s i)
    runs_of k i x =
        record {
          cycle = omega (arith, x.cycle, length-map r f);
          is_op = c.there i x.is_op;
          in_mode =
              rw (mode_map f r k x.cycle) (((c.each i x.is_op).modes (mode r k) (run_mode S okS r run k x.cycle)).0 x.in_mode);
        }

    pub runs_to : (k i : ℕ) → i < nops S → Runs T (map f r) k (s i) → Runs S r k i
    runs_to k i h x =
        let l : k < length r = omega (arith, x.cycle, length-map r f) in
        record {
          cycle = l;
          is_op = h;
          in_mode =
              ((c.each i h).modes (mode r k) (run_mode S okS r run k l)).1
              (subst (λ (m : ℕ). In m (op T (s i)).modes) (mode_map f r k l) x.in_mode);
        }

  module _ (d : ℕ → ℕ) where
    pub carry_boards : BoardsRightAt T d → BoardsRightAt S d
    unfolding BoardsRightAt
    carry_boards right r run i k j l x y ne b lap =
        let p = c.each i x.is_op in
        let q = c.each j y.is_op in
        right (map f r) (run_of r run) (s i) k (s j) l (runs_of r run k i x) (runs_of r run l j y)
        (λ e. ne (c.apart i j x.is_op y.is_op e.0, e.1))
        (c.boards i j x.is_op y.is_op b)
        (omega (arith, p.start, p.held, q.start, q.held))

  module _ (okT : Accepted T) where
    module _ (r : List ℕ) (run : IsRun S r) (z i k j l : ℕ) (y : Runs S r l j) (v : In z (op S j).reads)
        (src : Source S r z ((op S j).start + l * S.len) i k)
      where
        lens : (m : ℕ) → m * S.len ≡ m * T.len
        lens m = ap (λ (x : ℕ). m * x) c.len

        p : OpCarried S.modes f (op S i) (op T (s i))
        p = c.each i src.runs.is_op

        q : OpCarried S.modes f (op S j) (op T (s j))
        q = c.each j y.is_op

        -- no write of an operation that comes from S is later than the source
        latest : (u m : ℕ) → u < nops S → Runs T (map f r) m (s u) → In z (op T (s u)).writes
            → end_of (op T (s u)) + m * T.len ≤ (op T (s j)).start + l * T.len
            → end_of (op T (s u)) + m * T.len ≤ end_of (op T (s i)) + k * T.len
        latest u m hu a b h =
            (writes_in_order T okT (map f r) (s u) m (s i) k z a (runs_of r run k i src.runs) b ((p.writes z).0 src.writes)).1
            (omega (arith, e₃, g.start, p.start, lens m, lens k))
          where
            g : OpCarried S.modes f (op S u) (op T (s u))
            g = c.each u hu

            a' : Runs S r m u
            a' = runs_to r run m u hu a

            b' : In z (op S u).writes
            b' = (g.writes z).1 b

            e₁ : end_of (op S u) + m * S.len ≤ (op S j).start + l * S.len
            e₁ =
                (ended_iff_started S okS r u m j l z a' y b' v).1
                (omega (arith, h, (okT.each (s u) a.is_op).lasts, g.start, q.start, lens m, lens l))

            e₃ : (op S u).start + m * S.len ≤ (op S i).start + k * S.len
            e₃ = (writes_in_order S okS r u m i k z a' src.runs b' src.writes).0 (src.last u m a' b' e₁)

        carry_source : Source T (map f r) z ((op T (s j)).start + l * T.len) (s i) k
        carry_source =
            record {
              runs = runs_of r run k i src.runs;
              writes = (p.writes z).0 src.writes;
              before =
                  (ended_iff_started T okT (map f r) (s i) k (s j) l z (runs_of r run k i src.runs) (runs_of r run l j y)
                  ((p.writes z).0 src.writes) (q.reads z v)).1
                  (omega (arith, src.before, (okS.each i src.runs.is_op).lasts, p.start, q.start, lens k, lens l));
              last = λ u m a b h.
                  let e = c.onto u a.is_op in
                  subst
                  (λ (x : ℕ). Runs T (map f r) m x → In z (op T x).writes → end_of (op T x) + m * T.len ≤ (op T (s j)).start + l * T.len
                  → end_of (op T x) + m * T.len ≤ end_of (op T (s i)) + k * T.len)
                  e (latest (t u) m (c.back u a.is_op)) a b h;
            }

    pub carry_values : (d : ℕ → ℕ) → ValuesRightAt T d → ValuesRightAt S d
    unfolding ValuesRightAt
    carry_values d right r run z i k j l y v src =
        let p = c.each i src.runs.is_op in
        let q = c.each j y.is_op in
        omega (
          arith,
          right (map f r) (run_of r run) z (s i) k (s j) l (runs_of r run l j y) (q.reads z v) (carry_source r run z i k j l y v src),
          p.start,
          p.dur,
          q.start,
        )

    pub carry_right : (d : ℕ → ℕ) → RightAt T d → RightAt S d
    carry_right d x = record { boards = carry_boards d x.boards; values = carry_values d x.values }

-- a table of better knowledge is carried into the first by the maps that change nothing
better_carry : (T S : Table) → Better T S → Carry S T (λ i. i) (λ i. i) (λ a. a)
better_carry T S le =
    record {
      len = le.len;
      there = λ i h. omega (arith, le.count);
      back = λ i h. omega (arith, le.count);
      onto = λ u h. refl;
      apart = λ i j a b e. e;
      each = λ i h.
          let p = le.each i (omega (arith, le.count)) in
          record {
            start = p.start;
            held = omega (arith, p.start, p.dur);
            dur = p.dur;
            reads = λ z x. subst (λ (y : ℕ). In z y) p.reads x;
            writes = λ z. (λ x. subst (λ (y : ℕ). In z y) p.writes x, λ x. subst⁻¹ (λ (y : ℕ). In z y) p.writes x);
            modes = λ a _. (λ x. subst (λ (y : ℕ). In a y) p.modes x, λ x. subst⁻¹ (λ (y : ℕ). In a y) p.modes x);
          };
      boards = λ i j a b (m, x, y).
          (m, (le.each i (omega (arith, le.count))).boards m x, (le.each j (omega (arith, le.count))).boards m y);
      first = le.firsts;
      turns = λ a b x. le.turns a b x;
    }

module _ (T S : Table) (okT : Accepted T) (okS : Accepted S) (le : Better T S) where
  -- whatever the dates at which the cycles start: "what fits the boards of the first fits those of the second, what arrives in the first
  -- arrives in the second"
  pub better_boards : (d : ℕ → ℕ) → BoardsRightAt T d → BoardsRightAt S d
  better_boards = carry_boards S T (λ i. i) (λ i. i) (λ a. a) (better_carry T S le) okS

  pub better_values : (d : ℕ → ℕ) → ValuesRightAt T d → ValuesRightAt S d
  better_values = carry_values S T (λ i. i) (λ i. i) (λ a. a) (better_carry T S le) okS okT

  pub better_right_at : (d : ℕ → ℕ) → RightAt T d → RightAt S d
  better_right_at = carry_right S T (λ i. i) (λ i. i) (λ a. a) (better_carry T S le) okS okT

  -- Demand 3: "each period that is right for the first, up to the table's length, is right for the second"
  pub better_right : (q : ℕ) → 1 ≤ q → q ≤ T.len → Right T q → Right S q
  better_right q low high = better_right_at (spaced q)

  -- "so its smallest period is no longer"
  pub better_period : (q p : ℕ) → IsPeriod T q → IsPeriod S p → p ≤ q
  better_period q p x y = not_below (λ z. Right S z) y.least x.low (better_right q x.low x.high x.right)
