-- An operation that is stored is there, and the others stay; the columns of an accepted table are short.
-- Assumes nothing.
use Rattle.std.specs.Prelude.{ℕ, ◌+◌, ◌-◌, ◌<◌, ◌≤◌, ◌≡◌, refl, List, map, length, get_or, take, replicate}
use Rattle.std.proofs.Common.{sym, ap, ◌∙◌, arith, length-set, get_or-set_same, get_or-set_other, get_or-take, length-take-le}
use Rattle.std.proofs.Math.Path.{subst⁻¹}
use Rattle.std.proofs.Math.Decide.{dec_lt}
use Rattle.std.proofs.lemmas.List.{length-map, get_or-replicate}
use Rattle.std.proofs.Math.ListN.{get_or-map, get_or-eq_default}
use Rattle.rules.specs.Sets.{In}
use Rattle.rules.specs.Table.{Op, Table, no_op, nops, op, end_of, held_to, Accepted}
use Rattle.theory.proofs.Order.{Cmp, cmp}
use Rattle.theory.proofs.Sets.{in_none}
use Rattle.table.specs.declared.Op as code
use Rattle.table.specs.Tables.{op_of, blank_op}
use Rattle.columns.specs.Columns.{op_by, op_dated, dated, dates, op_put, InOrder, Settled, Columns, Short}
use Rattle.columns.specs.declared.Dated.{Dated}

-- ---- one operation stored

module _ (cols : List Dated) (k : ℕ) (o : Op) where
  -- the dates say how long it lasts, and how long its boards settle
  lasts_for : end_of o - o.start ≡ o.dur
  lasts_for = omega arith

  held_for : held_to o - end_of o ≡ o.hold
  held_for = omega arith

  op_of_dates : op_dated (dated o) ≡ o
  op_of_dates = rw (lasts_for, held_for) refl

  dates_there : length cols ≡ 32 → k < 32 → dates (op_put cols k o) k ≡ dated o
  dates_there long h = get_or-set_same cols k (dated o) (dated no_op) (omega arith)

  with_there : length cols ≡ 32 → k < 32 → op_by (op_put cols k o) k ≡ o
  with_there long h = ap op_dated (dates_there long h) ∙ op_of_dates

  stays : (i : ℕ) → (i ≡ k → ⊥) → dates (op_put cols k o) i ≡ dates cols i
  stays i e = get_or-set_other cols k i (dated o) (dated no_op) e

  with_other : (i : ℕ) → (i ≡ k → ⊥) → op_by (op_put cols k o) i ≡ op_by cols i
  with_other i e = ap op_dated (stays i e)

-- ---- all of them

abbrev Ordered : Dated → Type 0
Ordered d = InOrder d.start d.end d.held

ordered : (o : Op) → Ordered (dated o)
ordered o = record { lasts = omega arith; settles = omega arith }

-- the first k operations are there, and nothing else
pub record Filled (T : Table) (k : ℕ) (cols : List Dated) : Type 0 where
  pub long : length cols ≡ 32
  pub there : (i : ℕ) → i < k → op_by cols i ≡ op T i
  pub rest : (i : ℕ) → k ≤ i → i < 32 → op_by cols i ≡ no_op
  pub settled : Settled cols

pub filled_none : (T : Table) → Filled T 0 (replicate 32 (dated no_op))
filled_none T = record { long = refl; there = λ i l. absurd (omega arith); rest = λ i l m. ap op_dated (empty i m); settled = λ i h. subst⁻¹ Ordered (empty i h) (ordered no_op) }
  where
    empty : (i : ℕ) → i < 32 → dates (replicate 32 (dated no_op)) i ≡ dated no_op
    empty i h = get_or-replicate 32 i (dated no_op) (dated no_op) h

-- the operations as the code has them
pub op_in_lem : (T : Table) (ops : List code.Op) (count k : ℕ) → T.ops ≡ map op_of (take count ops) → k < count → op_of (get_or ops k blank_op) ≡ op T k
op_in_lem T ops count k e h =
    sym (ap (λ (os : List Op). get_or os k no_op) e ∙ get_or-map op_of (take count ops) k blank_op ∙ ap op_of (get_or-take count ops k blank_op h))

pub ops_count : (T : Table) (ops : List code.Op) (count : ℕ) → T.ops ≡ map op_of (take count ops) → count ≤ length ops → count ≡ nops T
ops_count T ops count e h =
    sym (ap (λ (os : List Op). length os) e ∙ length-map (take count ops) op_of ∙ length-take-le count ops h)

pub filled_more : {T : Table} {k : ℕ} {cols : List Dated} (o : Op) → k < 32 → o ≡ op T k → Filled T k cols → Filled T (k + 1) (op_put cols k o)
filled_more {T} {k} {cols} o h e f =
    record {
      long = simp length-set f.long;
      there = λ i l. there i l (cmp i k);
      rest = λ i l m. with_other cols k o i (λ x. omega arith) ∙ f.rest i (omega arith) m;
      settled = λ i l. settled i l (cmp i k);
    }
  where
    settled : (i : ℕ) → i < 32 → Cmp i k → Ordered (dates (op_put cols k o) i)
    settled i l (Cmp.less m) = subst⁻¹ Ordered (stays cols k o i (λ x. omega arith)) (f.settled i l)
    settled i l (Cmp.same m) = rw m (subst⁻¹ Ordered (dates_there cols k o f.long h) (ordered o))
    settled i l (Cmp.more m) = subst⁻¹ Ordered (stays cols k o i (λ x. omega arith)) (f.settled i l)

    there : (i : ℕ) → i < k + 1 → Cmp i k → op_by (op_put cols k o) i ≡ op T i
    there i l (Cmp.less m) = with_other cols k o i (λ x. omega arith) ∙ f.there i m
    there i l (Cmp.same m) = rw m (with_there cols k o f.long h ∙ e)
    there i l (Cmp.more m) = absurd (omega arith)

pub filled_all : {T : Table} {cols : List Dated} → Filled T (nops T) cols → Columns T cols
filled_all {T} {cols} f = record { each = λ i h. go i h (dec_lt i (nops T)); settled = f.settled }
  where
    go : (i : ℕ) → i < 32 → Dec (i < nops T) → op_by cols i ≡ op T i
    go i h (yes l) = f.there i l
    go i h (no l) = f.rest i (omega arith) h ∙ sym (get_or-eq_default T.ops no_op {n = i} (omega arith))

-- ---- what they hold

-- an operation that has a member in one of its sets is one of the table's
pub op_there_lem : (T : Table) (f : Op → ℕ) → f no_op ≡ 0 → (i m : ℕ) → In m (f (op T i)) → i < nops T
op_there_lem T f e i m x = go (dec_lt i (nops T))
  where
    go : Dec (i < nops T) → i < nops T
    go (yes l) = l
    go (no n) = absurd (in_none m (rw (get_or-eq_default T.ops no_op {n = i} (omega arith), e) at x))

module _ {T : Table} {cols : List Dated} (ok : Accepted T) (c : Columns T cols) where
  -- an operation, and what stands past the operations, lets go of its boards inside the table
  inside : (i : ℕ) → held_to (op T i) ≤ T.len
  inside i = go (dec_lt i (nops T))
    where
      go : Dec (i < nops T) → held_to (op T i) ≤ T.len
      go (yes l) = (ok.each i l).fits
      go (no l) = rw (get_or-eq_default T.ops no_op {n = i} (omega arith)) (omega arith)

  -- every operation lets go of its boards by the end of the table
  pub leaves_by : (i : ℕ) → i < 32 → held_to (op_by cols i) ≤ T.len
  leaves_by i h = subst⁻¹ (λ (o : Op). held_to o ≤ T.len) (c.each i h) (inside i)

  pub columns_short : Short cols
  columns_short =
      record {
        ends = λ i h. subst⁻¹ (λ (o : Op). end_of o ≤ 1000) (c.each i h) (omega (arith, inside i, ok.len_high));
        leaves = λ i h. omega (arith, leaves_by i h, ok.len_high);
        settled = c.settled;
      }
