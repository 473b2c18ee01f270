-- The period is unique, and the length of an accepted table is a right period.
-- Assumes nothing.
use Prim.Native.Nat.{ℕ, ◌+◌, ◌<◌}
use mathlib.Core.Path.{◌≡◌, sym, ap, subst}
use mathlib.Core.List.{List}
use mathlib.Core.Logic.{inl, inr}
use native.Mathlib.Omega.{arith}
use Rattle.rules.specs.Sets.{Share, Overlap}
use Rattle.rules.specs.Table.{Op, Table, nops, op, held_to, Clash, Race, Contest, Accepted}
use Rattle.rules.specs.Runs.{mode, IsRun, Runs, BoardsRightAt, ValuesRightAt, Right, spaced, IsPeriod}
use Rattle.theory.proofs.Order.{Cmp, less, same, more, cmp, not_below, later}

-- a table has one period
pub period_unique : (T : Table) (p q : ℕ) → IsPeriod T p → IsPeriod T q → p ≡ q
period_unique T p q x y =
    omega (arith, not_below (λ z. Right T z) y.least x.low x.right, not_below (λ z. Right T z) x.least y.low y.right)

-- ---- clash and race do not depend on the order of the two
clash_sym : {o u : Op} → Clash o u → Clash u o
clash_sym c =
    record {
      mode = (c.mode.0, c.mode.2, c.mode.1);
      board = (c.board.0, c.board.2, c.board.1);
      lap = (c.lap.1, c.lap.0);
    }

contest_sym : (o u : Op) (c : ℕ) → Contest o u c → Contest u o c
contest_sym o u c (inl (w, inl r)) = inr (r, w)
contest_sym o u c (inl (w, inr v)) = inl (v, inr w)
contest_sym o u c (inr (r, w)) = inl (w, inl r)

race_sym : {o u : Op} → Race o u → Race u o
race_sym {o} {u} c =
    record {
      mode = (c.mode.0, c.mode.2, c.mode.1);
      cell = (c.cell.0, contest_sym o u c.cell.0 c.cell.1);
      lap = (c.lap.1, c.lap.0);
    }

-- operation j, in cycle l, wants a board while operation i, in the earlier cycle k, holds it; s gives the dates at which cycles start
pub record Meet (T : Table) (s : ℕ → ℕ) (r : List ℕ) (i k j l : ℕ) : Type 0 where
  pub run : IsRun T r
  pub first : Runs T r k i
  pub second : Runs T r l j
  pub earlier : k < l
  pub board : Share (op T i).boards (op T j).boards
  pub lap : Overlap ((op T i).start + s k) (held_to (op T i) + s k) ((op T j).start + s l) (held_to (op T j) + s l)

module _ (T : Table) (ok : Accepted T) where
  pub never_clash : (i j : ℕ) → i < nops T → j < nops T → (i ≡ j → ⊥) → Clash (op T i) (op T j) → ⊥
  never_clash i j hi hj ne c = go (cmp i j)
    where
      go : Cmp i j → ⊥
      go (less h) = ok.no_clash i j h hj c
      go (same e) = ne e
      go (more h) = ok.no_clash j i h hi (clash_sym c)

  pub never_race : (i j : ℕ) → i < nops T → j < nops T → (i ≡ j → ⊥) → Race (op T i) (op T j) → ⊥
  never_race i j hi hj ne c = go (cmp i j)
    where
      go : Cmp i j → ⊥
      go (less h) = ok.no_race i j h hj c
      go (same e) = ne e
      go (more h) = ok.no_race j i h hi (race_sym c)

  -- two operations of one cycle that share a board do not overlap
  pub apart : (r : List ℕ) (i j k : ℕ) → Runs T r k i → Runs T r k j → (i ≡ j → ⊥) → Share (op T i).boards (op T j).boards
      → Overlap (op T i).start (held_to (op T i)) (op T j).start (held_to (op T j)) → ⊥
  apart r i j k x y ne b l =
      never_clash i j x.is_op y.is_op ne (record { mode = (mode r k, x.in_mode, y.in_mode); board = b; lap = l })

  -- boards are right where that never happens: in one cycle there is no clash
  pub boards_by_lem : (s : ℕ → ℕ) → ((r : List ℕ) (i k j l : ℕ) → Meet T s r i k j l → ⊥) → BoardsRightAt T s
  unfolding BoardsRightAt
  boards_by_lem s never r run i k j l x y ne b lap = go (cmp k l)
    where
      go : Cmp k l → ⊥
      go (less h) = never r i k j l (record { run = run; first = x; second = y; earlier = h; board = b; lap = lap })
      go (same e) =
          apart r i j k x (subst (λ (m : ℕ). Runs T r m j) (sym e) y) (λ d. ne (d, e)) b
          (omega (arith, ap s e))
      go (more h) =
          never r j l i k
          (record { run = run; first = y; second = x; earlier = h; board = (b.0, b.2, b.1); lap = (lap.1, lap.0) })

  -- the length is right
  plain_boards : BoardsRightAt T (spaced T.len)
  plain_boards = boards_by_lem (spaced T.len) (λ r i k j l m. omega (arith, m.lap, later T.len m.earlier, (ok.each i m.first.is_op).fits))

  plain_values : ValuesRightAt T (spaced T.len)
  unfolding ValuesRightAt
  plain_values r run c i k j l y h s = s.before

  pub length_right : Right T T.len
  length_right = record { boards = plain_boards; values = plain_values }
