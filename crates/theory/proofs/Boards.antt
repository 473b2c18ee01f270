-- A period is right for the boards, in runs of every length, exactly when no two operations overlap at a distance n with n * q below the length.
-- Assumes nothing.
use Prim.Native.Nat.{ℕ, suc, ◌+◌, ◌*◌, ◌<◌}
use mathlib.Core.Path.{◌≡◌, ap}
use mathlib.Core.List.{List}
use mathlib.Core.Logic.{◌↔◌}
use native.Mathlib.Omega.{arith}
use native.Mathlib.Decide.{dec_lt}
use Rattle.rules.specs.Table.{Table, Accepted}
use Rattle.rules.specs.Runs.{mode, BoardsRightAt, spaced}
use Rattle.theory.specs.Walks.{Any}
use Rattle.theory.specs.Near.{BoardPair, BoardsNear}
use Rattle.theory.proofs.Order.{distance}
use Rattle.theory.proofs.Walks.{realise, run_reach, run_walk}
use Rattle.theory.proofs.Period.{Meet, boards_by_lem}

-- instances of two cycles, the second later than the first, and what they tell of the modes
pub meet_pair : (T : Table) {s : ℕ → ℕ} (r : List ℕ) (i k j l n : ℕ) → Meet T s r i k j l → l ≡ suc (k + n)
    → BoardPair T (suc n) i j (mode r k) (mode r l)
meet_pair T r i k j l n m e =
    record {
      first = m.first.is_op;
      second = m.second.is_op;
      board = m.board;
      reach = run_reach T r m.run k m.first.cycle;
      runs = m.first.in_mode;
      walk = run_walk T r m.run Any n k l e m.second.cycle (λ _ u v. tt);
      ends = m.second.in_mode;
    }

module _ (T : Table) (ok : Accepted T) (q : ℕ) where
  far : BoardsNear T q → (r : List ℕ) (i k j l : ℕ) → Meet T (spaced q) r i k j l → ⊥
  unfolding BoardsNear
  far near r i k j l m = let (n, e) = distance m.earlier in go n e (dec_lt (suc n * q) T.len)
    where
      go : (n : ℕ) → l ≡ suc (k + n) → Dec (suc n * q < T.len) → ⊥
      go n e (yes d) =
          near (suc n) (omega arith) d i j (mode r k) (mode r l) (meet_pair T r i k j l n m e)
          (omega (arith, m.lap, ap (λ (x : ℕ). x * q) e))
      go n e (no d) = omega (arith, m.lap, ap (λ (x : ℕ). x * q) e, (ok.each i m.first.is_op).fits)

  boards_right : BoardsNear T q → BoardsRightAt T (spaced q)
  boards_right near = boards_by_lem T ok (spaced q) (far near)

  boards_near : BoardsRightAt T (spaced q) → BoardsNear T q
  unfolding BoardsRightAt BoardsNear
  boards_near right n low near i j a b p lap =
      let (r, k, w) = realise T p.reach p.walk in
      right r w.ends.run i k j (k + n)
      (record { cycle = omega (arith, w.ends.size); is_op = p.first; in_mode = rw w.from p.runs })
      (record { cycle = omega (arith, w.ends.size); is_op = p.second; in_mode = rw w.ends.at p.ends })
      (λ e. omega (arith, e.1))
      p.board
      (omega arith)

  pub boards_iff : BoardsRightAt T (spaced q) ↔ BoardsNear T q
  boards_iff = (boards_near, boards_right)
