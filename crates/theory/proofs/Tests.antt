-- The computed tests say what they are named for, for runs of every length.
-- Assumes nothing.
use Prim.Native.Nat.{ℕ, zero, suc, ◌+◌, ◌*◌, ◌<◌, ◌≤◌}
use mathlib.Core.Path.{◌≡◌}
use mathlib.Core.Bool.{Bool, true, ◌&&◌}
use mathlib.Core.Logic.{◌↔◌}
use native.Mathlib.Nat.{mul-le-mul_left}
use native.Mathlib.Decide.{dec_lt, dec_le}
use native.Mathlib.Omega.{arith}
use lib.Dec.{leb, ltb}
use lib.Bits.{bit_and}
use Rattle.rules.specs.Sets.{has, In, Share, shares, Overlap, overlaps}
use Rattle.rules.specs.Table.{Op, Table, nops, op, end_of, held_to, Accepted}
use Rattle.rules.specs.Runs.{BoardsRightAt, ValuesRightAt, Right, spaced}
use Rattle.theory.specs.Walks.{IsReach}
use Rattle.theory.specs.Near.{BoardPair, BoardsNear, BoardsClear, LastWriter, Quiet, QuietTo, ValuesNear}
use Rattle.theory.specs.Tests.{without, via, modes_of, board_bad, writers, last_in, fresh_in, value_bad, boards_fine, values_fine, late_bad, LetGo, boards_free}
use Rattle.theory.proofs.Says.{Says, says_itself, says_by, says_leb, says_ltb, says_and, says_not, says_all}
use Rattle.theory.proofs.Sets.{in_none, in_without, in_small, says_shares}
use Rattle.theory.proofs.Modes.{Way, says_way, in_modes, walk_map}
use Rattle.theory.proofs.Boards.{boards_iff}
use Rattle.theory.proofs.Values.{values_iff}

pub says_overlaps : (a b c d : ℕ) → Says (overlaps a b c d) (Overlap a b c d)
unfolding overlaps
says_overlaps a b c d = says_and (ltb a d) (ltb c b) (says_ltb a d) (says_ltb c b)

-- a distance that is looked at is below the length
below_length : (n q p : ℕ) → 1 ≤ q → suc n * q < p → n < p
below_length n q p h d = omega (arith, mul-le-mul_left (suc n) h)

module _ (T : Table) (R : ℕ) (hR : IsReach T R) (q : ℕ) (low : 1 ≤ q) where
  -- ---- boards

  -- two operations that run n + 1 cycles apart: a walk from a mode of the one to a mode of the other
  pair_way : (n i j a b : ℕ) → BoardPair T (suc n) i j a b → Way T 0 (suc n) (op T i).modes (op T j).modes
  pair_way n i j a b p = (a, b, p.reach, p.runs, walk_map (λ m _ e. in_none m e) p.walk, p.ends)

  way_pair : (n i j : ℕ) → i < nops T → j < nops T → Share (op T i).boards (op T j).boards
      → (w : Way T 0 (suc n) (op T i).modes (op T j).modes) → BoardPair T (suc n) i j w.0 w.1
  way_pair n i j hi hj board (a, b, r, p, w, e) =
      record { first = hi; second = hj; board = board; reach = r; runs = p; walk = walk_map (λ m _. tt) w; ends = e }

  abbrev BoardBad : ℕ → ℕ → ℕ → Type 0
  BoardBad n i j =
      (suc n * q < T.len)
      × (Share (op T i).boards (op T j).boards
      × (Overlap (op T i).start (held_to (op T i)) ((op T j).start + suc n * q) (held_to (op T j) + suc n * q)
      × Way T 0 (suc n) (op T i).modes (op T j).modes))

  says_board_bad : (n i j : ℕ) → Says (board_bad T R q n i j) (BoardBad n i j)
  unfolding board_bad
  says_board_bad n i j =
      says_and _ _ (says_ltb _ _)
      (says_and _ _ (says_shares _ _) (says_and _ _ (says_overlaps _ _ _ _) (says_way T R hR 0 n (op T i).modes (op T j).modes)))

  abbrev NoBoardBad : Type 0
  NoBoardBad = (n : ℕ) → n < T.len → (i : ℕ) → i < nops T → (j : ℕ) → j < nops T → BoardBad n i j → ⊥

  says_no_board_bad : Says (boards_fine T R q) NoBoardBad
  unfolding boards_fine
  says_no_board_bad = says_all _ _ (λ n _. says_all _ _ (λ i _. says_all _ _ (λ j _. says_not _ (says_board_bad n i j))))

  fine_near : NoBoardBad → BoardsNear T q
  unfolding BoardsNear
  fine_near x zero h near i j a b p lap = omega arith
  fine_near x (suc n) h near i j a b p lap =
      x n (below_length n q T.len low near) i p.first j p.second (near, (p.board, (lap, pair_way n i j a b p)))

  near_fine : BoardsNear T q → NoBoardBad
  unfolding BoardsNear
  near_fine x n h i hi j hj (near, (board, (lap, way))) =
      x (suc n) (omega arith) near i j way.0 way.1 (way_pair n i j hi hj board way) lap

  says_boards : Says (boards_fine T R q) (BoardsNear T q)
  says_boards = says_by says_no_board_bad fine_near near_fine

  -- ---- boards of cycles that the operator starts
  pub clear_let_go : BoardsClear T q ↔ LetGo T R q
  unfolding BoardsClear
  clear_let_go = (
    λ x i hi n j hj b e.
        let way = (says_way T R hR 0 n (op T i).modes (op T j).modes).0 e in
        x (suc n) (omega arith) i j way.0 way.1 (way_pair n i j hi hj b way),
    λ x n. back x n,
  )
    where
      back : LetGo T R q → (n : ℕ) → 1 ≤ n → (i j a b : ℕ) → BoardPair T n i j a b → held_to (op T i) ≤ (op T j).start + n * q
      back x zero h i j a b p = absurd (omega arith)
      back x (suc n) h i j a b p =
          x i p.first n j p.second p.board ((says_way T R hR 0 n (op T i).modes (op T j).modes).1 (pair_way n i j a b p))

  abbrev LateBad : ℕ → ℕ → ℕ → Type 0
  LateBad n i j =
      (suc n * q < T.len)
      × (Share (op T i).boards (op T j).boards
      × (((op T j).start + suc n * q < held_to (op T i))
      × (shares (via T.follow 0 n (bit_and R (op T i).modes)) (op T j).modes ≡ true)))

  says_late_bad : (n i j : ℕ) → Says (late_bad T R q n i j) (LateBad n i j)
  unfolding late_bad
  says_late_bad n i j = says_and _ _ (says_ltb _ _) (says_and _ _ (says_shares _ _) (says_and _ _ (says_ltb _ _) says_itself))

  abbrev NoLateBad : Type 0
  NoLateBad = (n : ℕ) → n < T.len → (i : ℕ) → i < nops T → (j : ℕ) → j < nops T → LateBad n i j → ⊥

  says_no_late_bad : Says (boards_free T R q) NoLateBad
  unfolding boards_free
  says_no_late_bad = says_all _ _ (λ n _. says_all _ _ (λ i _. says_all _ _ (λ j _. says_not _ (says_late_bad n i j))))

  -- ---- values
  quiet_iff : (c m : ℕ) → Quiet T c m ↔ (In m (writers T c) → ⊥)
  unfolding writers
  quiet_iff c m = (
    λ x e. let (u, h, w, p) = (in_modes (λ o. has o.writes c) T.ops m).0 e in x u h p w,
    λ x u h p w. x ((in_modes (λ o. has o.writes c) T.ops m).1 (u, h, w, p)),
  )

  last_iff : (c a i : ℕ) → i < nops T → In c (op T i).writes → LastWriter T c a i ↔ In a (last_in T c i)
  unfolding last_in
  last_iff c a i hi wi = (fwd, bwd)
    where
      test : Op → Bool
      test o = has o.writes c && ltb (end_of (op T i)) (end_of o)

      says : (o : Op) → Says (test o) (In c o.writes × (end_of (op T i) < end_of o))
      says o = says_and _ _ says_itself (says_ltb _ _)

      fwd : LastWriter T c a i → In a (without (op T i).modes (modes_of test T.ops))
      fwd x =
          (in_without a (op T i).modes (modes_of test T.ops)).1 (
            x.runs,
            λ e. let (u, h, t, p) = (in_modes test T.ops a).0 e in omega (arith, x.last u h p ((says (op T u)).0 t).0, ((says (op T u)).0 t).1),
          )

      bwd : In a (without (op T i).modes (modes_of test T.ops)) → LastWriter T c a i
      bwd x =
          record {
            is_op = hi;
            runs = ((in_without a (op T i).modes (modes_of test T.ops)).0 x).0;
            writes = wi;
            last = λ u h p w. go u h p w (dec_le (end_of (op T u)) (end_of (op T i)));
          }
        where
          go : (u : ℕ) → u < nops T → In a (op T u).modes → In c (op T u).writes → Dec (end_of (op T u) ≤ end_of (op T i)) → end_of (op T u) ≤ end_of (op T i)
          go u h p w (yes e) = e
          go u h p w (no e) =
              absurd
              (((in_without a (op T i).modes (modes_of test T.ops)).0 x).1
              ((in_modes test T.ops a).1 (u, h, (says (op T u)).1 (w, omega arith), p)))

  fresh_iff : (c b j : ℕ) → (In b (op T j).modes × QuietTo T c (op T j).start b) ↔ In b (fresh_in T c j)
  unfolding fresh_in
  fresh_iff c b j = (fwd, bwd)
    where
      test : Op → Bool
      test o = has o.writes c && leb (end_of o) (op T j).start

      says : (o : Op) → Says (test o) (In c o.writes × (end_of o ≤ (op T j).start))
      says o = says_and _ _ says_itself (says_leb _ _)

      fwd : In b (op T j).modes × QuietTo T c (op T j).start b → In b (without (op T j).modes (modes_of test T.ops))
      fwd x =
          (in_without b (op T j).modes (modes_of test T.ops)).1 (
            x.0,
            λ e. let (u, h, t, p) = (in_modes test T.ops b).0 e in x.1 u h p ((says (op T u)).0 t).0 ((says (op T u)).0 t).1,
          )

      bwd : In b (without (op T j).modes (modes_of test T.ops)) → In b (op T j).modes × QuietTo T c (op T j).start b
      bwd x = (
        ((in_without b (op T j).modes (modes_of test T.ops)).0 x).0,
        λ u h p w e. ((in_without b (op T j).modes (modes_of test T.ops)).0 x).1 ((in_modes test T.ops b).1 (u, h, (says (op T u)).1 (w, e), p)),
      )

  abbrev ValueBad : ℕ → ℕ → ℕ → ℕ → Type 0
  ValueBad n c i j =
      (suc n * q < T.len)
      × (In c (op T i).writes
      × (In c (op T j).reads
      × (((op T j).start + suc n * q < end_of (op T i)) × Way T (writers T c) (suc n) (last_in T c i) (fresh_in T c j))))

  says_value_bad : (n c i j : ℕ) → Says (value_bad T R q n c i j) (ValueBad n c i j)
  unfolding value_bad
  says_value_bad n c i j =
      says_and _ _ (says_ltb _ _)
      (says_and _ _ says_itself
      (says_and _ _ says_itself
      (says_and _ _ (says_ltb _ _) (says_way T R hR (writers T c) n (last_in T c i) (fresh_in T c j)))))

  abbrev NoValueBad : Type 0
  NoValueBad = (n : ℕ) → n < T.len → (c : ℕ) → c < T.cells → (i : ℕ) → i < nops T → (j : ℕ) → j < nops T → ValueBad n c i j → ⊥

  says_no_value_bad : Says (values_fine T R q) NoValueBad
  unfolding values_fine
  says_no_value_bad =
      says_all _ _ (λ n _. says_all _ _ (λ c _. says_all _ _ (λ i _. says_all _ _ (λ j _. says_not _ (says_value_bad n c i j)))))

  module _ (ok : Accepted T) where
    fine_near_values : NoValueBad → ValuesNear T q
    unfolding ValuesNear
    fine_near_values x zero h near c i j a b p = absurd (omega arith)
    fine_near_values x (suc n) h near c i j a b p = go (dec_lt ((op T j).start + suc n * q) (end_of (op T i)))
      where
        go : Dec ((op T j).start + suc n * q < end_of (op T i)) → end_of (op T i) ≤ (op T j).start + suc n * q
        go (no e) = omega arith
        go (yes e) =
            absurd
            (x n (below_length n q T.len low near) c
            (in_small c T.cells (op T i).writes (ok.each i p.writer.is_op).writes p.writer.writes)
            i p.writer.is_op j p.is_op (
              near,
              (
                p.writer.writes,
                (
                  p.reads,
                  (
                    e,
                    (
                      a,
                      b,
                      p.reach,
                      (last_iff c a i p.writer.is_op p.writer.writes).0 p.writer,
                      walk_map (λ m z. (quiet_iff c m).0 z) p.walk,
                      (fresh_iff c b j).0 (p.runs, p.quiet),
                    ),
                  ),
                ),
              ),
            ))

    near_fine_values : ValuesNear T q → NoValueBad
    unfolding ValuesNear
    near_fine_values x n h c hc i hi j hj (near, (wi, (rj, (late, (a, b, r, p, w, e))))) =
        omega (
          arith,
          late,
          x (suc n) (omega arith) near c i j a b
              (record {
                reach = r;
                writer = (last_iff c a i hi wi).1 p;
                walk = walk_map (λ m z. (quiet_iff c m).1 z) w;
                is_op = hj;
                reads = rj;
                runs = ((fresh_iff c b j).1 e).0;
                quiet = ((fresh_iff c b j).1 e).1;
              }),
        )

    says_values : Says (values_fine T R q) (ValuesNear T q)
    says_values = says_by says_no_value_bad fine_near_values near_fine_values

    free_let_go : NoLateBad → LetGo T R q
    free_let_go x i hi n j hj b e = go (dec_lt ((op T j).start + suc n * q) (held_to (op T i)))
      where
        go : Dec ((op T j).start + suc n * q < held_to (op T i)) → held_to (op T i) ≤ (op T j).start + suc n * q
        go (no l) = omega arith
        go (yes l) =
            let near : suc n * q < T.len = omega (arith, (ok.each i hi).fits) in
            absurd (x n (below_length n q T.len low near) i hi j hj (near, (b, (l, e))))

    let_go_free : LetGo T R q → NoLateBad
    let_go_free x n h i hi j hj (near, (b, (l, e))) = omega (arith, x i hi n j hj b e)

    -- whether the boards are let go in time at every distance
    pub says_boards_clear : Says (boards_free T R q) (BoardsClear T q)
    says_boards_clear =
        says_by says_no_late_bad (λ x. clear_let_go.1 (free_let_go x)) (λ x. let_go_free (clear_let_go.0 x))

    -- the tests, at any set that holds just the reachable modes, say whether boards and values are right at q
    pub says_boards_right : Says (boards_fine T R q) (BoardsRightAt T (spaced q))
    says_boards_right = says_by says_boards (boards_iff T ok q).1 (boards_iff T ok q).0

    pub says_values_right : Says (values_fine T R q) (ValuesRightAt T (spaced q))
    says_values_right = says_by says_values (values_iff T ok q).1 (values_iff T ok q).0

    pub says_right_at : Says (boards_fine T R q && values_fine T R q) (Right T q)
    says_right_at =
        says_by (says_and _ _ says_boards_right says_values_right)
        (λ x. record { boards = x.0; values = x.1 })
        (λ x. (x.boards, x.values))
