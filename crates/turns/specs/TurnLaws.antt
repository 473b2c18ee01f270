-- What the successor sets mean: bit b of the set of mode m in row n is there exactly when b follows m by exactly n turns.
-- Assumes nothing.
use Prim.Native.Nat.{ℕ, zero, suc, ◌+◌, ◌-◌, ◌^◌, ◌<◌, ◌≤◌}
use Rattle.std.specs.Prelude.{◌≡◌, ◌↔◌, List, [], ◌∷◌, ◌++◌, length, get_or}
use Rattle.std.proofs.Math.Path.{refl}
use Rattle.std.proofs.Common.{sym, ap, subst, ◌∙◌, inl, arith, ext_get_or}
use Rattle.std.proofs.Math.Decide.{dec_lt}
use Rattle.std.specs.Int.Bits.{bit_or, and_zero_r, xor_zero_r}
use Rattle.std.proofs.Math.ListN.{length-append, get_or-append, get_or-eq_default}
use Rattle.std.proofs.lemmas.List.{get_or_at}
use Rattle.rules.specs.Sets.{In, Within}
use Rattle.rules.specs.Table as rules
use Rattle.theory.specs.Tests.{without, step, via}
use Rattle.theory.specs.Walks.{Reach, begin, turn, IsReach, Walk, Any}
use Rattle.theory.proofs.Order.{Cmp, cmp}
use Rattle.theory.proofs.Sets.{in_none, in_or, same_members, in_single}
use Rattle.theory.proofs.Modes.{in_step, in_via, walk_map, grown}
use Rattle.theory.proofs.Exists.{shut_reach}
use Rattle.sets.specs.Laws.{step_pad}
use Rattle.table.specs.Tables.{table_of, padded, Good}
use Rattle.table.specs.declared.Table.{Table}
use Rattle.turns.specs.Turns.{tab, next_row, SameRow, row_after, block_from, TurnsBy, TurnsOf}

-- ---- lists of a function's values
module _ {A : Type 0} (f : ℕ → A) where
  pub tab_suc : (n : ℕ) → tab f (suc n) ≡ tab f n ++ (f n ∷ [])
  unfolding tab
  tab_suc n = refl

  length_tab : (n : ℕ) → length (tab f n) ≡ n
  unfolding tab
  length_tab zero = refl
  length_tab (suc n) = length-append (tab f n) (f n ∷ []) ∙ omega (arith, length_tab n)

  tab_more : (n i : ℕ) (d : A) → i < suc n → (i < n → get_or (tab f n) i d ≡ f i) → get_or (tab f n ++ (f n ∷ [])) i d ≡ f i
  tab_more n i d h g = go (cmp i n)
    where
      go : Cmp i n → get_or (tab f n ++ (f n ∷ [])) i d ≡ f i
      go (Cmp.less l) = get_or-append (tab f n) (f n ∷ []) d i (omega (arith, length_tab n)) ∙ g l
      go (Cmp.same e) = get_or_at (tab f n) (f n) [] d i (length_tab n ∙ sym e) ∙ ap f (sym e)
      go (Cmp.more l) = absurd (omega arith)

  get_or_tab : (n i : ℕ) (d : A) → i < n → get_or (tab f n) i d ≡ f i
  unfolding tab
  get_or_tab zero i d h = absurd (omega arith)
  get_or_tab (suc n) i d h = tab_more n i d h (get_or_tab n i d)

-- ---- the followers of the code's array are those of the table
good_step : (t : Table) → Good t → (s : ℕ) → step t.follow s ≡ step (table_of t).follow s
unfolding padded
good_step t good s =
    ap (λ (u : Table). step u.follow s) good.tidy ∙ step_pad (table_of t).follow (32 - length (table_of t).follow) s

-- so turns by way of some modes are the same too
pub good_via : (t : Table) → Good t → TurnsOf (table_of t) t.follow
unfolding via
good_via t good w zero s = good_step t good s
good_via t good w (suc n) s =
    good_via t good w n (without (step t.follow s) w)
    ∙ ap (λ (r : ℕ). via (table_of t).follow w n (without r w)) (good_step t good s)

pub row_next : (F row : List ℕ) (n : ℕ) → next_row F (row_after F row n) ≡ row_after F row (suc n)
unfolding row_after
row_next F row n = refl

-- a list of the next sixteen rows is their block
pub rows_block : (F row : List ℕ) {rows : List (List ℕ)} → rows ≡ tab (λ n. row_after F row (suc n)) 16 → rows ≡ block_from F row
unfolding block_from
rows_block F row e = e

-- the row that stands in a block
block_row : (F row : List ℕ) (n : ℕ) → n < 16 → get_or (block_from F row) n [] ≡ row_after F row (suc n)
unfolding block_from
block_row F row n h = get_or_tab (λ k. row_after F row (suc k)) 16 n [] h

-- ---- turns through any mode

without_none : (s : ℕ) → without s 0 ≡ s
unfolding without
without_none s = rw (and_zero_r, xor_zero_r)

-- a turn by F and then one by the row is one by the next row
step_through : (F row : List ℕ) (s : ℕ) → length F ≤ 32 → step (next_row F row) s ≡ step row (step F s)
unfolding next_row
step_through F row s few =
    same_members _ _
    (λ b. (
      λ h. let (a, x, y) = (in_step (next_row F row) s b).0 h in fwd a b x y (dec_lt a 32),
      λ h.
          let (c, x, y) = (in_step row (step F s) b).0 h in
          let (a, z, w) = (in_step F s c).0 x in
          (in_step (next_row F row) s b).1 (a, z, bwd a b c w y (dec_lt a 32)),
    ))
  where
    fwd : (a b : ℕ) → In a s → In b (get_or (next_row F row) a 0) → Dec (a < 32) → In b (step row (step F s))
    fwd a b x y (yes h) =
        let (c, z, w) = (in_step row (get_or F a 0) b).0 (rw (get_or_tab (λ m. step row (get_or F m 0)) 32 a 0 h) at y) in
        (in_step row (step F s) b).1 (c, (in_step F s c).1 (a, x, z), w)
    fwd a b x y (no h) =
        absurd
        (in_none b
        (rw (get_or-eq_default (next_row F row) 0 {n = a} (omega (arith, length_tab (λ m. step row (get_or F m 0)) 32))) at y))

    bwd : (a b c : ℕ) → In c (get_or F a 0) → In b (get_or row c 0) → Dec (a < 32) → In b (get_or (next_row F row) a 0)
    bwd a b c w y (yes h) = rw (get_or_tab (λ m. step row (get_or F m 0)) 32 a 0 h) ((in_step row (get_or F a 0) b).1 (c, w, y))
    bwd a b c w y (no h) = absurd (in_none c (rw (get_or-eq_default F 0 {n = a} (omega arith)) at w))

-- ---- what the rows mean

pub turns_first : (F : List ℕ) → TurnsBy F 0 F
unfolding via
turns_first F = record { exact = λ s. refl }

turns_more : (F row : List ℕ) (n : ℕ) → length F ≤ 32 → TurnsBy F n row → TurnsBy F (suc n) (next_row F row)
unfolding via
turns_more F row n few by =
    record { exact = λ s. step_through F row s few ∙ by.exact (step F s) ∙ ap (via F 0 n) (sym (without_none (step F s))) }

turns_after : (F row : List ℕ) (d n : ℕ) → length F ≤ 32 → TurnsBy F d row → TurnsBy F (d + n) (row_after F row n)
unfolding row_after
turns_after F row d zero few by = let e : d ≡ d + 0 = omega arith in subst (λ (k : ℕ). TurnsBy F k row) e by
turns_after F row d (suc n) few by =
    let e : suc (d + n) ≡ d + suc n = omega arith in
    subst (λ (k : ℕ). TurnsBy F k (row_after F row (suc n))) e (turns_more F (row_after F row n) (d + n) few (turns_after F row d n few by))

-- the rows of a block behind a row
pub block_turns : (F row : List ℕ) (done : ℕ) → 1 ≤ done → length F ≤ 32 → TurnsBy F (done - 1) row
    → (k : ℕ) → k < 16 → TurnsBy F (done + k) (get_or (block_from F row) k [])
block_turns F row done low few by k h =
    let e : done - 1 + suc k ≡ done + k = omega arith in
    rw (block_row F row k h) (subst (λ (n : ℕ). TurnsBy F n (row_after F row (suc k))) e (turns_after F row (done - 1) (suc k) few by))

-- bit b of entry m of such a row, exactly when b follows m by exactly n + 1 turns
pub row_turns : (T : rules.Table) (n : ℕ) (row : List ℕ) → TurnsBy T.follow n row → (m b : ℕ) → In b (get_or row m 0) ↔ Walk T Any (suc n) m b
row_turns T n row by m b = (
  λ x.
      let here = (in_step row (2 ^ m) b).1 (m, (in_single m m).1 refl, x) in
      let (a, y, w) = (in_via T 0 n (2 ^ m) b).0 (rw (by.exact (2 ^ m)) at here) in
      subst (λ (k : ℕ). Walk T Any (suc n) k b) ((in_single a m).0 y) (walk_map (λ k _. tt) w),
  λ w.
      let there = (in_via T 0 n (2 ^ m) b).1 (m, (in_single m m).1 refl, walk_map (λ k _ e. in_none k e) w) in
      let (a, y, z) = (in_step row (2 ^ m) b).0 (rw (by.exact (2 ^ m)) there) in
      subst (λ (k : ℕ). In b (get_or row k 0)) ((in_single a m).0 y) z,
)

-- ---- what a run can reach, by first modes and followers alone
abbrev turning : ℕ → List ℕ → rules.Table
turning first F = record { len = 0; boards = 0; cells = 0; modes = 0; first = first; follow = F; ops = []; decider = rules.nobody }

reach_of : (T : rules.Table) (F : List ℕ) → TurnsOf T F → {a : ℕ} → Reach (turning T.first F) a → Reach T a
unfolding via
reach_of T F turns (begin h) = begin h
reach_of T F turns (turn {a = a} {b = b} x h) =
    let here : In b (step F (2 ^ a)) = (in_step F (2 ^ a) b).1 (a, (in_single a a).1 refl, h) in
    let (c, y, z) = (in_step T.follow (2 ^ a) b).0 (rw (turns 0 0 (2 ^ a)) at here) in
    turn (reach_of T F turns x) (subst (λ (k : ℕ). In b (get_or T.follow k 0)) ((in_single c a).0 y) z)

-- what the loop keeps: the first modes are in it, and each of it can be reached
pub record Growing (first : ℕ) (F : List ℕ) (all : ℕ) : Type 0 where
  pub starts : Within first all
  pub sound : (m : ℕ) → In m all → Reach (turning first F) m

pub growing_first : (first : ℕ) (F : List ℕ) → Growing first F first
growing_first first F = record { starts = λ m h. h; sound = λ m h. begin h }

pub growing_more : (first : ℕ) (F : List ℕ) (all : ℕ) → Growing first F all → Growing first F (bit_or all (step F all))
growing_more first F all g =
    record {
      starts = λ m h. (in_or m all (step F all)).1 (inl (g.starts m h));
      sound = grown (turning first F) all g.sound;
    }

-- when nothing is new, it is all that a run can reach
pub growing_end : (T : rules.Table) → rules.Accepted T → (F : List ℕ) → TurnsOf T F → (all : ℕ) → Growing T.first F all
    → bit_or all (step F all) ≡ all → IsReach T all
unfolding via
growing_end T ok F turns all g e =
    shut_reach T ok all g.starts (λ m h. reach_of T F turns (g.sound m h)) (rw (turns 0 0 all) at e)

-- ---- rows that agree
pub length_row : (F row : List ℕ) → length (next_row F row) ≡ 32
unfolding next_row
length_row F row = length_tab (λ m. step row (get_or F m 0)) 32

pub length_block : (F row : List ℕ) (k : ℕ) → k < 16 → length (get_or (block_from F row) k []) ≡ 32
unfolding row_after
length_block F row k h = rw (block_row F row k h) (length_row F (row_after F row k))

-- a row that is its next row stays
pub still_on : (F last next : List ℕ) → next ≡ next_row F last → next ≡ last → next_row F next ≡ next
still_on F last next e same = ap (next_row F) same ∙ sym e

-- so does one that agrees with it in every mode
pub still_row : (F last next : List ℕ) → length last ≡ 32 → next ≡ next_row F last → SameRow next last 32 → next_row F next ≡ next
still_row F last next long e same =
    let long' : length next ≡ 32 = rw e (length_row F last) in
    let is : next ≡ last = ext_get_or 0 next last (omega arith) (λ m h. same m (omega arith)) in
    still_on F last next e is
