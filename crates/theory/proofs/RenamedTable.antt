-- Document 02, No. 12: three maps that are one to one, and a count of boards, give a table that is renamed by them, and only one. With maps that change
-- nothing a set stays what it is.
-- Assumes nothing.
use Prim.Native.Nat.{ℕ, zero, suc, ◌^◌, ◌<◌, ◌≤◌}
use mathlib.Core.Path.{◌≡◌, refl, sym, ap, subst, subst⁻¹, ◌∙◌}
use mathlib.Core.Bool.{cond}
use mathlib.Core.List.{List}
use mathlib.Core.Logic.{◌↔◌, ◌⊎◌, inl, inr}
use native.Mathlib.Decide.{ℕ_discrete}
use native.Mathlib.Omega.{arith}
use lib.ListN.{length, get_or, set, length-set}
use lib.Seq.{get_or-set_same, get_or-set_other, ext_get_or}
use Rattle.rules.specs.Sets.{has, In}
use Rattle.rules.specs.Table.{Op, Table, nops, no_op, op, followers, Accepted}
use Rattle.rules.specs.Renamed.{Names, OneToOne, Below, RenamedSet, InUse, OpRenamed, following, Renamed, in_order}
use Rattle.rules.specs.Judge.{with_ops, with_decider}
use Rattle.theory.specs.Renamed.{image, spread, renamed_op, renamed_table}
use Rattle.theory.proofs.Sets.{in_or, in_none, in_single, in_small, same_members}
use Rattle.theory.proofs.Modes.{in_cond}
use Rattle.theory.proofs.Renamed.{place_back, mode_back_of, from_place, from_mode}

-- ---- the set of the new names

Named : (ℕ → ℕ) → ℕ → ℕ → ℕ → Type 0
Named f n s b = (a : ℕ) × (a < n) × In a s × (f a ≡ b)

in_image : (f : ℕ → ℕ) (n s b : ℕ) → In b (image f n s) ↔ Named f n s b
unfolding image Named
in_image f zero s b = (λ x. absurd (in_none b x), λ x. absurd (omega (arith, x.1)))
in_image f (suc n) s b = (λ x. fwd ((in_or b (cond (has s n) (2 ^ f n) 0) (image f n s)).0 x) (in_image f n s b).0, λ x. bwd x (ℕ_discrete x.0 n) (in_image f n s b).1)
  where
    fwd : In b (cond (has s n) (2 ^ f n) 0) ⊎ In b (image f n s) → (In b (image f n s) → Named f n s b) → Named f (suc n) s b
    fwd (inl x) rest = let (is, here) = (in_cond (has s n) (2 ^ f n) b).0 x in (n, omega arith, is, sym ((in_single b (f n)).0 here))
    fwd (inr x) rest = let (a, less, is, to) = rest x in (a, omega arith, is, to)

    bwd : (x : Named f (suc n) s b) → Dec (x.0 ≡ n) → (Named f n s b → In b (image f n s)) → In b (image f (suc n) s)
    bwd (a, less, is, to) (yes e) rest =
        (in_or b (cond (has s n) (2 ^ f n) 0) (image f n s)).1
        (inl ((in_cond (has s n) (2 ^ f n) b).1 (subst (λ (k : ℕ). In k s) e is, (in_single b (f n)).1 (sym to ∙ ap f e))))
    bwd (a, less, is, to) (no e) rest = (in_or b (cond (has s n) (2 ^ f n) 0) (image f n s)).1 (inr (rest (a, omega arith, is, to)))

-- of a set that names nothing beyond n
image_renamed : (f : ℕ → ℕ) (n s : ℕ) → s < 2 ^ n → RenamedSet f s (image f n s)
unfolding Named
image_renamed f n s small b = (
  λ x. let (a, less, is, to) = (in_image f n s b).0 x in (a, is, to),
  λ (a, is, to). (in_image f n s b).1 (a, in_small a n s small is, is, to),
)

-- ---- lists, each at its place

module _ {A : Type 0} (f : ℕ → ℕ) (g : ℕ → A) (xs : List A) (d : A) where
  spread_length : (n : ℕ) → length (spread f g n xs) ≡ length xs
  unfolding spread
  spread_length zero = refl
  spread_length (suc n) = length-set (spread f g n xs) (f n) (g n) ∙ spread_length n

  spread_at : (n : ℕ) → OneToOne (Below n) (Below (length xs)) f → (i : ℕ) → i < n → get_or (spread f g n xs) (f i) d ≡ g i
  unfolding spread
  spread_at zero one i h = absurd (omega arith)
  spread_at (suc n) one i h =
      go (ℕ_discrete i n)
      (spread_at n (record { there = λ a x. one.there a (omega arith); apart = λ a b x y. one.apart a b (omega arith) (omega arith) }) i)
    where
      go : Dec (i ≡ n) → (i < n → get_or (spread f g n xs) (f i) d ≡ g i) → get_or (spread f g (suc n) xs) (f i) d ≡ g i
      go (yes e) rest =
          ap (λ (k : ℕ). get_or (set (spread f g n xs) (f n) (g n)) (f k) d) e
          ∙ get_or-set_same (spread f g n xs) (f n) (g n) d (omega (arith, spread_length n, one.there n (omega arith)))
          ∙ ap g (sym e)
      go (no e) rest =
          get_or-set_other (spread f g n xs) (f n) (f i) (g n) d (λ same. e (one.apart i n h (omega arith) same)) ∙ rest (omega arith)

-- ---- there is one

module _ (by : Names) (n : ℕ) (S : Table) (ok : Accepted S) (places : OneToOne (Below (nops S)) (Below (nops S)) by.place)
    (boards : OneToOne (InUse S) (Below n) by.board) (high : n ≤ 16) (modes : OneToOne (Below S.modes) (Below S.modes) by.mode)
  where
    op_renamed : (i : ℕ) → i < nops S → OpRenamed by (op S i) (renamed_op by S (op S i))
    op_renamed i h =
        record {
          start = refl;
          dur = refl;
          hold = refl;
          boards = image_renamed by.board S.boards (op S i).boards (ok.each i h).boards.small;
          reads = refl;
          writes = refl;
          modes = image_renamed by.mode S.modes (op S i).modes (ok.each i h).modes.small;
        }

    pub renamed_exists : Renamed by S (renamed_table by n S)
    unfolding renamed_table
    renamed_exists =
        let count = spread_length by.place (λ i. renamed_op by S (op S i)) S.ops no_op (nops S) in
        record {
          len = refl;
          cells = refl;
          count = count;
          places = subst⁻¹ (λ (k : ℕ). OneToOne (Below (nops S)) (Below k) by.place) count places;
          each = λ i h.
              subst⁻¹ (λ (o : Op). OpRenamed by (op S i) o)
              (spread_at by.place (λ i. renamed_op by S (op S i)) S.ops no_op (nops S) places i h) (op_renamed i h);
          boards = boards;
          boards_high = high;
          modes = refl;
          words = spread_length by.mode (λ a. image by.mode S.modes (followers S a)) S.follow 0 S.modes;
          numbers = modes;
          firsts = image_renamed by.mode S.modes S.first ok.firsts.small;
          turns = λ a h.
              subst⁻¹ (λ (t : ℕ). RenamedSet by.mode (followers S a) t)
              (spread_at by.mode (λ a. image by.mode S.modes (followers S a)) S.follow 0 S.modes
              (subst⁻¹ (λ (k : ℕ). OneToOne (Below S.modes) (Below k) by.mode) ok.words modes) a h)
              (image_renamed by.mode S.modes (followers S a) (ok.follows a h).small);
          decider = refl;
        }

-- ---- and only one

set_unique : (f : ℕ → ℕ) (s t u : ℕ) → RenamedSet f s t → RenamedSet f s u → t ≡ u
set_unique f s t u x y = same_members t u (λ b. (λ h. (y b).1 ((x b).0 h), λ h. (x b).1 ((y b).0 h)))

op_unique : (by : Names) (o t u : Op) → OpRenamed by o t → OpRenamed by o u → t ≡ u
op_unique by o t u x y =
    let boards = set_unique by.board o.boards t.boards u.boards x.boards y.boards in
    let modes = set_unique by.mode o.modes t.modes u.modes x.modes y.modes in
    let start : t.start ≡ u.start = omega (arith, x.start, y.start) in
    let dur : t.dur ≡ u.dur = omega (arith, x.dur, y.dur) in
    let hold : t.hold ≡ u.hold = omega (arith, x.hold, y.hold) in
    let reads : t.reads ≡ u.reads = omega (arith, x.reads, y.reads) in
    let writes : t.writes ≡ u.writes = omega (arith, x.writes, y.writes) in
    λ k. record { start = start k; dur = dur k; hold = hold k; boards = boards k; reads = reads k; writes = writes k; modes = modes k }

module _ (by : Names) (S T U : Table) (ok : Accepted S) (x : Renamed by S T) (y : Renamed by S U) (count : T.boards ≡ U.boards) where
  same_ops : T.ops ≡ U.ops
  same_ops =
      ext_get_or no_op T.ops U.ops (x.count ∙ sym y.count)
      (λ u h.
      let (less, is) = from_place by S T ok x u h in
      let i = place_back by S T ok x u in
      subst (λ (k : ℕ). op T k ≡ op U k) is (op_unique by (op S i) (op T (by.place i)) (op U (by.place i)) (x.each i less) (y.each i less)))

  same_follow : T.follow ≡ U.follow
  same_follow =
      ext_get_or 0 T.follow U.follow (x.words ∙ sym y.words)
      (λ b h.
      let (less, is) = from_mode by S T ok x b (omega (arith, h, x.words, ok.words, x.modes)) in
      let a = mode_back_of by S T ok x b in
      subst (λ (k : ℕ). followers T k ≡ followers U k) is
      (set_unique by.mode (followers S a) (followers T (by.mode a)) (followers U (by.mode a)) (x.turns a less) (y.turns a less)))

  pub renamed_unique : T ≡ U
  renamed_unique =
      let len : T.len ≡ U.len = omega (arith, x.len, y.len) in
      let cells : T.cells ≡ U.cells = omega (arith, x.cells, y.cells) in
      let modes : T.modes ≡ U.modes = omega (arith, x.modes, y.modes) in
      let first = set_unique by.mode S.first T.first U.first x.firsts y.firsts in
      let follow = same_follow in
      let ops = same_ops in
      let decider = x.decider ∙ sym y.decider in
      λ k.
      record {
        len = len k;
        boards = count k;
        cells = cells k;
        modes = modes k;
        first = first k;
        follow = follow k;
        ops = ops k;
        decider = decider k;
      }

-- ---- each of the three by itself, as it is met

-- a map that changes nothing leaves a set as it is
pub same_set : (s t : ℕ) → RenamedSet (λ a. a) s t ↔ t ≡ s
same_set s t = (λ x. set_unique (λ a. a) s t s x itself, λ e. subst⁻¹ (λ (u : ℕ). RenamedSet (λ a. a) s u) e itself)
  where
    itself : RenamedSet (λ a. a) s s
    itself b = (λ h. (b, h, refl), λ (a, h, e). subst (λ (k : ℕ). In k s) e h)

-- the same operations, listed in another order, the decider's number following its operation
module _ (f : ℕ → ℕ) (S : Table) (ok : Accepted S) (os : List Op) where
  pub listed_renamed : OneToOne (Below (nops S)) (Below (nops S)) f → length os ≡ nops S → ((i : ℕ) → i < nops S → get_or os (f i) no_op ≡ op S i)
      → Renamed (in_order f) S (with_decider (with_ops S os) (following f S.decider))
  listed_renamed one count each =
      record {
        len = refl;
        cells = refl;
        count = count;
        places = subst⁻¹ (λ (k : ℕ). OneToOne (Below (nops S)) (Below k) f) count one;
        each = λ i h. subst⁻¹ (λ (o : Op). OpRenamed (in_order f) (op S i) o) (each i h) (itself (op S i));
        boards =
            record {
              there = λ b (i, is_op, x). in_small b S.boards (op S i).boards (ok.each i is_op).boards.small x;
              apart = λ a b x y e. e;
            };
        boards_high = ok.boards_high;
        modes = refl;
        words = refl;
        numbers = record { there = λ a h. h; apart = λ a b x y e. e };
        firsts = (same_set S.first S.first).1 refl;
        turns = λ a h. (same_set (followers S a) (followers S a)).1 refl;
        decider = refl;
      }
    where
      itself : (o : Op) → OpRenamed (in_order f) o o
      itself o =
          record {
            start = refl;
            dur = refl;
            hold = refl;
            boards = (same_set o.boards o.boards).1 refl;
            reads = refl;
            writes = refl;
            modes = (same_set o.modes o.modes).1 refl;
          }
