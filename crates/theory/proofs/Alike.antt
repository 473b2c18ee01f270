-- Two tables that are alike: what is right for one is right for the other, whatever the dates at which the cycles start, and they have one period. By
-- the theorem that demand 3 is proved by, used both ways.
-- Assumes nothing.
use Prim.Native.Nat.{ℕ, ◌<◌}
use mathlib.Core.Path.{sym, ap, subst, subst⁻¹, ◌∙◌}
use mathlib.Core.Logic.{◌↔◌, inl, inr}
use native.Mathlib.Decide.{dec_lt}
use native.Mathlib.Omega.{arith}
use Rattle.rules.specs.Sets.{In, Share}
use Rattle.rules.specs.Table.{Table, nops, op, followers, Turn, Clash, Contest, Race, Always, DecidedBy, Accepted}
use Rattle.rules.specs.Runs.{BoardsRightAt, ValuesRightAt, RightAt, IsPeriod, spaced}
use Rattle.rules.specs.Gaps.{IsGap}
use Rattle.theory.specs.Carry.{Carry}
use Rattle.theory.specs.Renamed.{OpAlike, Alike}
use Rattle.theory.proofs.Sets.{in_none, in_small}
use Rattle.theory.proofs.Exists.{no_followers, followers_lt}
use Rattle.theory.proofs.Carry.{carry_boards, carry_values, carry_right}

-- ---- the other way round

module _ (S T : Table) (s t f g : ℕ → ℕ) (c : Alike S T s t f g) where
  -- an operation of T and the one that it comes from
  op_back : (u : ℕ) → u < nops T → OpAlike T.modes g (op T u) (op S (t u))
  op_back u h =
      let p = subst (λ (k : ℕ). OpAlike S.modes f (op S (t u)) (op T k)) (c.onto u h) (c.each (t u) (c.back u h)) in
      record {
        start = sym p.start;
        dur = sym p.dur;
        hold = sym p.hold;
        reads = sym p.reads;
        writes = sym p.writes;
        modes = λ b l.
            let (to, from) = subst (λ (k : ℕ). In (g b) (op S (t u)).modes ↔ In k (op T u).modes) (c.mode_onto b l) (p.modes (g b) (c.mode_back b l)) in
            (from, to);
      }

  boards_back : (u v : ℕ) → u < nops T → v < nops T → Share (op T u).boards (op T v).boards ↔ Share (op S (t u)).boards (op S (t v)).boards
  boards_back u v a b =
      let (to, from) =
      subst (λ (k : ℕ). Share (op S (t u)).boards (op S (t v)).boards ↔ Share (op T k).boards (op T v).boards) (c.onto u a)
      (subst (λ (k : ℕ). Share (op S (t u)).boards (op S (t v)).boards ↔ Share (op T (s (t u))).boards (op T k).boards) (c.onto v b)
      (c.boards (t u) (t v) (c.back u a) (c.back v b)))
      in
      (from, to)

  first_back : (b : ℕ) → b < T.modes → In b T.first ↔ In (g b) S.first
  first_back b l =
      let (to, from) = subst (λ (k : ℕ). In (g b) S.first ↔ In k T.first) (c.mode_onto b l) (c.first (g b) (c.mode_back b l)) in
      (from, to)

  turns_back : (a b : ℕ) → a < T.modes → b < T.modes → Turn T a b ↔ Turn S (g a) (g b)
  turns_back a b x y =
      let (to, from) =
      subst (λ (k : ℕ). Turn S (g a) (g b) ↔ Turn T k b) (c.mode_onto a x)
      (subst (λ (k : ℕ). Turn S (g a) (g b) ↔ Turn T (f (g a)) k) (c.mode_onto b y)
      (c.turns (g a) (g b) (c.mode_back a x) (c.mode_back b y)))
      in
      (from, to)

  pub turned : Alike T S t s g f
  turned =
      record {
        len = sym c.len;
        there = c.back;
        back = c.there;
        over = c.onto;
        onto = c.over;
        each = op_back;
        boards = boards_back;
        mode_there = c.mode_back;
        mode_back = c.mode_there;
        mode_over = c.mode_onto;
        mode_onto = c.mode_over;
        first = first_back;
        turns = turns_back;
      }

-- ---- what is asked of the operations of an accepted table

module _ (S T : Table) (s t f g : ℕ → ℕ) (c : Alike S T s t f g) where
  module _ (i j : ℕ) (hi : i < nops S) (hj : j < nops S) (small : (m : ℕ) → In m (op S i).modes → m < S.modes) where
    share_mode : Share (op S i).modes (op S j).modes → Share (op T (s i)).modes (op T (s j)).modes
    share_mode (m, x, y) = (f m, ((c.each i hi).modes m (small m x)).0 x, ((c.each j hj).modes m (small m x)).0 y)

    pub clash_alike : Clash (op S i) (op S j) → Clash (op T (s i)) (op T (s j))
    clash_alike x =
        let p = c.each i hi in
        let q = c.each j hj in
        record {
          board = (c.boards i j hi hj).0 x.board;
          mode = share_mode x.mode;
          lap = omega (arith, x.lap, p.start, p.dur, p.hold, q.start, q.dur, q.hold);
        }

    -- who writes a cell that the other reads or writes does so in the other
    contest_alike : (z : ℕ) → Contest (op S i) (op S j) z → Contest (op T (s i)) (op T (s j)) z
    contest_alike z (inl (w, inl v)) = inl (rw (c.each i hi).writes at w, inl (rw (c.each j hj).reads at v))
    contest_alike z (inl (w, inr v)) = inl (rw (c.each i hi).writes at w, inr (rw (c.each j hj).writes at v))
    contest_alike z (inr (v, w)) = inr (rw (c.each i hi).reads at v, rw (c.each j hj).writes at w)

    pub race_alike : Race (op S i) (op S j) → Race (op T (s i)) (op T (s j))
    race_alike x =
        let p = c.each i hi in
        let q = c.each j hj in
        record {
          mode = share_mode x.mode;
          lap = omega (arith, x.lap, p.start, p.dur, q.start, q.dur);
          cell = (x.cell.0, contest_alike x.cell.0 x.cell.1);
        }

  -- an operation that runs in every mode does so in the other
  always_alike : (i : ℕ) → i < nops S → Always S (op S i) → Always T (op T (s i))
  always_alike i h all m l =
      subst (λ (k : ℕ). In k (op T (s i)).modes) (c.mode_onto m l) (((c.each i h).modes (g m) (c.mode_back m l)).0 (all (g m) (c.mode_back m l)))

  -- "the decider's number following its operation": what waits for it waits in the other
  pub decided_alike : (d : ℕ) → DecidedBy S d → DecidedBy T (s d)
  decided_alike d x =
      record {
        is_op = c.there d x.is_op;
        always = always_alike d x.is_op x.always;
        later = λ u h n.
            let i = t u in
            let p = c.each d x.is_op in
            let q = c.each i (c.back u h) in
            let is = c.onto u h in
            let waits = x.later i (c.back u h) (λ all. n (subst (λ (k : ℕ). Always T (op T k)) is (always_alike i (c.back u h) all))) in
            omega (arith, waits, p.start, p.dur, q.start, ap (λ (k : ℕ). (op T k).start) is);
      }

-- ---- carried

-- a turn of an accepted table is between two of its modes
pub turn_modes : (S : Table) → Accepted S → (a b : ℕ) → Turn S a b → (a < S.modes) × (b < S.modes)
turn_modes S ok a b x = (go (dec_lt a S.modes), in_small b S.modes (followers S a) (followers_lt S ok a) x)
  where
    go : Dec (a < S.modes) → a < S.modes
    go (yes h) = h
    go (no h) = absurd (in_none b (subst (λ (y : ℕ). In b y) (no_followers S ok a (omega arith)) x))

module _ (S T : Table) (s t f g : ℕ → ℕ) (okS : Accepted S) (c : Alike S T s t f g) where
  pub alike_carry : Carry S T s t f
  alike_carry =
      record {
        len = c.len;
        there = c.there;
        back = c.back;
        onto = c.onto;
        apart = λ i j a b e. sym (c.over i a) ∙ ap t e ∙ c.over j b;
        each = λ i h.
            let p = c.each i h in
            record {
              start = p.start;
              held = omega (arith, p.start, p.dur, p.hold);
              dur = omega (arith, p.dur);
              reads = λ z x. subst (λ (y : ℕ). In z y) p.reads x;
              writes = λ z. (λ x. subst (λ (y : ℕ). In z y) p.writes x, λ x. subst⁻¹ (λ (y : ℕ). In z y) p.writes x);
              modes = p.modes;
            };
        boards = λ i j a b. (c.boards i j a b).0;
        first = λ a x. (c.first a (in_small a S.modes S.first okS.firsts.small x)).0 x;
        turns = λ a b x. let (la, lb) = turn_modes S okS a b x in (c.turns a b la lb).0 x;
      }

-- there and back
module _ (S T : Table) (s t f g : ℕ → ℕ) (okS : Accepted S) (okT : Accepted T) (c : Alike S T s t f g) where
  there : Carry S T s t f
  there = alike_carry S T s t f g okS c

  back : Carry T S t s g
  back = alike_carry T S t s g f okT (turned S T s t f g c)

  pub alike_boards : (d : ℕ → ℕ) → BoardsRightAt S d ↔ BoardsRightAt T d
  alike_boards d = (carry_boards T S t s g back okT d, carry_boards S T s t f there okS d)

  pub alike_values : (d : ℕ → ℕ) → ValuesRightAt S d ↔ ValuesRightAt T d
  alike_values d = (carry_values T S t s g back okT okS d, carry_values S T s t f there okS okT d)

  pub alike_right : (d : ℕ → ℕ) → RightAt S d ↔ RightAt T d
  alike_right d = (carry_right T S t s g back okT okS d, carry_right S T s t f there okS okT d)

  pub alike_period : (q : ℕ) → IsPeriod S q → IsPeriod T q
  alike_period q x =
      record {
        low = x.low;
        high = omega (arith, x.high, c.len);
        right = (alike_right (spaced q)).0 x.right;
        least = λ p low less right. x.least p low less ((alike_right (spaced p)).1 right);
      }

  pub alike_gap : (g : ℕ) → IsGap S g → IsGap T g
  alike_gap g x =
      record {
        low = x.low;
        high = omega (arith, x.high, c.len);
        serves = λ d a. (alike_right d).0 (x.serves d a);
        least = λ h low less y. x.least h low less (λ d a. (alike_right d).1 (y d a));
      }
