-- What is left with s writes since the use shows a stretch of differences: from s + 1 up to s and the number of the writes that start while it is
-- left.
-- Assumes nothing.
use Prim.Native.Nat.{ℕ, suc, ◌+◌, ◌-◌, ◌*◌, ◌<◌, ◌≤◌}
use mathlib.Core.Path.{◌≡◌, refl, sym, ap, subst}
use mathlib.Core.Bool.{◌&&◌}
use mathlib.Core.List.{[], ◌∷◌}
use mathlib.Core.Logic.{◌↔◌}
use native.Mathlib.Omega.{arith}
use native.Mathlib.Decide.{dec_lt}
use lib.Dec.{leb, ltb}
use Rattle.rules.specs.Sets.{In}
use Rattle.rules.specs.Table.{Table, nops, op, end_of, Accepted}
use Rattle.rules.specs.Runs.{Runs, plain_end}
use Rattle.theory.proofs.Order.{Cmp, cmp}
use Rattle.theory.proofs.Says.{Says, Known, holds, fails, known, says_and, says_leb, says_ltb}
use Rattle.theory.proofs.Sources.{writes_in_order}
use Rattle.rules.specs.Places.{sum, one, writer, writes_by}
use Rattle.lives.specs.Near.{Differ, ended_in, WriteIn}
use Rattle.lives.specs.Left.{Left, started_in}
use Rattle.lives.proofs.Sums.{sum_le, sum_lt, sum_some, one_true, one_false, one_mono, one_some}
use Rattle.lives.proofs.Counts.{says_writer, number_write}
use Rattle.lives.proofs.Cycles.{ended_in_is, ended_self, ended_split}
use Rattle.lives.proofs.Left.{differ_left}

module _ (T : Table) (ok : Accepted T) (c : ℕ) where
  started_is : (m x : ℕ) → started_in T c m x ≡ sum (λ u. one (writer T c m u && ltb (op T u).start x)) (nops T)
  unfolding started_in
  started_is m x = refl

  module _ (b : ℕ) where
    abbrev Before : ℕ → ℕ → Type 0
    Before x u = (In b (op T u).modes × In c (op T u).writes) × ((op T u).start < x)

    abbrev By : ℕ → ℕ → Type 0
    By e u = (In b (op T u).modes × In c (op T u).writes) × (end_of (op T u) ≤ e)

    says_before : (x u : ℕ) → Says (writer T c b u && ltb (op T u).start x) (Before x u)
    says_before x u = says_and _ _ (says_writer T c b u) (says_ltb (op T u).start x)

    says_by_end : (e u : ℕ) → Says (writer T c b u && leb (end_of (op T u)) e) (By e u)
    says_by_end e u = says_and _ _ (says_writer T c b u) (says_leb (end_of (op T u)) e)

    -- a cycle of the mode by itself
    here : (u : ℕ) → u < nops T → In b (op T u).modes → Runs T (b ∷ []) 0 u
    here u h m = record { cycle = omega arith; is_op = h; in_mode = m }

    -- of two writes in the mode the one that starts no later ends no later, and the other way
    in_order_lem : (u i : ℕ) → u < nops T → In b (op T u).modes × In c (op T u).writes → WriteIn T c b i
        → end_of (op T u) ≤ end_of (op T i) ↔ (op T u).start ≤ (op T i).start
    in_order_lem u i h (m, w) y =
        let z = writes_in_order T ok (b ∷ []) u 0 i 0 c (here u h m) (here i y.is_op y.runs) w y.writes in
        (λ x. omega (arith, z.0 (omega arith)), λ x. omega (arith, z.1 (omega arith)))

    -- a write that starts before x is among the first so many
    started_most : (x i : ℕ) → WriteIn T c b i → (op T i).start < x → ended_in T c b (end_of (op T i)) ≤ started_in T c b x
    started_most x i y h =
        rw (ended_in_is T c b (end_of (op T i)), started_is b x)
        (sum_le (λ u. one (writer T c b u && leb (end_of (op T u)) (end_of (op T i)))) (λ u. one (writer T c b u && ltb (op T u).start x)) (nops T)
        (λ u l. one_mono _ _
        (λ t. let (p, e) = (says_by_end (end_of (op T i)) u).0 t in
        (says_before x u).1 (p, omega (arith, (in_order_lem u i l p y).0 e)))))

    -- one that does not is beyond them
    started_less : (x i : ℕ) → WriteIn T c b i → x ≤ (op T i).start → started_in T c b x < ended_in T c b (end_of (op T i))
    started_less x i y h =
        rw (ended_in_is T c b (end_of (op T i)), started_is b x)
        (sum_lt (λ u. one (writer T c b u && ltb (op T u).start x)) (λ u. one (writer T c b u && leb (end_of (op T u)) (end_of (op T i)))) (nops T) i
        (λ u l. one_mono _ _
        (λ t. let (p, e) = (says_before x u).0 t in (says_by_end (end_of (op T i)) u).1 (p, (in_order_lem u i l p y).1 (omega arith))))
        y.is_op
        (own (known _)))
      where
        own : Known (writer T c b i && ltb (op T i).start x)
            → one (writer T c b i && ltb (op T i).start x) < one (writer T c b i && leb (end_of (op T i)) (end_of (op T i)))
        own (holds t) = absurd (omega (arith, ((says_before x i).0 t).1))
        own (fails t) =
            omega (arith, one_false t, one_true ((says_by_end (end_of (op T i)) i).1 ((y.runs, y.writes), omega arith)))

    -- the writes of the mode have the ranks from 1 on
    ended_one : (e : ℕ) → e ≤ T.len → writes_by T (b ∷ []) c e ≡ ended_in T c b e
    unfolding sum
    ended_one e h =
        let at : e ≡ e + 0 * T.len = omega arith in
        omega (arith, ap (writes_by T (b ∷ []) c) at, ended_split T c (b ∷ []) ok 0 e (omega arith) h)

    pub started_len : (x : ℕ) → started_in T c b x ≤ ended_in T c b T.len
    started_len x =
        rw (ended_in_is T c b T.len, started_is b x)
        (sum_le (λ u. one (writer T c b u && ltb (op T u).start x)) (λ u. one (writer T c b u && leb (end_of (op T u)) T.len)) (nops T)
        (λ u l. one_mono _ _ (λ t. let (p, e) = (says_before x u).0 t in (says_by_end T.len u).1 (p, omega (arith, (ok.each u l).fits)))))

    pub ranked : (g : ℕ) → 1 ≤ g → g ≤ ended_in T c b T.len → (i : ℕ) × WriteIn T c b i × (ended_in T c b (end_of (op T i)) ≡ g)
    ranked g low high =
        let (i, k, y) = number_write T (b ∷ []) c ok T.len g low (omega (arith, ended_one T.len (omega arith))) in
        let z : k ≡ 0 = omega (arith, y.runs.cycle) in
        let m : In b (op T i).modes = (subst (λ (x : ℕ). Runs T (b ∷ []) x i) z y.runs).in_mode in (
          i,
          record { is_op = y.runs.is_op; runs = m; writes = y.writes },
          omega (
            arith,
            y.value,
            ap (λ (x : ℕ). writes_by T (b ∷ []) c (plain_end T i x)) z,
            ap (writes_by T (b ∷ []) c) (plain i),
            ended_one (end_of (op T i)) (omega (arith, (ok.each i y.runs.is_op).fits)),
          ),
        )
      where
        plain : (i : ℕ) → plain_end T i 0 ≡ end_of (op T i)
        plain i = omega arith

    -- what is left, x ticks with s writes, shows
    started_shows : (x d s : ℕ) → ((i : ℕ) × WriteIn T c b i × ((op T i).start < x) × (s + ended_in T c b (end_of (op T i)) ≡ d))
        ↔ ((s < d) × (d ≤ s + started_in T c b x))
    started_shows x d s = (to, from)
      where
        to : (i : ℕ) × WriteIn T c b i × ((op T i).start < x) × (s + ended_in T c b (end_of (op T i)) ≡ d) → (s < d) × (d ≤ s + started_in T c b x)
        to (i, w, soon, count) = (omega (arith, ended_self T c b i w), omega (arith, started_most x i w soon))

        from : (s < d) × (d ≤ s + started_in T c b x) → (i : ℕ) × WriteIn T c b i × ((op T i).start < x) × (s + ended_in T c b (end_of (op T i)) ≡ d)
        from (low, high) =
            let (i, w, e) = ranked (d - s) (omega arith) (omega (arith, started_len x)) in
            (i, w, soon i w e (dec_lt (op T i).start x), omega arith)
          where
            soon : (i : ℕ) → WriteIn T c b i → ended_in T c b (end_of (op T i)) ≡ d - s → Dec ((op T i).start < x) → (op T i).start < x
            soon i w e (yes h) = h
            soon i w e (no h) = absurd (omega (arith, started_less x i w (omega arith), low, high))

    -- with more ticks left no fewer writes have started, and with none none
    pub started_mono : (x y : ℕ) → x ≤ y → started_in T c b x ≤ started_in T c b y
    started_mono x y h =
        rw (started_is b x, started_is b y)
        (sum_le (λ u. one (writer T c b u && ltb (op T u).start x)) (λ u. one (writer T c b u && ltb (op T u).start y)) (nops T)
        (λ u l. one_mono _ _ (λ t. let (p, e) = (says_before x u).0 t in (says_before y u).1 (p, omega arith))))

    pub started_none : started_in T c b 0 ≡ 0
    started_none = omega (arith, go (dec_lt 0 (started_in T c b 0)))
      where
        go : Dec (0 < started_in T c b 0) → started_in T c b 0 ≤ 0
        go (no h) = omega arith
        go (yes h) =
            let (u, l, y) = sum_some (λ i. one (writer T c b i && ltb (op T i).start 0)) (nops T) (rw (sym (started_is b 0)) h) in
            absurd (omega (arith, ((says_before 0 u).0 (one_some _ y)).1))

    -- the write that is the (g + 1)-th of its mode starts before x exactly when more than g have started by then
    pub started_rank : (x g i : ℕ) → WriteIn T c b i → ended_in T c b (end_of (op T i)) ≡ suc g → (op T i).start < x ↔ g < started_in T c b x
    started_rank x g i w e = (λ h. omega (arith, started_most x i w h), λ h. go h (dec_lt (op T i).start x))
      where
        go : g < started_in T c b x → Dec ((op T i).start < x) → (op T i).start < x
        go h (yes l) = l
        go h (no l) = absurd (omega (arith, started_less x i w (omega arith)))

    -- writes of one mode with one rank start at one date
    pub rank_start : (i j : ℕ) → WriteIn T c b i → WriteIn T c b j → ended_in T c b (end_of (op T i)) ≡ ended_in T c b (end_of (op T j))
        → (op T i).start ≡ (op T j).start
    rank_start i j v w e = go (cmp (op T i).start (op T j).start)
      where
        go : Cmp (op T i).start (op T j).start → (op T i).start ≡ (op T j).start
        go (Cmp.less h) = absurd (omega (arith, started_most (op T j).start i v h, started_less (op T j).start j w (omega arith)))
        go (Cmp.same h) = h
        go (Cmp.more h) = absurd (omega (arith, started_most (op T i).start j w h, started_less (op T i).start i v (omega arith)))

  -- d is a difference exactly when what is left with fewer writes reaches it
  pub differ_shown : (q d : ℕ) → Differ T q c d ↔ ((s b x : ℕ) × (s < d) × Left T q c s b x × (d ≤ s + started_in T c b x))
  differ_shown q d = (
    λ z. let (s, b, i, x, y, w, h, f) = (differ_left T ok q c d).0 z in let (l, u) = (started_shows b x d s).0 (i, w, h, f) in (s, b, x, l, y, u),
    λ (s, b, x, l, y, u). let (i, w, h, f) = (started_shows b x d s).1 (l, u) in (differ_left T ok q c d).1 (s, b, i, x, y, w, h, f),
  )
