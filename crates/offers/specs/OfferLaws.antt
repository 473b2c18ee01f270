-- What users offer to the ring, one after the other; what that is of the uses in a mode; and the modes, one after the other.
-- Assumes nothing.
use Rattle.std.specs.Prelude.{ℕ, ◌+◌, ◌*◌, ◌^◌, ◌<◌, ◌≤◌, max, ◌≡◌, refl, List, ◌↔◌, ◌⊎◌, length, get_or, set, replicate}
use Rattle.std.proofs.Common.{sym, ap, subst, ◌∙◌, inl, inr, arith, length-set, get_or-set_same, get_or-set_other}
use Rattle.std.proofs.Math.Path.{subst⁻¹}
use Rattle.std.proofs.Math.Decide.{ℕ_discrete}
use Rattle.std.proofs.lemmas.List.{get_or-replicate}
use Rattle.rules.specs.Sets.{In, Within}
use Rattle.rules.specs.Table.{Op, Table, op, end_of, Accepted}
use Rattle.theory.specs.Tests.{without}
use Rattle.theory.specs.Walks.{IsReach}
use Rattle.theory.proofs.Sets.{in_small}
use Rattle.lives.specs.Near.{ahead_in, UseIn}
use Rattle.lives.specs.Left.{Most, Low}
use Rattle.lives.proofs.Cycles.{in_parts}
use Rattle.lives.proofs.Rows.{most_none, most_as}
use Rattle.sets.specs.Members.{Past, past_none, past_all, rest_within, past_more}
use Rattle.columns.specs.Columns.{dates, op_by, Settled, Columns, Short}
use Rattle.columns.specs.ColumnLaws.{op_there_lem}
use Rattle.columns.specs.declared.Dated.{Dated}
use Rattle.counting.specs.Counting.{InMode, ReadersOf, WritersOf, ReadersIn, WritersIn}
use Rattle.counting.specs.CountingLaws.{mode_readers, mode_writers, ended_is, ended_all}
use Rattle.offers.specs.Offers.{ahead_of, Offer, Offered, OfferedMode, UsesOf}

-- ---- dates

-- the end, as it stands there
end_is : (cols : List Dated) → Settled cols → (i : ℕ) → i < 32 → end_of (op_by cols i) ≡ (dates cols i).end
end_is cols s i h = omega (arith, (s i h).lasts)

-- no start and no end is later than the longest table
pub start_short : {cols : List Dated} → Short cols → (i : ℕ) → i < 32 → (dates cols i).start ≤ 1000
start_short s i h = omega (arith, s.ends i h)

pub end_short : {cols : List Dated} → Short cols → (i : ℕ) → i < 32 → (dates cols i).end ≤ 1000
end_short {cols} s i h = omega (arith, end_is cols s.settled i h, s.ends i h)

-- when readers use the cell, and when writers do
abbrev pub starts : List Dated → ℕ → ℕ
starts cols j = (dates cols j).start

abbrev pub ends : List Dated → ℕ → ℕ
ends cols j = (dates cols j).end

-- ---- the users, one after the other

-- what a user that was visited offers to entry k
abbrev Gone : List Dated → ℕ → ℕ → (ℕ → ℕ) → ℕ → ℕ → ℕ → ℕ → Type 0
Gone cols w users since m left k y =
    (j : ℕ) × Past users left j × (k ≡ 32 * ahead_of cols w (since j) + m) × (y ≡ end_of (op_by cols j))

-- each entry is the most of what it was and what the users that were visited offer
pub record Offering (cols : List Dated) (w users : ℕ) (since : ℕ → ℕ) (m left : ℕ) (old new : List ℕ) : Type 0 where
  pub inside : Within left users
  pub long : length new ≡ length old
  pub each : (k : ℕ) → k < 1056 → Most (λ y. (y ≡ get_or old k 0) ⊎ Gone cols w users since m left k y) (get_or new k 0)

pub offering_none : (cols : List Dated) (old : List ℕ) (w users : ℕ) (since : ℕ → ℕ) (m : ℕ) → Offering cols w users since m users old old
offering_none cols old w users since m =
    record { inside = λ j h. h; long = refl; each = λ k l. record { most = up k; least = λ z bound. bound (get_or old k 0) (inl refl) } }
  where
    up : (k y : ℕ) → (y ≡ get_or old k 0) ⊎ Gone cols w users since m users k y → y ≤ get_or old k 0
    up k y (inl e) = omega arith
    up k y (inr (j, p, e, f)) = absurd (past_none users j p)

module _ {cols : List Dated} {old mid : List ℕ} {w users : ℕ} {since : ℕ → ℕ} {m left : ℕ} (u x i : ℕ) (here : In u left) (low : i < length mid)
    (is : i ≡ 32 * ahead_of cols w (since u) + m) (ends : x ≡ end_of (op_by cols u)) (o : Offering cols w users since m left old mid) where
  abbrev after : List ℕ
  after = set mid i (max (get_or mid i 0) x)

  abbrev Before : ℕ → ℕ → Type 0
  Before k y = (y ≡ get_or old k 0) ⊎ Gone cols w users since m left k y

  abbrev Now : ℕ → ℕ → Type 0
  Now k y = (y ≡ get_or old k 0) ⊎ Gone cols w users since m (without left (2 ^ u)) k y

  past : (j : ℕ) → Past users (without left (2 ^ u)) j ↔ (Past users left j ⊎ (j ≡ u))
  past = past_more users left u o.inside here

  keep : (k y : ℕ) → Before k y → Now k y
  keep k y (inl e) = inl e
  keep k y (inr (j, p, e, f)) = inr (j, (past j).1 (inl p), e, f)

  -- what is offered now was offered before, or by u
  split : (k y : ℕ) → Now k y → Before k y ⊎ ((k ≡ i) × (y ≡ x))
  split k y (inl e) = inl (inl e)
  split k y (inr (j, p, e, f)) = go ((past j).0 p)
    where
      go : Past users left j ⊎ (j ≡ u) → Before k y ⊎ ((k ≡ i) × (y ≡ x))
      go (inl q) = inl (inr (j, q, e, f))
      go (inr d) = inr (
        subst (λ (n : ℕ). k ≡ 32 * ahead_of cols w (since n) + m) d e ∙ sym is,
        subst (λ (n : ℕ). y ≡ end_of (op_by cols n)) d f ∙ sym ends,
      )

  now_here : i < 1056 → Most (Now i) (max (get_or mid i 0) x)
  now_here l = record { most = λ y p. up y (split i y p); least = down }
    where
      up : (y : ℕ) → Before i y ⊎ ((i ≡ i) × (y ≡ x)) → y ≤ max (get_or mid i 0) x
      up y (inl b) = omega (arith, (o.each i l).most y b)
      up y (inr (_, e)) = omega arith

      down : (z : ℕ) → ((y : ℕ) → Now i y → y ≤ z) → max (get_or mid i 0) x ≤ z
      down z bound = omega (arith, (o.each i l).least z (λ y b. bound y (keep i y b)), bound x (inr (u, (past u).1 (inr refl), is, ends)))

  now_other : (k : ℕ) → k < 1056 → (k ≡ i → ⊥) → Most (Now k) (get_or mid k 0)
  now_other k l n = most_as (λ y. (keep k y, λ p. go y (split k y p))) (o.each k l)
    where
      go : (y : ℕ) → Before k y ⊎ ((k ≡ i) × (y ≡ x)) → Before k y
      go y (inl b) = b
      go y (inr (e, _)) = absurd (n e)

  now_each : (k : ℕ) → k < 1056 → Dec (k ≡ i) → Most (Now k) (get_or after k 0)
  now_each k l (yes e) =
      subst⁻¹ (λ (n : ℕ). Most (Now n) (get_or after n 0)) e
      (rw (get_or-set_same mid i (max (get_or mid i 0) x) 0 low) (now_here (omega arith)))
  now_each k l (no n) = rw (get_or-set_other mid i k (max (get_or mid i 0) x) 0 n) (now_other k l n)

  pub offering_more : Offering cols w users since m (without left (2 ^ u)) old after
  offering_more =
      record {
        inside = rest_within users left u o.inside here;
        long = simp length-set o.long;
        each = λ k l. now_each k l (ℕ_discrete k i);
      }

pub offering_all : {cols : List Dated} {old new : List ℕ} {w users : ℕ} {since : ℕ → ℕ} {m : ℕ} → Offering cols w users since m 0 old new → Offered cols w users since m old new
offering_all {cols} {old} {new} {w} {users} {since} {m} o =
    record { long = o.long; each = λ k l. most_as (λ y. (to k y, from k y)) (o.each k l) }
  where
    to : (k y : ℕ) → (y ≡ get_or old k 0) ⊎ Gone cols w users since m 0 k y → (y ≡ get_or old k 0) ⊎ Offer cols w users since m k y
    to k y (inl e) = inl e
    to k y (inr (j, p, e, f)) = inr (j, p.0, e, f)

    from : (k y : ℕ) → (y ≡ get_or old k 0) ⊎ Offer cols w users since m k y → (y ≡ get_or old k 0) ⊎ Gone cols w users since m 0 k y
    from k y (inl e) = inl e
    from k y (inr (j, p, e, f)) = inr (j, past_all users j p, e, f)

-- ---- all uses in a mode

-- an entry that stands in the column of another mode stays
offered_not : {cols : List Dated} {old new : List ℕ} {w users : ℕ} {since : ℕ → ℕ} {m : ℕ} → Offered cols w users since m old new → (k : ℕ) → k < 1056
    → ((a : ℕ) → k ≡ 32 * a + m → ⊥) → get_or new k 0 ≡ get_or old k 0
offered_not {cols} {old} {new} {w} {users} {since} {m} o k l n =
    omega (arith, (o.each k l).most (get_or old k 0) (inl refl), (o.each k l).least (get_or old k 0) bound)
  where
    bound : (y : ℕ) → (y ≡ get_or old k 0) ⊎ Offer cols w users since m k y → y ≤ get_or old k 0
    bound y (inl e) = omega arith
    bound y (inr (j, p, e, f)) = absurd (n _ e)

-- and no entry comes above 1000, since no operation ends later
offered_low : {cols : List Dated} {old new : List ℕ} {w users : ℕ} {since : ℕ → ℕ} {m : ℕ} → Short cols → users < 2 ^ 32 → Offered cols w users since m old new
    → ((k : ℕ) → k < 1056 → get_or old k 0 ≤ 1000) → (k : ℕ) → k < 1056 → get_or new k 0 ≤ 1000
offered_low {cols} {old} {new} {w} {users} {since} {m} short small o low k l = (o.each k l).least 1000 bound
  where
    bound : (y : ℕ) → (y ≡ get_or old k 0) ⊎ Offer cols w users since m k y → y ≤ 1000
    bound y (inl e) = omega (arith, low k l)
    bound y (inr (j, p, e, f)) = omega (arith, short.ends j (in_small j 32 users small p))

-- a use in mode m with t writes behind it, which ends at y
abbrev Use : Table → ℕ → ℕ → ℕ → ℕ → Type 0
Use T c t m y = (j e : ℕ) × UseIn T c m j e × (ahead_in T c m e ≡ t) × (y ≡ end_of (op T j))

module _ (T : Table) (c m w r : ℕ) (cols : List Dated) (ok : Accepted T) (C : Columns T cols) (W : WritersIn T c m w) (R : ReadersIn T c m r) where
  -- the writers that end after a date, by the columns, are the writes ahead of it
  ahead_is : (e : ℕ) → ahead_of cols w e ≡ ahead_in T c m e
  ahead_is e =
      omega (arith, ended_is T ok c m w C W 1000, ended_is T ok c m w C W e, ended_all T ok c m 1000 ok.len_high, in_parts T c m e)

  ends_as : (j : ℕ) → j < 32 → end_of (op_by cols j) ≡ end_of (op T j)
  ends_as j h = subst (λ (o : Op). end_of (op_by cols j) ≡ end_of o) (C.each j h) refl

  starts_as : (j : ℕ) → j < 32 → starts cols j ≡ (op T j).start
  starts_as j h = subst (λ (o : Op). starts cols j ≡ o.start) (C.each j h) refl

  -- readers and writers offer uses
  read_use : (t y : ℕ) → Offer cols w r (starts cols) m (32 * t + m) y → Use T c t m y
  read_use t y (j, p, e, f) =
      let (h, runs, reads) = (R j).0 p in (
        j,
        starts cols j,
        record { is_op = op_there_lem T (λ o. o.reads) refl j c reads; runs = runs; uses = inl (reads, starts_as j h) },
        omega (arith, ahead_is (starts cols j)),
        f ∙ ends_as j h,
      )

  write_use : (t y : ℕ) → Offer cols w w (ends cols) m (32 * t + m) y → Use T c t m y
  write_use t y (j, p, e, f) =
      let (h, runs, writes) = (W j).0 p in (
        j,
        ends cols j,
        record { is_op = op_there_lem T (λ o. o.writes) refl j c writes; runs = runs; uses = inr (writes, sym (end_is cols C.settled j h) ∙ ends_as j h) },
        omega (arith, ahead_is (ends cols j)),
        f ∙ ends_as j h,
      )

  -- and each use is offered by one of them
  use_offer : (t y : ℕ) → Use T c t m y → Offer cols w r (starts cols) m (32 * t + m) y ⊎ Offer cols w w (ends cols) m (32 * t + m) y
  use_offer t y (j, e, used, ahead, f) = go used.uses
    where
      small : j < 32
      small = omega (arith, used.is_op, ok.ops_high)

      at : {k : ℕ} → k ≡ e → 32 * t + m ≡ 32 * ahead_of cols w k + m
      at d = omega (arith, ahead_is e, ap (ahead_of cols w) d)

      go : (In c (op T j).reads × (e ≡ (op T j).start)) ⊎ (In c (op T j).writes × (e ≡ end_of (op T j)))
          → Offer cols w r (starts cols) m (32 * t + m) y ⊎ Offer cols w w (ends cols) m (32 * t + m) y
      go (inl (x, d)) = inl (j, (R j).1 (small, used.runs, x), at (starts_as j small ∙ sym d), f ∙ sym (ends_as j small))
      go (inr (x, d)) =
          inr (j, (W j).1 (small, used.runs, x), at (sym (end_is cols C.settled j small) ∙ ends_as j small ∙ sym d), f ∙ sym (ends_as j small))

  offered_here : {old mid new : List ℕ} → m < 32 → Offered cols w r (starts cols) m old mid → Offered cols w w (ends cols) m mid new → (t : ℕ) → t < 33
      → Most (λ y. (y ≡ get_or old (32 * t + m) 0) ⊎ Use T c t m y) (get_or new (32 * t + m) 0)
  offered_here {old} {mid} {new} g a b t h = record { most = up; least = down }
    where
      l : 32 * t + m < 1056
      l = omega arith

      mid_up : get_or mid (32 * t + m) 0 ≤ get_or new (32 * t + m) 0
      mid_up = (b.each (32 * t + m) l).most (get_or mid (32 * t + m) 0) (inl refl)

      up : (y : ℕ) → (y ≡ get_or old (32 * t + m) 0) ⊎ Use T c t m y → y ≤ get_or new (32 * t + m) 0
      up y (inl e) = omega (arith, mid_up, (a.each (32 * t + m) l).most y (inl e))
      up y (inr u) = go (use_offer t y u)
        where
          go : Offer cols w r (starts cols) m (32 * t + m) y ⊎ Offer cols w w (ends cols) m (32 * t + m) y → y ≤ get_or new (32 * t + m) 0
          go (inl o) = omega (arith, mid_up, (a.each (32 * t + m) l).most y (inr o))
          go (inr o) = (b.each (32 * t + m) l).most y (inr o)

      down : (z : ℕ) → ((y : ℕ) → (y ≡ get_or old (32 * t + m) 0) ⊎ Use T c t m y → y ≤ z) → get_or new (32 * t + m) 0 ≤ z
      down z bound = (b.each (32 * t + m) l).least z second
        where
          first : (y : ℕ) → (y ≡ get_or old (32 * t + m) 0) ⊎ Offer cols w r (starts cols) m (32 * t + m) y → y ≤ z
          first y (inl e) = bound y (inl e)
          first y (inr o) = bound y (inr (read_use t y o))

          second : (y : ℕ) → (y ≡ get_or mid (32 * t + m) 0) ⊎ Offer cols w w (ends cols) m (32 * t + m) y → y ≤ z
          second y (inl e) = omega (arith, (a.each (32 * t + m) l).least z first)
          second y (inr o) = bound y (inr (write_use t y o))

pub offered_mode : {cols : List Dated} {old mid new : List ℕ} {writers readers m w r : ℕ} → Short cols → m < 32 → w < 2 ^ 32 → r < 2 ^ 32
    → InMode cols writers m w → InMode cols readers m r → Offered cols w r (starts cols) m old mid → Offered cols w w (ends cols) m mid new
    → OfferedMode cols writers readers m old new
offered_mode {cols = cols} {m = m} {w = w} {r = r} short l small small' is is' a b =
    record {
      long = b.long ∙ a.long;
      low = λ h. offered_low short small b (offered_low short small' a h);
      here = λ T c ok C W R. offered_here T c m w r cols ok C (mode_writers C c W is) (mode_readers C c R is') l a b;
      rest =
          λ t n h g e.
          offered_not b (32 * t + n) (omega arith) (λ k d. e (omega arith))
          ∙ offered_not a (32 * t + n) (omega arith) (λ k d. e (omega arith));
    }

-- ---- the modes, one after the other

-- the modes that were visited have the most of their uses, and nothing waits in the others
pub record Filling (cols : List Dated) (writers readers reached left : ℕ) (ring : List ℕ) : Type 0 where
  pub inside : Within left reached
  pub long : length ring ≡ 1056
  pub low : Low ring 1056
  pub each : (T : Table) (c : ℕ) → Accepted T → Columns T cols → WritersOf T c writers → ReadersOf T c readers → (t m : ℕ) → t < 33 → m < 32
      → Most (λ y. Past reached left m × Use T c t m y) (get_or ring (32 * t + m) 0)

pub filling_none : (cols : List Dated) (ring : List ℕ) (writers readers reached : ℕ) → ring ≡ replicate 1056 0 → Filling cols writers readers reached reached ring
filling_none cols ring writers readers reached e =
    record {
      inside = λ m h. h;
      long = rw e refl;
      low = λ k l. omega (arith, empty k l);
      each =
          λ T c ok C W R t m h l.
          subst⁻¹ (λ (x : ℕ). Most (λ y. Past reached reached m × Use T c t m y) x) (empty (32 * t + m) (omega arith))
          (most_none (λ y p. past_none reached m p.0));
    }
  where
    empty : (k : ℕ) → k < 1056 → get_or ring k 0 ≡ 0
    empty k l = rw e (get_or-replicate {A = ℕ} 1056 k 0 0 l)

pub filling_more : {cols : List Dated} {ring new : List ℕ} {writers readers reached left : ℕ} (m : ℕ) → In m left → m < 32
    → Filling cols writers readers reached left ring → OfferedMode cols writers readers m ring new
    → Filling cols writers readers reached (without left (2 ^ m)) new
filling_more {cols} {ring} {new} {writers} {readers} {reached} {left} m here small f o =
    record {
      inside = rest_within reached left m f.inside here;
      long = o.long ∙ f.long;
      low = o.low f.low;
      each = λ T c ok C W R t n h l. go T c ok C W R t n h l (ℕ_discrete n m);
    }
  where
    past : (n : ℕ) → Past reached (without left (2 ^ m)) n ↔ (Past reached left n ⊎ (n ≡ m))
    past = past_more reached left m f.inside here

    go : (T : Table) (c : ℕ) → Accepted T → Columns T cols → WritersOf T c writers → ReadersOf T c readers → (t n : ℕ) → t < 33 → n < 32 → Dec (n ≡ m)
        → Most (λ y. Past reached (without left (2 ^ m)) n × Use T c t n y) (get_or new (32 * t + n) 0)
    go T c ok C W R t n h l (yes e) =
        subst⁻¹ (λ (i : ℕ). Most (λ y. Past reached (without left (2 ^ m)) i × Use T c t i y) (get_or new (32 * t + i) 0)) e
        (record { most = λ y (p, u). own.most y (inr u); least = λ z bound. own.least z (down z bound) })
      where
        own : Most (λ y. (y ≡ get_or ring (32 * t + m) 0) ⊎ Use T c t m y) (get_or new (32 * t + m) 0)
        own = o.here T c ok C W R t h

        down : (z : ℕ) → ((y : ℕ) → Past reached (without left (2 ^ m)) m × Use T c t m y → y ≤ z) → (y : ℕ)
            → (y ≡ get_or ring (32 * t + m) 0) ⊎ Use T c t m y → y ≤ z
        down z bound y (inl d) =
            omega (arith, (f.each T c ok C W R t m h small).least z (λ v (p, u). bound v ((past m).1 (inl p), u)))
        down z bound y (inr u) = bound y ((past m).1 (inr refl), u)
    go T c ok C W R t n h l (no d) =
        rw (o.rest t n h l d)
        (most_as (λ y. (λ (p, u). ((past n).1 (inl p), u), λ (p, u). (back ((past n).0 p), u))) (f.each T c ok C W R t n h l))
      where
        back : Past reached left n ⊎ (n ≡ m) → Past reached left n
        back (inl p) = p
        back (inr e) = absurd (d e)

pub filling_all : {cols : List Dated} {ring : List ℕ} {writers readers reached : ℕ} → Filling cols writers readers reached 0 ring → (T : Table) (c : ℕ) → Accepted T
    → Columns T cols → WritersOf T c writers → ReadersOf T c readers → IsReach T reached → UsesOf T c ring
unfolding IsReach
filling_all {reached = reached} f T c ok C W R reach t m h l =
    most_as (λ y. (λ (p, u). record { reach = (reach m).0 p.0; by = u }, λ u. (past_all reached m ((reach m).1 u.reach), u.by)))
    (f.each T c ok C W R t m h l)
