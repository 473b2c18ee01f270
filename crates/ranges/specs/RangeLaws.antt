-- An operation's numbers are judged by its dates, and where these are in range by its sets; numbers in range fit the code's.
-- Assumes nothing.
use Rattle.std.specs.Prelude.{ℕ, ◌+◌, ◌^◌, ◌<◌, ◌≤◌, ◌≡◌, refl, Bool, Option, None, Some, is_some, unwrap_or}
use Rattle.std.proofs.Common.{sym, ◌∙◌, arith, pow_mono}
use Rattle.std.proofs.Math.Bool.{true, false}
use mathlib.Core.List.{List, [], ◌∷◌, ◌++◌}
use borrow.Author.Tests.{le-leb, lt-ltb, le-ltb}
use Rattle.rules.specs.Table as rules
use Rattle.rules.specs.Judge.{Number, wrong_from, date_ranges, hold_ranges, used_ranges, op_wrong}
use Rattle.theory.specs.Holds.{Plain}
use Rattle.theory.proofs.Says.{Known, holds, fails, known}
use Rattle.theory.proofs.Ranges.{wrong_here, wrong_later, dates_no_time, dates_late, dates_no_hold, dates_past}
use Rattle.theory.proofs.Judging.{own_wrong, op_passed}
use Rattle.std.proofs.lemmas.Bool.{true≢false}
use Rattle.ranges.specs.declared.Wide.{Wide}
use Rattle.ranges.specs.Ranges.{wide_of, counted, dates_of, used_at, sets_of}

-- ---- numbers one after the other, in two parts

-- where those behind a list of numbers begin
behind : ℕ → List Number → ℕ
behind place [] = place
behind place (n ∷ ns) = behind (place + n.bytes) ns

module _ (place : ℕ) (n : Number) (ns ms : List Number) where
  -- one number more in front of two parts: none is wrong in the first, or one is
  fine_more : 0 < place → wrong_from place (n ∷ ns) ≡ 0
      → (wrong_from (place + n.bytes) ns ≡ 0 → wrong_from (place + n.bytes) (ns ++ ms) ≡ wrong_from (behind (place + n.bytes) ns) ms)
      → wrong_from place (n ∷ (ns ++ ms)) ≡ wrong_from (behind (place + n.bytes) ns) ms
  fine_more some e rest = go (known n.ok)
    where
      go : Known n.ok → wrong_from place (n ∷ (ns ++ ms)) ≡ wrong_from (behind (place + n.bytes) ns) ms
      go (holds h) = wrong_later place n (ns ++ ms) h ∙ rest (sym (wrong_later place n ns h) ∙ e)
      go (fails h) = absurd (omega (arith, e, wrong_here place n ns h))

  wrong_more : (wrong_from place (n ∷ ns) ≡ 0 → ⊥)
      → ((wrong_from (place + n.bytes) ns ≡ 0 → ⊥) → wrong_from (place + n.bytes) (ns ++ ms) ≡ wrong_from (place + n.bytes) ns)
      → wrong_from place (n ∷ (ns ++ ms)) ≡ wrong_from place (n ∷ ns)
  wrong_more wrong rest = go (known n.ok)
    where
      go : Known n.ok → wrong_from place (n ∷ (ns ++ ms)) ≡ wrong_from place (n ∷ ns)
      go (holds h) = wrong_later place n (ns ++ ms) h ∙ rest (λ e. wrong (wrong_later place n ns h ∙ e)) ∙ sym (wrong_later place n ns h)
      go (fails h) = wrong_here place n (ns ++ ms) h ∙ sym (wrong_here place n ns h)

-- none is wrong in the first part: the second decides
front_fine : (place : ℕ) (ns ms : List Number) → 0 < place → wrong_from place ns ≡ 0 → wrong_from place (ns ++ ms) ≡ wrong_from (behind place ns) ms
unfolding behind
front_fine place [] ms some e = refl
front_fine place (n ∷ ns) ms some e = fine_more place n ns ms some e (λ f. front_fine (place + n.bytes) ns ms (omega arith) f)

-- one is: it is the first of all
front_wrong : (place : ℕ) (ns ms : List Number) → (wrong_from place ns ≡ 0 → ⊥) → wrong_from place (ns ++ ms) ≡ wrong_from place ns
unfolding wrong_from
front_wrong place [] ms wrong = absurd (wrong refl)
front_wrong place (n ∷ ns) ms wrong = wrong_more place n ns ms wrong (λ f. front_wrong (place + n.bytes) ns ms f)

-- ---- an operation's numbers
module _ (T : rules.Table) (o : rules.Op) where
  pub op_dates : (held : Bool) → (dates_of T.len held o ≡ 0 → ⊥) → op_wrong T held o ≡ dates_of T.len held o
  unfolding op_wrong dates_of
  op_dates false wrong = front_wrong 3 (date_ranges T o) (used_ranges T o) wrong
  op_dates true wrong = front_wrong 3 (date_ranges T o ++ hold_ranges T true o) (used_ranges T o) wrong

  pub op_sets : (held : Bool) → dates_of T.len held o ≡ 0 → op_wrong T held o ≡ sets_of T (used_at held) o
  unfolding op_wrong dates_of sets_of behind
  op_sets false e = front_fine 3 (date_ranges T o) (used_ranges T o) (omega arith) e
  op_sets true e = front_fine 3 (date_ranges T o ++ hold_ranges T true o) (used_ranges T o) (omega arith) e

-- its dates, one after the other
module _ (len : ℕ) (o : rules.Op) where
  abbrev T : rules.Table
  T = counted len 0 0 0

  pub start_large : (held : Bool) → 65536 ≤ o.start → dates_of len held o ≡ 3
  unfolding dates_of
  start_large held h = rw (le-ltb o.start 65536 h)

  module _ (fits : o.start < 65536) where
    pub no_time : (held : Bool) → o.dur < 1 → dates_of len held o ≡ 5
    unfolding dates_of
    no_time held h = dates_no_time T o fits (hold_ranges T held o) h

    pub late : (held : Bool) → 1 ≤ o.dur → len < o.start + o.dur → dates_of len held o ≡ 5
    unfolding dates_of
    late held h l = dates_late T o fits (hold_ranges T held o) h l

    module _ (lasts : 1 ≤ o.dur) (ends : o.start + o.dur ≤ len) where
      pub dates_plain : dates_of len false o ≡ 0
      unfolding dates_of
      dates_plain = rw (lt-ltb o.start 65536 fits, le-leb 1 o.dur lasts, le-leb (o.start + o.dur) len ends)

      pub no_hold : o.hold < 1 → dates_of len true o ≡ 7
      unfolding dates_of
      no_hold h = dates_no_hold T o fits lasts ends [] h

      pub held_past : 1 ≤ o.hold → len < o.start + o.dur + o.hold → dates_of len true o ≡ 7
      unfolding dates_of
      held_past h l = dates_past T o fits lasts ends [] h l

      pub dates_held : 1 ≤ o.hold → o.start + o.dur + o.hold ≤ len → dates_of len true o ≡ 0
      unfolding dates_of
      dates_held h l =
          rw (
            lt-ltb o.start 65536 fits,
            le-leb 1 o.dur lasts,
            le-leb (o.start + o.dur) len ends,
            le-leb 1 o.hold h,
            le-leb (o.start + o.dur + o.hold) len l,
          )

-- of a table only its length and its counts say what is wrong
pub wrong_counted : (T : rules.Table) (held : Bool) (o : rules.Op) → op_wrong (counted T.len T.boards T.cells T.modes) held o ≡ op_wrong T held o
unfolding op_wrong
wrong_counted T false o = refl
wrong_counted T true o = refl

-- numbers in range fit 32 bits
pub record OpSmall (o : rules.Op) : Type 0 where
  pub start : o.start < 2 ^ 32
  pub dur : o.dur < 2 ^ 32
  pub hold : o.hold < 2 ^ 32
  pub boards : o.boards < 2 ^ 32
  pub reads : o.reads < 2 ^ 32
  pub writes : o.writes < 2 ^ 32
  pub modes : o.modes < 2 ^ 32

small : {s n : ℕ} → s < 2 ^ n → n ≤ 32 → s < 2 ^ 32
small {s} {n} h l = let m : 2 ^ n ≤ 2 ^ 32 = pow_mono l in omega arith

pub op_small : (T : rules.Table) (held : Bool) (o : rules.Op) → T.len < 2 ^ 32 → (T.boards ≤ 32) × (T.cells ≤ 32) × (T.modes ≤ 32)
    → Plain held o → op_wrong T held o ≡ 0 → OpSmall o
op_small T held o h l plain e =
    let ok = op_passed T o (own_wrong T held o plain e) in
    record {
      start = omega (arith, ok.fits);
      dur = omega (arith, ok.fits);
      hold = omega (arith, ok.fits);
      boards = small ok.boards.small l.0;
      reads = small ok.reads l.1;
      writes = small ok.writes l.1;
      modes = small ok.modes.small l.2;
    }

-- where no hold is among the numbers, it is 0
pub wide_plain : (w : Wide) → Plain (is_some w.hold) (wide_of w)
wide_plain w e = go w.hold e
  where
    go : (h : Option ℕ) → is_some h ≡ false → unwrap_or h 0 ≡ 0
    go None e = refl
    go (Some x) e = absurd (true≢false e)
