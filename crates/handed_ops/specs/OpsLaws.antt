-- Laws of the operations' numbers: one operation, one after the other, and the loop over them.
-- Assumes nothing.
use Rattle.std.specs.Prelude.{ℕ, zero, suc, ◌+◌, ◌*◌, ◌-◌, ◌<◌, ◌≤◌, ◌≡◌, Bool, true, false, not, cond, ◌||◌, List, [], ◌∷◌, ◌++◌, ◌⊎◌, ◌^◌, Option, None, Some, IfSome, is_some, unwrap_or, Ok, eqb, leb, ltb, get_or, drop}
use Rattle.std.proofs.Math.Path.{refl, ap}
use Rattle.std.proofs.Common.{sym, ◌∙◌, append_assoc, append-nil, inl, inr, add-zero, arith, length-drop, get_or-drop}
use Rattle.std.proofs.Math.Dec.{eqb-suc-zero}
use Rattle.std.proofs.Math.ListN.{length, length-append}
use Rattle.std.proofs.Math.Seq.{drop-drop}
use borrow.Author.Tests.{le-ltb, eq-eqb, ne_eqb, eqb-false, leb-true, leb-false}
use Rattle.std.specs.Bool.{then_some}
use Rattle.rules.specs.Table.{Op, Table}
use Rattle.rules.specs.Verdicts.{Verdict, accepted, refused, SHORT, MANY, refuse_if, ◌then◌, onwards, more}
use Rattle.rules.specs.Bytes.{op_size}
use Rattle.rules.specs.Judge.{not_many, ranged, op_wrong, marked_of, op_of_numbers, with_ops, ops_place, ops_size, none_left, ops_of_numbers}
use Rattle.theory.specs.Holds.{Plain, op_width}
use Rattle.theory.proofs.Says.{Known, holds, fails, known, says_or, says_ltb}
use Rattle.theory.proofs.Verdicts.{passes, refuses, passed, then_accepts, then_refuses, then_first, then_rest, then_assoc}
use Rattle.theory.proofs.Ranges.{range_passed}
use Rattle.theory.proofs.Judging.{own_form, plain_handed, size_none, size_most, numbers_full}
use Rattle.fields.specs.Verdicts.{refusal_of}
use Rattle.fields.specs.Fields.{IsPlace}
use Rattle.fields.specs.declared.Refusal.{Refusal}
use Rattle.fields.specs.RefusalLaws.{refusal_is}
use Rattle.table.specs.Tables.{JudgedAs, table_in, op_in, with_op}
use Rattle.table.specs.TableLaws.{with_op_in}
use Rattle.table.specs.JudgedLaws.{granted}
use Rattle.table.specs.declared.Table as code
use Rattle.widths.specs.WidthLaws.{size_snoc}
use Rattle.ranges.specs.declared.Wide.{Wide}
use Rattle.ranges.specs.Ranges.{wide_of}
use Rattle.ranges.specs.RangeLaws.{wrong_counted}
use Rattle.handed_ops.specs.HandedOps.{ops_past, holds_past, none_behind, mark_there, op_there, op_test, test_there, counts_of, ops_behind, handed_ops, SmallCounts}

-- ---- one operation

-- the numbers behind k operations, as the code reads them
pub mark_read : (hs : List ℕ) (k : ℕ) → not (eqb (get_or hs (2 * k) 0) 0) ≡ mark_there hs k
unfolding mark_there
mark_read hs k = rw (get_or-drop (2 * k) hs 0 0, add-zero)

-- a number that stands beside a mark
held_is : (held : Bool) (hold : ℕ) → is_some (then_some held hold) ≡ held
held_is true hold = refl
held_is false hold = refl

hold_is : (held : Bool) (hold : ℕ) → unwrap_or (then_some held hold) 0 ≡ cond held hold 0
hold_is true hold = refl
hold_is false hold = refl

pub held_read : (hs : List ℕ) (k : ℕ) {hold : Option ℕ} → hold ≡ then_some (not (eqb (get_or hs (2 * k) 0) 0)) (get_or hs (2 * k + 1) 0)
    → is_some hold ≡ mark_there hs k
held_read hs k e = ap (λ (h : Option ℕ). is_some h) e ∙ held_is _ (get_or hs (2 * k + 1) 0) ∙ mark_read hs k

pub op_read : (ns hs : List ℕ) (k : ℕ) {hold : Option ℕ} → hold ≡ then_some (not (eqb (get_or hs (2 * k) 0) 0)) (get_or hs (2 * k + 1) 0)
    → record {
      start = get_or ns (6 * k) 0;
      dur = get_or ns (6 * k + 1) 0;
      hold = unwrap_or hold 0;
      boards = get_or ns (6 * k + 2) 0;
      reads = get_or ns (6 * k + 3) 0;
      writes = get_or ns (6 * k + 4) 0;
      modes = get_or ns (6 * k + 5) 0;
    }
    ≡ op_there ns hs k
unfolding op_there mark_there
op_read ns hs k e =
    let h = ap (λ (h : Option ℕ). unwrap_or h 0) e ∙ hold_is (not (eqb (get_or hs (2 * k) 0) 0)) (get_or hs (2 * k + 1) 0) ∙ ap (λ (b : Bool). cond b (get_or hs (2 * k + 1) 0) 0) (mark_read hs k) in
    rw (
      h,
      get_or-drop (2 * k) hs 1 0,
      get_or-drop (6 * k) ns 0 0,
      get_or-drop (6 * k) ns 1 0,
      get_or-drop (6 * k) ns 2 0,
      get_or-drop (6 * k) ns 3 0,
      get_or-drop (6 * k) ns 4 0,
      get_or-drop (6 * k) ns 5 0,
      add-zero,
    )

-- without a mark there is no hold
pub op_plain : (ns hs : List ℕ) (k : ℕ) → Plain (mark_there hs k) (op_there ns hs k)
unfolding mark_there op_there
op_plain ns hs k = plain_handed (drop (6 * k) ns) (drop (2 * k) hs)

-- numbers are left, or not
module _ (ns hs : List ℕ) (k : ℕ) where
  abbrev left : ℕ
  left = length (ops_past k ns) + length (holds_past k hs)

  left_some : (left ≡ 0 → ⊥) → none_behind ns hs k ≡ false
  unfolding none_behind
  left_some h = ne_eqb left 0 h

  left_none : left ≡ 0 → none_behind ns hs k ≡ true
  unfolding none_behind
  left_none h = eq-eqb left 0 h

  pub left_of_six : 6 * k < length ns → false ≡ none_behind ns hs k
  left_of_six h = sym (left_some (λ e. omega (arith, e, length-drop (6 * k) ns)))

  pub left_beside : length ns ≤ 6 * k → leb (length hs) (2 * k) ≡ none_behind ns hs k
  left_beside none = go (known (leb (length hs) (2 * k)))
    where
      go : Known (leb (length hs) (2 * k)) → leb (length hs) (2 * k) ≡ none_behind ns hs k
      go (holds b) = b ∙ sym (left_none (omega (arith, leb-true (length hs) (2 * k) b, length-drop (6 * k) ns, length-drop (2 * k) hs)))
      go (fails b) = b ∙ sym (left_some (λ e. omega (arith, e, leb-false (length hs) (2 * k) b, length-drop (2 * k) hs)))

module _ (T : Table) (ns hs : List ℕ) (k at : ℕ) where
  pub op_many : 32 ≤ k → test_there T ns hs k at ≡ refused MANY at 0
  unfolding test_there op_test not_many
  op_many h = then_refuses _ (refuses _ MANY at 0 (eq-eqb (32 - k) 0 (omega arith)))

  module _ (some : k < 32) where
    to_short : test_there T ns hs k at
        ≡ (refuse_if (ltb (length (ops_past k ns)) 6 || ltb (length (holds_past k hs)) 2) SHORT at 0 then ranged (op_wrong T (mark_there hs k) (op_there ns hs k)) at)
    unfolding test_there op_test not_many mark_there op_there
    to_short = then_accepts _ (passes _ MANY at 0 (ne_eqb (32 - k) 0 (λ e. omega arith)))

    -- numbers are missing, of the six, or a mark or a hold
    pub op_short : (length ns < 6 * k + 6) ⊎ (length hs < 2 * k + 2) → test_there T ns hs k at ≡ refused SHORT at 0
    op_short few =
        to_short
        ∙ then_refuses _
        (refuses _ SHORT at 0 ((says_or _ _ (says_ltb (length (ops_past k ns)) 6) (says_ltb (length (holds_past k hs)) 2)).1 (missing few)))
      where
        missing : (length ns < 6 * k + 6) ⊎ (length hs < 2 * k + 2) → (length (ops_past k ns) < 6) ⊎ (length (holds_past k hs) < 2)
        missing (inl h) = inl (omega (arith, length-drop (6 * k) ns))
        missing (inr h) = inr (omega (arith, length-drop (2 * k) hs))

    pub op_whole : 6 * k + 6 ≤ length ns → 2 * k + 2 ≤ length hs → test_there T ns hs k at ≡ ranged (op_wrong T (mark_there hs k) (op_there ns hs k)) at
    op_whole six two =
        let none : ltb (length (ops_past k ns)) 6 ≡ false = le-ltb (length (ops_past k ns)) 6 (omega (arith, length-drop (6 * k) ns)) in
        let neither : ltb (length (holds_past k hs)) 2 ≡ false = le-ltb (length (holds_past k hs)) 2 (omega (arith, length-drop (2 * k) hs)) in
        to_short ∙ then_accepts _ (passes _ SHORT at 0 (rw (none, neither)))

    -- of the numbers as they were read
    pub op_ranged : (w : Wide) → (wide_of w ≡ op_there ns hs k) × (is_some w.hold ≡ mark_there hs k) → 6 * k + 6 ≤ length ns → 2 * k + 2 ≤ length hs
        → ranged (op_wrong T (is_some w.hold) (wide_of w)) at ≡ test_there T ns hs k at
    op_ranged w e six two = rw (e.0, e.1) (sym (op_whole six two))

-- an operation that passes: there is a place for it behind k others, its numbers are there, and they are in their ranges
pub record Ready (T : Table) (ns hs : List ℕ) (k : ℕ) : Type 0 where
  pub some : k < 32
  pub six : 6 * k + 6 ≤ length ns
  pub two : 2 * k + 2 ≤ length hs
  pub ranges : op_wrong T (mark_there hs k) (op_there ns hs k) ≡ 0

positive : (n : ℕ) → (n ≡ 0 → ⊥) → 0 < n
positive zero h = absurd (h refl)
positive (suc n) h = omega arith

pub op_ready : (T : Table) (ns hs : List ℕ) (k place : ℕ) → test_there T ns hs k place ≡ accepted tt → Ready T ns hs k
unfolding test_there op_test not_many mark_there op_there
op_ready T ns hs k place e =
    let rest = then_rest _ _ e in
    let some = positive (32 - k) (eqb-false _ 0 (passed _ MANY place 0 (then_first _ _ e).1)) in
    let (six, two) = numbers_full (ops_past k ns) (holds_past k hs) place (then_first _ _ rest).1 in
    record {
      some = omega arith;
      six = omega (arith, length-drop (6 * k) ns);
      two = omega (arith, length-drop (2 * k) hs);
      ranges = range_passed _ place (then_rest _ _ rest);
    }

pub op_room : (T : Table) (ns hs : List ℕ) (k place : ℕ) → test_there T ns hs k place ≡ accepted tt → k < 32
op_room T ns hs k place e = (op_ready T ns hs k place e).some

-- it has the form that it is written in
pub ready_width : {T : Table} {ns hs : List ℕ} {k : ℕ} → Ready T ns hs k → 3 + op_size (mark_there hs k) ≡ op_width (op_there ns hs k)
ready_width {T} {ns} {hs} {k} x = ap (λ (b : Bool). 3 + op_size b) (own_form T (mark_there hs k) (op_there ns hs k) (op_plain ns hs k) x.ranges)

-- of a table only its length and its counts say what is wrong
test_counted : (H : Table) (ns hs : List ℕ) (k at : ℕ) → test_there (counts_of H) ns hs k at ≡ test_there H ns hs k at
unfolding test_there op_test
test_counted H ns hs k at = rw (wrong_counted H (marked_of (holds_past k hs)) (op_of_numbers (ops_past k ns) (holds_past k hs)))

-- ---- the operations, one after the other
ops_row : (T : Table) (ns hs : List ℕ) (left at : ℕ)
    → ops_of_numbers T ns hs left at
    ≡ cond (none_left ns hs) (accepted [])
    (op_test T ns hs left at then more (op_of_numbers ns hs) (ops_of_numbers T (drop 6 ns) (drop 2 hs) (left - 1) (at + 3 + op_size (marked_of hs))))
unfolding ops_of_numbers op_test not_many refuse_if ◌then◌
ops_row T ns hs zero at = refl
ops_row T ns hs (suc left) at =
    let one : suc left - 1 ≡ left = omega arith in
    rw (eqb-suc-zero left, one, then_assoc, then_assoc)

-- one operation more in front of what is accepted
onwards_more : (H : Table) (os : List Op) (o : Op) (v : Verdict (List Op))
    → onwards (more o v) (λ us. accepted (with_ops H (os ++ us))) ≡ onwards v (λ us. accepted (with_ops H ((os ++ (o ∷ [])) ++ us)))
unfolding onwards more
onwards_more H os o (accepted us) = ap (λ (l : List Op). accepted (with_ops H l)) (sym (append_assoc os (o ∷ []) us))
onwards_more H os o (refused n a b) = refl

module _ (H : Table) (os : List Op) (ns hs : List ℕ) (at : ℕ) where
  abbrev k : ℕ
  k = length os

  behind_end : none_behind ns hs k ≡ true → ops_behind H os ns hs at ≡ accepted (with_ops H os)
  unfolding ops_behind onwards none_behind
  behind_end h = rw (ops_row, h, append-nil)

  module _ (h : none_behind ns hs k ≡ false) where
    to_test : ops_of_numbers H (ops_past k ns) (holds_past k hs) (32 - k) at
        ≡ (test_there H ns hs k at
        then more (op_there ns hs k) (ops_of_numbers H (drop 6 (ops_past k ns)) (drop 2 (holds_past k hs)) (32 - k - 1) (at + 3 + op_size (mark_there hs k))))
    unfolding none_behind test_there op_there mark_there
    to_test = ops_row H (ops_past k ns) (holds_past k hs) (32 - k) at ∙ rw h

    behind_bad : {n a b : ℕ} → test_there H ns hs k at ≡ refused n a b → ops_behind H os ns hs at ≡ refused n a b
    unfolding ops_behind onwards
    behind_bad e = rw (to_test ∙ then_refuses _ e)

    behind_one : test_there H ns hs k at ≡ accepted tt
        → ops_behind H os ns hs at ≡ ops_behind H (os ++ (op_there ns hs k ∷ [])) ns hs (at + 3 + op_size (mark_there hs k))
    unfolding ops_behind
    behind_one e =
        let one = length-append os (op_there ns hs k ∷ []) in
        let six : 6 * k + 6 ≡ 6 * length (os ++ (op_there ns hs k ∷ [])) = omega (arith, one) in
        let two : 2 * k + 2 ≡ 2 * length (os ++ (op_there ns hs k ∷ [])) = omega (arith, one) in
        let less : 32 - k - 1 ≡ 32 - length (os ++ (op_there ns hs k ∷ [])) = omega (arith, one) in
        ap (λ (v : Verdict (List Op)). onwards v (λ us. accepted (with_ops H (os ++ us)))) (to_test ∙ then_accepts _ e)
        ∙ onwards_more H os (op_there ns hs k) _
        ∙ rw (less, drop-drop 6 (6 * k) ns, drop-drop 2 (2 * k) hs, six, two)

-- ---- the loop

-- what the code has after some turns: the operations so far in the table, and the verdict on the rest of the numbers still to come
pub record Taken (H : Table) (ns hs : List ℕ) (t : code.Table) (place : ℕ) : Type 0 where
  pub ops : List Op
  pub held : t ≡ table_in (with_ops H ops)
  pub few : length ops ≤ 32
  pub here : place ≡ ops_place H.modes + ops_size ops
  pub rest : handed_ops H ns hs ≡ ops_behind H ops ns hs place

module _ (H : Table) (ns hs : List ℕ) where
  pub taken_none : {t : code.Table} → t ≡ table_in (with_ops H []) → Taken H ns hs t (ops_place H.modes)
  unfolding handed_ops ops_behind
  taken_none e = record { ops = []; held = e; few = omega arith; here = omega (arith, size_none); rest = refl }

  module _ {t : code.Table} {place : ℕ} (k : Taken H ns hs t place) where
    pub taken_few : t.count ≤ 32
    taken_few = rw k.held k.few

    pub taken_small : SmallCounts H.boards H.cells H.modes → (t.count ≤ 32) × SmallCounts t.boards t.cells t.modes
    taken_small h = rw k.held (k.few, h)

    -- and the next operation would not be written far away
    pub taken_near : SmallCounts H.boards H.cells H.modes → place < 1000
    taken_near h = omega (arith, k.few, k.here, h.few_modes, size_most k.ops)

    taken_count : t.count ≡ length k.ops
    taken_count = ap (λ (v : code.Table). v.count) k.held

    -- the tests go by the length and the counts alone
    taken_test : test_there (counts_of H) ns hs t.count place ≡ test_there H ns hs (length k.ops) place
    taken_test = ap (λ (n : ℕ). test_there (counts_of H) ns hs n place) taken_count ∙ test_counted H ns hs (length k.ops) place

    taken_on : {r : Bool} → r ≡ none_behind ns hs t.count → none_behind ns hs (length k.ops) ≡ r
    taken_on e = ap (none_behind ns hs) (sym taken_count) ∙ sym e

    pub taken_end : none_behind ns hs t.count ≡ true → JudgedAs (handed_ops H ns hs) (Ok t)
    taken_end h = granted (with_ops H k.ops) (k.rest ∙ behind_end H k.ops ns hs place (taken_on (sym h))) k.held

    module _ (on : none_behind ns hs t.count ≡ false) where
      pub taken_bad : (q : Refusal) → refusal_of q ≡ test_there (counts_of H) ns hs t.count place → handed_ops H ns hs ≡ refusal_of q
      taken_bad q e =
          let (n, a, b, x, y) = refusal_is {A = Unit {0}} {B = Table} q in
          k.rest ∙ behind_bad H k.ops ns hs place (taken_on (sym on)) (sym (e ∙ taken_test) ∙ x) ∙ sym y

      pub taken_more : {u : code.Table} {width : ℕ} → test_there (counts_of H) ns hs t.count place ≡ accepted tt
          → u ≡ with_op t (op_in (op_there ns hs t.count)) → width ≡ op_width (op_there ns hs t.count) → Taken H ns hs u (place + width)
      taken_more {u} {width} e f w =
          let os = k.ops in
          let next = op_there ns hs (length os) in
          let is = op_ready _ ns hs t.count place e in
          let there : op_there ns hs t.count ≡ next = ap (op_there ns hs) taken_count in
          let form : 3 + op_size (mark_there hs (length os)) ≡ width = ap (λ (n : ℕ). 3 + op_size (mark_there hs n)) (sym taken_count) ∙ ready_width is ∙ sym w in
          let behind : place + 3 + op_size (mark_there hs (length os)) ≡ place + width = omega (arith, form) in
          record {
            ops = os ++ (next ∷ []);
            held =
                f
                ∙ ap (λ (o : Op). with_op t (op_in o)) there
                ∙ ap (λ (v : code.Table). with_op v (op_in next)) k.held
                ∙ with_op_in H os next (omega (arith, is.some, taken_count));
            few = omega (arith, length-append os (next ∷ []), is.some, taken_count);
            here = omega (arith, k.here, size_snoc os next, w, ap op_width there);
            rest =
                k.rest ∙ behind_one H os ns hs place (taken_on (sym on)) (sym taken_test ∙ e) ∙ ap (ops_behind H (os ++ (next ∷ [])) ns hs) behind;
          }
