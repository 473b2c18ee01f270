-- What each way out of the reading of one operation's field says.
-- Assumes nothing.
use Rattle.std.specs.Prelude.{ℕ, ◌+◌, ◌<◌, ◌≡◌, refl, Bool, true, false, List, length, get_or}
use Rattle.std.proofs.Common.{sym, ◌∙◌, arith, ne_eqb}
use Rattle.std.proofs.Math.Path.{ap}
use Rattle.std.proofs.Math.ListN.{get_or-eq_default}
use Rattle.rules.specs.Table.{Op, Table}
use Rattle.rules.specs.Verdicts.{accepted, ◌then◌}
use Rattle.rules.specs.Bytes.{num16, num32, op_size, held_at, read_op, op_at}
use Rattle.rules.specs.Judge.{ranged, op_wrong, size_at, wrong_at}
use Rattle.theory.specs.Holds.{Plain}
use Rattle.theory.proofs.Says.{clash_bool}
use Rattle.theory.proofs.Verdicts.{then_accepts}
use Rattle.fields.specs.declared.Refusal.{Refusal}
use Rattle.fields.specs.Verdicts.{refusal_of}
use Rattle.fields.specs.RefusalLaws.{then_refusal}
use Rattle.fields.specs.Fields.{repeat_of}
use Rattle.fields.specs.FieldLaws.{repeat_split}
use Rattle.ranges.specs.Ranges.{used_at}
use Rattle.reading_ops.specs.ReadingOps.{hold_in, op_verdict}

-- ---- its form and its numbers

-- a header that is cut before the last byte of the length tells no length of a field with a hold
pub cut_plain : (s : List ℕ) (at : ℕ) → length s < at + 3 → false ≡ held_at s at
cut_plain s at h =
    let none : get_or s (at + 1 + 1) 0 ≡ 0 = get_or-eq_default s 0 {n = at + 1 + 1} (omega arith) in
    sym (ne_eqb (num16 s (at + 1)) 20 (λ e. omega (arith, none)))

-- the sets are the last 14 bytes of either form
pub sets_last : (held : Bool) → used_at held + 14 ≡ 3 + op_size held
sets_last false = refl
sets_last true = refl

-- one behind the other, from where the first begins
pub op_read : (held : Bool) (s : List ℕ) (at sets : ℕ) → sets ≡ at + used_at held
    → record {
      start = num16 s (at + 3);
      dur = num16 s (at + 5);
      hold = hold_in held s at;
      boards = num16 s sets;
      reads = num32 s (sets + 2);
      writes = num32 s (sets + 6);
      modes = num32 s (sets + 10);
    }
    ≡ read_op held s at
op_read false s at sets e =
    let r : sets + 2 ≡ at + 9 = omega arith in
    let w : sets + 6 ≡ at + 13 = omega arith in
    let m : sets + 10 ≡ at + 17 = omega arith in
    rw (r, w, m, e)
op_read true s at sets e =
    let r : sets + 2 ≡ at + 11 = omega arith in
    let w : sets + 6 ≡ at + 15 = omega arith in
    let m : sets + 10 ≡ at + 19 = omega arith in
    rw (r, w, m, e)

-- without a hold none is read
pub plain_read : (held : Bool) (s : List ℕ) (at : ℕ) {o : Op} → o ≡ read_op held s at → Plain held o
plain_read false s at e f = ap (λ (u : Op). u.hold) e
plain_read true s at e f = clash_bool refl f

-- what was judged of the numbers read is so of the operation at the place
module _ (s : List ℕ) (at : ℕ) {held : Bool} (form : held ≡ held_at s at) where
  pub form_size : {size : ℕ} → size ≡ op_size held → size ≡ size_at s at
  form_size e = e ∙ ap op_size form

  pub form_read : {o : Op} → o ≡ read_op held s at → o ≡ op_at s at
  unfolding op_at
  form_read e = e ∙ ap (λ (b : Bool). read_op b s at) form

  pub form_judged : (T : Table) {w : Op} {has : Bool} → has ≡ held → w ≡ read_op held s at → op_wrong T has w ≡ wrong_at T s at
  form_judged T {w} h r = ap (λ (b : Bool). op_wrong T b w) (h ∙ form) ∙ ap (λ (o : Op). op_wrong T (held_at s at) o) (form_read r)

-- ---- its verdict
module _ (T : Table) (s : List ℕ) (left at : ℕ) {size : ℕ} (z : size ≡ size_at s at) where
  op_split : op_verdict T s left at ≡ ((repeat_of s at left 4 size then ranged (wrong_at T s at) at) then accepted (op_at s at))
  unfolding op_verdict
  op_split = rw (repeat_split s at 4 (size_at s at) (wrong_at T s at) left, z)

  -- an operation's field is refused where its tests before the ranges refuse
  pub op_bad : (r : Refusal) → refusal_of r ≡ repeat_of s at left 4 size → refusal_of r ≡ op_verdict T s left at
  op_bad r e = sym (op_split ∙ then_refusal r _ (then_refusal r (ranged (wrong_at T s at) at) (sym e)))

  module _ (e : accepted tt ≡ repeat_of s at left 4 size) where
    op_first : (repeat_of s at left 4 size then ranged (wrong_at T s at) at) ≡ ranged (wrong_at T s at) at
    op_first = then_accepts _ (sym e)

    pub op_range : (r : Refusal) → refusal_of r ≡ ranged (wrong_at T s at) at → refusal_of r ≡ op_verdict T s left at
    op_range r e = sym (op_split ∙ then_refusal r _ (op_first ∙ sym e))

    pub op_fine : accepted tt ≡ ranged (wrong_at T s at) at → accepted (op_at s at) ≡ op_verdict T s left at
    op_fine h = sym (op_split ∙ then_accepts _ (op_first ∙ sym h))
