-- What each way out of the reading says: operations one after the other behind a head that passes.
-- Assumes nothing.
use Rattle.std.specs.Prelude.{ℕ, ◌+◌, ◌-◌, ◌*◌, ◌<◌, ◌≤◌, ◌≡◌, Bool, true, false, List, [], ◌∷◌, ◌++◌, leb, Ok}
use Rattle.std.proofs.Math.Path.{refl, sym, ap}
use Rattle.std.proofs.Common.{◌∙◌, append_assoc, append-nil, leb-true, leb-false}
use native.Mathlib.Omega.{arith}
use Rattle.std.proofs.Math.ListN.{length, length-append}
use Rattle.rules.specs.Table as rules
use Rattle.rules.specs.Verdicts.{Verdict, accepted, refused, ◌then◌, onwards, more}
use Rattle.rules.specs.Bytes.{num8, held_at, op_at}
use Rattle.rules.specs.Judge.{repeat_test, head_of, with_ops, ops_place, ops_done, size_at, wrong_at, ops_from}
use Rattle.theory.proofs.Verdicts.{then_first, onwards_accepts}
use Rattle.theory.proofs.Says.{Known, holds, fails, known, clash_bool}
use Rattle.theory.proofs.Judging.{done_end}
use Rattle.theory.proofs.Bytes.{no_field}
use Rattle.fields.specs.declared.Refusal.{Refusal}
use Rattle.fields.specs.Verdicts.{refusal_of}
use Rattle.fields.specs.RefusalLaws.{onwards_refusal}
use Rattle.fields.specs.FieldLaws.{repeat_whole, from_next}
use Rattle.table.specs.declared.Op.{Op}
use Rattle.table.specs.declared.Table.{Table}
use Rattle.table.specs.Tables.{op_of, table_in, with_op, JudgedAs}
use Rattle.table.specs.TableLaws.{with_op_in}
use Rattle.table.specs.JudgedLaws.{granted}
use Rattle.ranges.specs.RangeLaws.{wrong_counted}
use Rattle.reading_ops.specs.ReadingOps.{op_verdict}
use Rattle.reading.specs.Reading.{done_at, next_verdict, ops_verdict}
use Rattle.heads.specs.HeadLaws.{HeadFits}

-- ---- operations

-- several in front of what is accepted
unfoldable pub mores : {A : Type 0} → List A → Verdict (List A) → Verdict (List A)
mores xs v = onwards v (λ ys. accepted (xs ++ ys))

module _ {A : Type 0} where
  mores_none : (v : Verdict (List A)) → mores [] v ≡ v
  unfolding mores onwards
  mores_none (accepted ys) = refl
  mores_none (refused n a b) = refl

  mores_more : (xs : List A) (x : A) (v : Verdict (List A)) → mores xs (more x v) ≡ mores (xs ++ (x ∷ [])) v
  unfolding mores onwards more
  mores_more xs x (accepted ys) = ap accepted (sym (append_assoc xs (x ∷ []) ys))
  mores_more xs x (refused n a b) = refl

module _ (T : rules.Table) (s : List ℕ) where
  ops_end_lem : (left at : ℕ) → ops_done T s at ≡ true → ops_from T s left at ≡ accepted []
  unfolding ops_from
  ops_end_lem left at = no_field (ops_done T) 4 size_at (wrong_at T) op_at s at left

  -- the operation at a place where they do not end, and those behind it
  ops_next : (left at : ℕ) → ops_done T s at ≡ false
      → ops_from T s left at ≡ onwards (op_verdict T s left at) (λ o. more o (ops_from T s (left - 1) (at + (3 + size_at s at))))
  unfolding ops_from op_verdict
  ops_next = from_next 4 size_at (wrong_at T) op_at s (ops_done T)

-- where the reading of the operations stands: these are read, the table holds them, and the rest comes from a place on
pub record SoFar (s : List ℕ) (t : Table) (at : ℕ) : Type 0 where
  pub ops : List rules.Op
  pub few : length ops ≤ 32
  pub held : t ≡ table_in (with_ops (head_of s) ops)
  pub rest : ops_from (head_of s) s 32 (ops_place (head_of s).modes) ≡ mores ops (ops_from (head_of s) s (32 - length ops) at)

-- the field at a place is whole, the table has a place for its operation, and with that the reading stands behind the field
pub record More (s : List ℕ) (t : Table) (at : ℕ) (o : Op) : Type 0 where
  pub whole : at + (3 + size_at s at) ≤ length s
  pub some : t.count < 32
  pub so : SoFar s (with_op t o) (at + (3 + size_at s at))

-- at first nothing is read
module _ (s : List ℕ) (t : Table) (e : t ≡ table_in (head_of s)) where
  head_modes : t.modes ≡ num8 s 10
  unfolding head_of
  head_modes = ap (λ (u : Table). u.modes) e

  pub first_place : ops_place t.modes ≡ ops_place (head_of s).modes
  unfolding head_of
  first_place = ap ops_place head_modes

  pub so_none : SoFar s t (ops_place t.modes)
  unfolding head_of
  so_none =
      let place = ap (λ (n : ℕ). ops_from (head_of s) s 32 (18 + 4 * n)) head_modes in
      record { ops = []; few = omega arith; held = e; rest = sym (mores_none _ ∙ place) }

-- the counts of the head are small
pub head_few : {s : List ℕ} {t : Table} → t ≡ table_in (head_of s) → HeadFits s → (t.boards ≤ 32) × (t.cells ≤ 32) × (t.modes ≤ 32)
unfolding head_of
head_few {s} {t} e fits =
    let boards : t.boards ≡ num8 s 8 = ap (λ (u : Table). u.boards) e in
    let cells : t.cells ≡ num8 s 9 = ap (λ (u : Table). u.cells) e in
    let modes : t.modes ≡ num8 s 10 = ap (λ (u : Table). u.modes) e in
    (omega arith, omega arith, omega arith)

-- where they end, by the place of the first
pub done_is : (s : List ℕ) (first at : ℕ) {r : Bool} → first ≡ ops_place (head_of s).modes → r ≡ done_at first s at → ops_done (head_of s) s at ≡ r
unfolding ops_done
done_is s first at place e = sym (e ∙ ap (λ (p : ℕ). done_at p s at) place)

-- it is not at the end of the input
pub done_inside : (s : List ℕ) (at : ℕ) → ops_done (head_of s) s at ≡ false → at < length s
done_inside s at e = go (known (leb (length s) at))
  where
    go : Known (leb (length s) at) → at < length s
    go (holds b) = clash_bool (done_end (head_of s) s at (leb-true (length s) at b)) e
    go (fails b) = leb-false (length s) at b

module _ {s : List ℕ} {t : Table} {at : ℕ} (so : SoFar s t at) where
  -- it has as many operations as there may be at most
  pub so_few : t.count ≤ 32
  so_few = let count : t.count ≡ length so.ops = ap (λ (u : Table). u.count) so.held in omega (arith, so.few)

  -- and its counts are those of the head
  pub so_fits : HeadFits s → (t.count ≤ 32) × (t.boards ≤ 32) × (t.cells ≤ 32) × (t.modes ≤ 32)
  unfolding head_of
  so_fits fits =
      let boards : t.boards ≡ num8 s 8 = ap (λ (u : Table). u.boards) so.held in
      let cells : t.cells ≡ num8 s 9 = ap (λ (u : Table). u.cells) so.held in
      let modes : t.modes ≡ num8 s 10 = ap (λ (u : Table). u.modes) so.held in
      (so_few, omega arith, omega arith, omega arith)

  -- so the next field is judged by the table as it is by the head
  so_same : {h : Table} → h ≡ table_in (head_of s) → next_verdict h t.count s at ≡ op_verdict (head_of s) s (32 - length so.ops) at
  unfolding op_verdict
  so_same {h} e =
      ap (λ (u : Table). next_verdict u t.count s at) e
      ∙ ap (λ (u : Table). next_verdict (table_in (head_of s)) u.count s at) so.held
      ∙ ap (λ (w : ℕ). repeat_test s at (32 - length so.ops) 4 (size_at s at) w then accepted (op_at s at)) (wrong_counted (head_of s) (held_at s at) (op_at s at))

  -- a field that is refused
  pub so_bad : {u : Table} → u ≡ table_in (head_of s) → (r : Refusal) → ops_done (head_of s) s at ≡ false
      → refusal_of r ≡ next_verdict u t.count s at → ops_verdict s ≡ refusal_of r
  unfolding ops_verdict mores
  so_bad head r h e =
      let next = ops_next (head_of s) s (32 - length so.ops) at h ∙ onwards_refusal r _ (sym (e ∙ so_same head)) in
      onwards_refusal r _ (so.rest ∙ onwards_refusal r _ next)

  -- one more operation
  pub so_more : {u : Table} → u ≡ table_in (head_of s) → (o : Op) → ops_done (head_of s) s at ≡ false
      → accepted (op_of o) ≡ next_verdict u t.count s at → More s t at o
  unfolding op_verdict
  so_more head o h e =
      let H = head_of s in
      let os = so.ops in
      let here = sym (e ∙ so_same head) in
      let (whole, some) = repeat_whole 4 size_at (wrong_at H) op_at s (32 - length os) at (then_first _ _ here).1 in
      let count : t.count ≡ length os = ap (λ (u : Table). u.count) so.held in
      let few : length os < 32 = omega arith in
      let longer = length-append os (op_of o ∷ []) in
      let left : 32 - length os - 1 ≡ 32 - length (os ++ (op_of o ∷ [])) = omega (arith, longer) in
      record {
        whole = omega arith;
        some = omega arith;
        so = record {
          ops = os ++ (op_of o ∷ []);
          few = omega (arith, longer);
          held = ap (λ (u : Table). with_op u o) so.held ∙ with_op_in H os (op_of o) few;
          rest =
              so.rest
              ∙ ap (mores os) (ops_next H s (32 - length os) at h ∙ onwards_accepts _ here)
              ∙ mores_more os (op_of o) _
              ∙ ap (λ (n : ℕ). mores (os ++ (op_of o ∷ [])) (ops_from H s n (at + (3 + size_at s at)))) left;
        };
      }

  -- the same where the code has found that they do not end yet, by the place of the first
  module _ {u : Table} (head : u ≡ table_in (head_of s)) {first : ℕ} {r : Bool} (place : first ≡ ops_place (head_of s).modes)
      (done : r ≡ done_at first s at) (going : r ≡ false) where
    pub at_inside : at < length s
    at_inside = done_inside s at (done_is s first at place done ∙ going)

    pub next_bad : (r : Refusal) → refusal_of r ≡ next_verdict u t.count s at → ops_verdict s ≡ refusal_of r
    next_bad r e = so_bad head r (done_is s first at place done ∙ going) e

    pub next_more : (o : Op) → accepted (op_of o) ≡ next_verdict u t.count s at → More s t at o
    next_more o e = so_more head o (done_is s first at place done ∙ going) e

  -- where they end
  pub so_end : ops_done (head_of s) s at ≡ true → JudgedAs (ops_verdict s) (Ok t)
  unfolding ops_verdict mores
  so_end h =
      let os = so.ops in
      let read = so.rest ∙ onwards_accepts _ (ops_end_lem (head_of s) s (32 - length os) at h) ∙ ap accepted (append-nil os) in
      granted (with_ops (head_of s) os) (onwards_accepts _ read) so.held
