-- An accepted table is written again as it was read, byte for byte.
-- Assumes nothing.
use Prim.Native.Nat.{ℕ, zero, suc, ◌+◌, ◌*◌, ◌/◌, ◌%◌, ◌<◌, ◌≤◌}
use mathlib.Core.Path.{◌≡◌, refl, sym, ap, subst, ◌∙◌}
use mathlib.Core.Bool.{Bool, true, false}
use mathlib.Core.List.{List, [], ◌∷◌, ◌++◌, append_assoc, append-nil}
use native.Mathlib.Decide.{dec_lt}
use native.Mathlib.Omega.{arith}
use lib.Dec.{leb}
use lib.ListN.{length, get_or, drop, get_or-eq_default}
use lib.Seq.{drop-cons, drop-length}
use borrow.Author.Tests.{leb-true, eqb-true, not-false}
use Rattle.rules.specs.Table.{Op, Table}
use Rattle.rules.specs.Verdicts.{accepted, ORDER, SIZE}
use Rattle.rules.specs.Bytes.{num8, num16, num32, words, be16, be32, joined, op_size, op_form, settles, op_bytes, held_at, read_op, op_at, head_bytes, decider_bytes, table_bytes}
use Rattle.rules.specs.Judge.{due, sized, field_test, repeat_test, fields_from, head_of, with_ops, with_decider, ops_place, ops_size, ops_end, head_test, ops_done, size_at, wrong_at, ops_from, decider_at, decider_test, judge}
use Rattle.theory.proofs.Verdicts.{passed, then_first, then_rest}
use Rattle.theory.proofs.Judging.{field_row, repeat_row, field_passed, repeat_passed, own_form, plain_at, both, fields_all, size_none, size_more, head_row, head_ok, judge_row, decider_row, nothing_passed, parts_inside, judge_parts, whole_accepted}
use Rattle.theory.proofs.Bytes.{words_length}

module _ (s : List ℕ) (small : (i : ℕ) → i < length s → get_or s i 0 < 256) where
  -- what stands past the end is 0
  byte : (i : ℕ) → get_or s i 0 < 256
  byte i = go (dec_lt i (length s))
    where
      go : Dec (i < length s) → get_or s i 0 < 256
      go (yes h) = small i h
      go (no h) = omega (arith, get_or-eq_default s 0 {n = i} (omega arith))

  -- xs stands in s from a up to b
  record Spelt (xs : List ℕ) (a b : ℕ) : Type 0 where
    is : xs ++ drop b s ≡ drop a s

  -- what stands behind it
  infixr 40 ◌and_then◌
  ◌and_then◌ : {xs ys : List ℕ} {a b c : ℕ} → Spelt xs a b → Spelt ys b c → Spelt (xs ++ ys) a c
  ◌and_then◌ {xs} {ys} {c = c} p q = record { is = append_assoc xs ys (drop c s) ∙ ap (λ (l : List ℕ). xs ++ l) q.is ∙ p.is }

  -- nothing, up to the same place
  nil : (a b : ℕ) → b ≡ a → Spelt [] a b
  nil a b e = record { is = ap (λ (k : ℕ). drop k s) e }

  -- a number of 1, 2 and 4 bytes
  one : (a b : ℕ) → b ≡ a + 1 → b ≤ length s → Spelt (num8 s a ∷ []) a b
  one a b e h =
      let next : b ≡ suc a = omega arith in
      record { is = ap (λ (k : ℕ). num8 s a ∷ drop k s) next ∙ sym (drop-cons s a 0 (omega arith)) }

  two : (a b : ℕ) → b ≡ a + 2 → b ≤ length s → Spelt (be16 (num16 s a)) a b
  two a b e h =
      let high : num16 s a / 256 % 256 ≡ num8 s a = omega (arith, byte a, byte (a + 1)) in
      let low : num16 s a % 256 ≡ num8 s (a + 1) = omega (arith, byte a, byte (a + 1)) in
      rw (high, low) (one a (a + 1) refl (omega arith) and_then one (a + 1) b (omega arith) h)

  -- four bytes are two and two
  halves : (high low : ℕ) → low < 65536 → be32 (high * 65536 + low) ≡ be16 high ++ be16 low
  halves high low h =
      let a : (high * 65536 + low) / 16777216 % 256 ≡ high / 256 % 256 = omega arith in
      let b : (high * 65536 + low) / 65536 % 256 ≡ high % 256 = omega arith in
      let c : (high * 65536 + low) / 256 % 256 ≡ low / 256 % 256 = omega arith in
      let d : (high * 65536 + low) % 256 ≡ low % 256 = omega arith in
      rw (a, b, c, d)

  four : (a b : ℕ) → b ≡ a + 4 → b ≤ length s → Spelt (be32 (num32 s a)) a b
  four a b e h =
      rw (halves (num16 s a) (num16 s (a + 2)) (omega (arith, byte (a + 2), byte (a + 2 + 1))))
      (two a (a + 2) refl (omega arith) and_then two (a + 2) b (omega arith) h)

  -- the followers' words
  words_spelt : (m a b : ℕ) → b ≡ a + 4 * m → b ≤ length s → Spelt (joined be32 (words s a m)) a b
  unfolding words joined
  words_spelt zero a b e h = nil a b (omega arith)
  words_spelt (suc m) a b e h = four a (a + 4) refl (omega arith) and_then words_spelt m (a + 4) b (omega arith) h

  -- ---- a field that passes

  -- it has its tag and its length, and is whole
  record Header (at tag size : ℕ) : Type 0 where
    tag_is : num8 s at ≡ tag
    size_is : num16 s (at + 1) ≡ size
    whole : at + 3 + size ≤ length s

  -- what the tests of the tag and of the length leave
  due_passed : (at tag : ℕ) → due s at tag ≡ accepted tt → num8 s at ≡ tag
  unfolding due
  due_passed at tag e = eqb-true (num8 s at) tag (not-false _ (passed _ ORDER at 0 e))

  sized_passed : (at size : ℕ) → sized s at size ≡ accepted tt → num16 s (at + 1) ≡ size
  unfolding sized
  sized_passed at size e = eqb-true (num16 s (at + 1)) size (not-false _ (passed _ SIZE at 0 e))

  field_header : (at tag size wrong : ℕ) → field_test s at tag size wrong ≡ accepted tt → Header at tag size
  field_header at tag size wrong e =
      let e2 = then_rest _ _ (then_rest _ _ (sym (field_row s at tag size wrong) ∙ e)) in
      record {
        tag_is = due_passed at tag (then_first _ _ e2).1;
        size_is = sized_passed at size (then_first _ _ (then_rest _ _ e2)).1;
        whole = (field_passed s at tag size wrong e).0;
      }

  repeat_header : (at left tag size wrong : ℕ) → repeat_test s at left tag size wrong ≡ accepted tt → Header at tag size
  repeat_header at left tag size wrong e =
      let e1 = then_rest _ _ (sym (repeat_row s at tag size wrong left) ∙ e) in
      record {
        tag_is = due_passed at tag (then_first _ _ e1).1;
        size_is = sized_passed at size (then_first _ _ (then_rest _ _ (then_rest _ _ e1))).1;
        whole = (repeat_passed s at tag size wrong left e).1;
      }

  -- so its header is written again, and an operation's field is
  header_spelt : (at tag size b : ℕ) → Header at tag size → b ≡ at + 3 → Spelt (tag ∷ be16 size) at b
  header_spelt at tag size b h e =
      rw (h.tag_is, h.size_is) at (one at (at + 1) refl (omega arith) and_then two (at + 1) b (omega arith) (omega arith))

  form_spelt : (held : Bool) (at b : ℕ) → Header at 4 (op_size held) → b ≡ at + 3 + op_size held → Spelt (op_form held (read_op held s at)) at b
  form_spelt false at b h e =
      header_spelt at 4 18 (at + 3) h refl
      and_then two (at + 3) (at + 5) (omega arith) (omega arith)
      and_then two (at + 5) (at + 7) (omega arith) (omega arith)
      and_then two (at + 7) (at + 9) (omega arith) (omega arith)
      and_then four (at + 9) (at + 13) (omega arith) (omega arith)
      and_then four (at + 13) (at + 17) (omega arith) (omega arith)
      and_then four (at + 17) b (omega arith) (omega arith)
  form_spelt true at b h e =
      header_spelt at 4 20 (at + 3) h refl
      and_then two (at + 3) (at + 5) (omega arith) (omega arith)
      and_then two (at + 5) (at + 7) (omega arith) (omega arith)
      and_then two (at + 7) (at + 9) (omega arith) (omega arith)
      and_then two (at + 9) (at + 11) (omega arith) (omega arith)
      and_then four (at + 11) (at + 15) (omega arith) (omega arith)
      and_then four (at + 15) (at + 19) (omega arith) (omega arith)
      and_then four (at + 19) b (omega arith) (omega arith)

  -- an operation that passes is written in the form that it was read in: a hold of 0 does not pass
  op_spelt : (at b : ℕ) → held_at s at ≡ settles (op_at s at) → Header at 4 (size_at s at) → b ≡ at + 3 + size_at s at → Spelt (op_bytes (op_at s at)) at b
  unfolding op_bytes op_at
  op_spelt at b form h e =
      subst (λ (held : Bool). Spelt (op_form held (read_op (held_at s at) s at)) at b) form (form_spelt (held_at s at) at b h e)

  -- the operations stand one after the other, up to where they end
  ops_spelt : (H : Table) (left at : ℕ) (os : List Op) → fields_from (ops_done H) 4 size_at (wrong_at H) op_at s left at ≡ accepted os
      → (b : ℕ) → b ≡ at + ops_size os → Spelt (joined op_bytes os) at b
  unfolding joined
  ops_spelt H =
      fields_all (ops_done H) 4 size_at (wrong_at H) op_at s (λ left at os. (b : ℕ) → b ≡ at + ops_size os → Spelt (joined op_bytes os) at b)
      (λ left at _ b e. nil at b (omega (arith, size_none)))
      (λ left at os come rest b e.
      let form = own_form H (held_at s at) (op_at s at) (plain_at s at) (repeat_passed s at 4 (size_at s at) _ (suc left) come).2 in
      op_spelt at (at + 3 + size_at s at) form (repeat_header at (suc left) 4 (size_at s at) _ come) refl
      and_then rest b (omega (arith, size_more (op_at s at) os, ap op_size form)))

  -- and behind them who decides, up to the end
  decider_spelt : (at n : ℕ) → decider_test s at n ≡ accepted tt → at ≤ length s → Spelt (decider_bytes (decider_at s at)) at (length s)
  decider_spelt at n e inside =
      both (leb (length s) at) (sym (decider_row s at n) ∙ e)
      (λ b _. let h = leb-true (length s) at b in rw b (nil at (length s) (omega arith)))
      (λ b x.
      let h = field_header at 5 1 _ (then_first _ _ x).1 in
      let last = nothing_passed s (at + 4) (then_rest _ _ x) in
      rw b (header_spelt at 5 1 (at + 3) h refl and_then one (at + 3) (length s) (omega arith) (omega arith)))

  -- the three fields before the operations pass
  heads : head_test s ≡ accepted tt → Header 0 1 2 × Header 5 2 3 × Header 11 3 (4 + 4 * (head_of s).modes)
  heads e =
      let f0 = sym (head_row s) ∙ e in
      let f1 = then_rest _ _ f0 in
      let f2 = then_rest _ _ f1 in
      (field_header 0 1 2 _ (then_first _ _ f0).1, field_header 5 2 3 _ (then_first _ _ f1).1, field_header 11 3 _ _ (then_first _ _ f2).1)

  -- a head that passes is written again
  head_spelt : head_test s ≡ accepted tt → Spelt (head_bytes (head_of s)) 0 (ops_place (head_of s).modes)
  unfolding head_of
  head_spelt e =
      let (h1, h2, h3) = heads e in
      let m = num8 s 10 in
      let value = be32 (num32 s 14) ++ joined be32 (words s 18 m) in
      let size : length value ≡ 4 + 4 * m = omega (arith, words_length (words s 18 m), (head_ok s e).0.words) in
      let h3' : Header 11 3 (length value) = subst (λ (n : ℕ). Header 11 3 n) (sym size) h3 in
      header_spelt 0 1 2 3 h1 refl
      and_then two 3 5 refl (omega arith)
      and_then header_spelt 5 2 3 8 h2 refl
      and_then one 8 9 refl (omega arith)
      and_then one 9 10 refl (omega arith)
      and_then one 10 11 refl (omega arith)
      and_then header_spelt 11 3 (length value) 14 h3' refl
      and_then four 14 18 refl (omega arith)
      and_then words_spelt m 18 (18 + 4 * m) refl (omega arith)

  -- read, then written
  pub read_written : (T : Table) → judge s ≡ accepted T → table_bytes T ≡ s
  unfolding table_bytes ops_from
  read_written T e =
      let p = judge_parts s T e in
      let passes = (then_first _ _ (sym (judge_row s) ∙ e)).1 in
      let U = with_ops (head_of s) p.ops in
      let all : Spelt (table_bytes (with_decider U (decider_at s (ops_end U)))) 0 (length s) =
      head_spelt passes
      and_then ops_spelt (head_of s) 32 (ops_place (head_of s).modes) p.ops p.come (ops_end U) refl
      and_then decider_spelt (ops_end U) _ p.decider (parts_inside s T p)
      in
      rw (← (whole_accepted _ T p.whole).0)
      (sym (append-nil (table_bytes (with_decider U (decider_at s (ops_end U)))))
      ∙ ap (λ (l : List ℕ). table_bytes (with_decider U (decider_at s (ops_end U))) ++ l) (sym (drop-length s))
      ∙ all.is)
