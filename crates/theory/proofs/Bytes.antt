-- What is written is read back: numbers, operations, and fields one after the other; and how long the bytes are.
-- Assumes nothing.
use Prim.Native.Nat.{ℕ, zero, suc, ◌+◌, ◌*◌, ◌/◌, ◌%◌, ◌^◌, ◌<◌, ◌≤◌}
use mathlib.Core.Path.{◌≡◌, refl, sym, ap, ◌∙◌}
use mathlib.Core.Bool.{Bool, true, false, not, cond}
use mathlib.Core.List.{List, [], ◌∷◌, ◌++◌, append_assoc}
use native.Mathlib.Nat.{div-div-eq-div-mul}
use native.Mathlib.Omega.{arith}
use lib.Dec.{leb, eqb, eqb-suc-zero}
use lib.ListN.{length, get_or, length-append, length-map}
use lib.Seq.{get_or-append-add}
use borrow.Author.Tests.{le-leb, lt-leb, le-ltb, lt-ltb, eq-eqb, ne_eqb}
use Rattle.rules.specs.Table.{Op, Decider, nobody, decides, Table, nops}
use Rattle.rules.specs.Rows.{Reply, reply_of}
use Rattle.rules.specs.Verdicts.{Verdict, accepted, refused, SHORT, ORDER, SIZE, MANY, Test, ◌then◌, more}
use Rattle.rules.specs.Bytes.{num8, num16, num32, words, be32, joined, op_size, op_form, op_bytes, head_bytes, decider_bytes, held_at, read_op, op_at, table_bytes, row_bytes, reply_bytes}
use Rattle.rules.specs.Judge.{not_many, sized, complete, ranged, field_test, repeat_test, at_end, fields_from, decider_wrong, ops_size, nothing_due, decider_at, decider_test}
use Rattle.theory.specs.Holds.{Plain}
use Rattle.theory.specs.Numbers.{OpFits}
use Rattle.theory.proofs.Ranges.{ranged_yes, decider_none}
use Rattle.theory.proofs.Verdicts.{passes, refuses, then_accepts, then_refuses, then_none, more_accepts}
use Rattle.theory.proofs.Judging.{decider_row, nothing_row}

-- ---- numbers in bytes

-- the two low bytes of a number hold its remainder by 65536
two_low : (x : ℕ) → x / 256 % 256 * 256 + x % 256 ≡ x % 65536
two_low x = omega arith

-- a number is the number in its two or four bytes
pub two_bytes : (x : ℕ) → x < 65536 → x / 256 % 256 * 256 + x % 256 ≡ x
two_bytes x h = omega (arith, two_low x)

pub four_bytes : (x : ℕ) → x < 2 ^ 32 → (x / 16777216 % 256 * 256 + x / 65536 % 256) * 65536 + (x / 256 % 256 * 256 + x % 256) ≡ x
four_bytes x h =
    let high : x / 16777216 % 256 * 256 + x / 65536 % 256 ≡ x / 65536 =
    rw (← div-div-eq-div-mul x 65536 256) (two_bytes (x / 65536) (omega arith))
    in
    omega (arith, two_low x)

-- what stands behind some bytes is read past their length
pub past8 : (pre s : List ℕ) (n k : ℕ) → n ≡ length pre + k → num8 (pre ++ s) n ≡ num8 s k
past8 pre s n k e = rw e (get_or-append-add pre s k 0)

pub past16 : (pre s : List ℕ) (n k : ℕ) → n ≡ length pre + k → num16 (pre ++ s) n ≡ num16 s k
past16 pre s n k e = cc (past8 pre s n k e, past8 pre s (n + 1) (k + 1) (omega arith))

past32 : (pre s : List ℕ) (n k : ℕ) → n ≡ length pre + k → num32 (pre ++ s) n ≡ num32 s k
past32 pre s n k e = cc (past16 pre s n k e, past16 pre s (n + 2) (k + 2) (omega arith))

-- what is written at a place is read there
module _ (pre post : List ℕ) (n : ℕ) (place : n ≡ length pre) where
  num32_back : (x : ℕ) → x < 2 ^ 32 → num32 (pre ++ (be32 x ++ post)) n ≡ x
  num32_back x h = past32 pre (be32 x ++ post) n 0 (omega arith) ∙ four_bytes x h

  -- an operation of either form, its form first
  pub form_back : (held : Bool) (o : Op) → held_at (pre ++ (op_form held o ++ post)) n ≡ held
  form_back false o = ap (λ (x : ℕ). eqb x 20) (past16 pre (op_form false o ++ post) (n + 1) 1 (omega arith))
  form_back true o = ap (λ (x : ℕ). eqb x 20) (past16 pre (op_form true o ++ post) (n + 1) 1 (omega arith))

  numbers_back : (held : Bool) (o : Op) → OpFits o → Plain held o → read_op held (pre ++ (op_form held o ++ post)) n ≡ o
  numbers_back false o h plain =
      let s = op_form false o ++ post in
      let start = past16 pre s (n + 3) 3 (omega arith) ∙ two_bytes o.start h.start in
      let dur = past16 pre s (n + 5) 5 (omega arith) ∙ two_bytes o.dur h.dur in
      let hold : 0 ≡ o.hold = sym (plain refl) in
      let boards = past16 pre s (n + 7) 7 (omega arith) ∙ two_bytes o.boards h.boards in
      let reads = past32 pre s (n + 9) 9 (omega arith) ∙ four_bytes o.reads h.reads in
      let writes = past32 pre s (n + 13) 13 (omega arith) ∙ four_bytes o.writes h.writes in
      let modes = past32 pre s (n + 17) 17 (omega arith) ∙ four_bytes o.modes h.modes in
      λ i. record { start = start i; dur = dur i; hold = hold i; boards = boards i; reads = reads i; writes = writes i; modes = modes i }
  numbers_back true o h plain =
      let s = op_form true o ++ post in
      let start = past16 pre s (n + 3) 3 (omega arith) ∙ two_bytes o.start h.start in
      let dur = past16 pre s (n + 5) 5 (omega arith) ∙ two_bytes o.dur h.dur in
      let hold = past16 pre s (n + 7) 7 (omega arith) ∙ two_bytes o.hold h.hold in
      let boards = past16 pre s (n + 9) 9 (omega arith) ∙ two_bytes o.boards h.boards in
      let reads = past32 pre s (n + 11) 11 (omega arith) ∙ four_bytes o.reads h.reads in
      let writes = past32 pre s (n + 15) 15 (omega arith) ∙ four_bytes o.writes h.writes in
      let modes = past32 pre s (n + 19) 19 (omega arith) ∙ four_bytes o.modes h.modes in
      λ i. record { start = start i; dur = dur i; hold = hold i; boards = boards i; reads = reads i; writes = writes i; modes = modes i }

  pub op_back : (held : Bool) (o : Op) → OpFits o → Plain held o → op_at (pre ++ (op_form held o ++ post)) n ≡ o
  unfolding op_at
  op_back held o h plain = ap (λ (b : Bool). read_op b (pre ++ (op_form held o ++ post)) n) (form_back held o) ∙ numbers_back held o h plain

pub words_back : (ws pre post : List ℕ) (n : ℕ) → n ≡ length pre → ((a : ℕ) → a < length ws → get_or ws a 0 < 2 ^ 32)
    → words (pre ++ (joined be32 ws ++ post)) n (length ws) ≡ ws
unfolding words joined
words_back [] pre post n place h = refl
words_back (w ∷ ws) pre post n place h =
    let first = num32_back pre (joined be32 ws ++ post) n place w (h 0 (omega arith)) in
    let rest = words_back ws (pre ++ be32 w) post (n + 4) (omega (arith, length-append pre (be32 w))) (λ a b. h (suc a) (omega arith)) in
    cc (first, rw append_assoc at rest)

-- ---- lengths

-- parts of one width
pub joined_length : {A : Type 0} (f : A → List ℕ) (w : ℕ) → ((x : A) → length (f x) ≡ w) → (xs : List A)
    → length (joined f xs) ≡ w * length xs
unfolding joined
joined_length f w h [] = omega arith
joined_length f w h (x ∷ xs) = omega (arith, length-append (f x) (joined f xs), h x, joined_length f w h xs)

pub words_length : (ws : List ℕ) → length (joined be32 ws) ≡ 4 * length ws
words_length = joined_length be32 4 (λ x. refl)

pub head_length : (T : Table) → length (head_bytes T) ≡ 18 + 4 * length T.follow
head_length T = omega (arith, words_length T.follow)

pub table_length : (T : Table)
    → length (table_bytes T) ≡ 18 + 4 * length T.follow + ops_size T.ops + length (decider_bytes T.decider)
unfolding table_bytes ops_size
table_length T =
    omega (
      arith,
      length-append (head_bytes T) (joined op_bytes T.ops ++ decider_bytes T.decider),
      length-append (joined op_bytes T.ops) (decider_bytes T.decider),
      head_length T,
    )

pub reply_length : (R : Reply) → length (reply_bytes R) ≡ 5 + 7 * length R.rows
unfolding reply_bytes
reply_length R = omega (arith, joined_length row_bytes 7 (λ r. refl) R.rows)

-- "A reply has 5 + 7·operations bytes."
pub reply_size : (T : Table) (q : ℕ) → length (reply_bytes (reply_of T q)) ≡ 5 + 7 * nops T
unfolding reply_of
reply_size T q = reply_length (reply_of T q) ∙ rw (length-map T.ops _)

-- ---- a field that is there

module _ (s : List ℕ) (at tag size wrong : ℕ) (t : num8 s at ≡ tag) where
  -- one of another length
  pub field_size : at + 3 ≤ length s → (num16 s (at + 1) ≡ size → ⊥) → field_test s at tag size wrong ≡ refused SIZE at 0
  unfolding field_test
  field_size h n =
      simp (
        lt-leb (length s) at (omega arith),
        le-ltb (length s) (at + 3) h,
        eq-eqb (num8 s at) tag t,
        ne_eqb (num16 s (at + 1)) size n,
      )

  -- of a whole one the range is left to test
  module _ (h : at + 3 + size ≤ length s) (z : num16 s (at + 1) ≡ size) where
    pub field_whole : field_test s at tag size wrong ≡ ranged wrong at
    unfolding field_test
    field_whole =
        simp (
          lt-leb (length s) at (omega arith),
          le-ltb (length s) (at + 3) (omega arith),
          eq-eqb (num8 s at) tag t,
          eq-eqb (num16 s (at + 1)) size z,
          le-ltb (length s) (at + 3 + size) h,
        )

    repeat_whole : (left : ℕ) → repeat_test s at left tag size wrong ≡ (not_many at left then ranged wrong at)
    unfolding repeat_test
    repeat_whole left =
        simp (
          le-ltb (length s) (at + 3) (omega arith),
          eq-eqb (num8 s at) tag t,
          eq-eqb (num16 s (at + 1)) size z,
          le-ltb (length s) (at + 3 + size) h,
        )

-- one more may come, and none
pub spare : (at left : ℕ) → not_many at (suc left) ≡ accepted tt
unfolding not_many
spare at left = passes _ _ _ _ (eqb-suc-zero left)

pub no_more : (at : ℕ) → not_many at 0 ≡ refused MANY at 0
unfolding not_many
no_more at = refuses _ _ _ _ refl

-- of a header alone the count is tested, and then the length of the value, which is short of it
module _ (s : List ℕ) (at tag size wrong : ℕ) (t : num8 s at ≡ tag) (h : at + 3 ≤ length s) where
  pub repeat_cut : (left : ℕ) → repeat_test s at left tag size wrong ≡ (not_many at left then sized s at size then complete s at size then ranged wrong at)
  unfolding repeat_test
  repeat_cut left = simp (le-ltb (length s) (at + 3) h, eq-eqb (num8 s at) tag t)

pub value_cut : (s : List ℕ) (at size wrong : ℕ) → num16 s (at + 1) ≡ size → length s < at + 3 + size
    → (sized s at size then complete s at size then ranged wrong at) ≡ refused SHORT at 0
unfolding sized complete
value_cut s at size wrong z h =
    then_accepts _ (passes _ SIZE at 0 (ap not (eq-eqb (num16 s (at + 1)) size z))) ∙ then_refuses _ (refuses _ SHORT at 0 (lt-ltb (length s) (at + 3 + size) h))

-- ---- repeated fields

-- the verdict on repeated fields by what is written in them, when `left` more may come and the next is at a place
unfoldable pub fields_of : {A : Type 0} → (A → ℕ) → (A → ℕ) → List A → ℕ → ℕ → Verdict (List A)
unfolding ranged more ◌then◌
fields_of size wrong [] left at = accepted []
fields_of size wrong (x ∷ xs) zero at = refused MANY at 0
fields_of size wrong (x ∷ xs) (suc left) at = ranged (wrong x) at then more x (fields_of size wrong xs left (at + 3 + size x))

-- those in their ranges are accepted, if they are not too many
pub fields_accepted : {A : Type 0} (d : A) (size wrong : A → ℕ) (xs : List A) (left at : ℕ) → length xs ≤ left
    → ((i : ℕ) → i < length xs → wrong (get_or xs i d) ≡ 0) → fields_of size wrong xs left at ≡ accepted xs
unfolding fields_of
fields_accepted d size wrong [] left at few h = refl
fields_accepted d size wrong (x ∷ xs) zero at few h = absurd (omega arith)
fields_accepted d size wrong (x ∷ xs) (suc left) at few h =
    then_accepts _ (ranged_yes (wrong x) at (h 0 (omega arith)))
    ∙ more_accepts x (fields_accepted d size wrong xs left (at + 3 + size x) (omega arith) (λ i b. h (suc i) (omega arith)))

module _ {A : Type 0} (ends : List ℕ → ℕ → Bool) (tag : ℕ) (size wrong : List ℕ → ℕ → ℕ) (value : List ℕ → ℕ → A) (s : List ℕ) (at : ℕ) where
  -- none where they end
  pub no_field : (left : ℕ) → ends s at ≡ true → fields_from ends tag size wrong value s left at ≡ accepted []
  unfolding fields_from
  no_field zero h = rw h
  no_field (suc left) h = rw h

  -- one whole field, where no more may come and where one may
  module _ (on : ends s at ≡ false) (t : num8 s at ≡ tag) (h : at + 3 + size s at ≤ length s) (z : num16 s (at + 1) ≡ size s at) where
    pub field_many : fields_from ends tag size wrong value s 0 at ≡ refused MANY at 0
    unfolding fields_from
    field_many = simp (on, repeat_whole s at tag (size s at) (wrong s at) t h z 0)

    pub field_more : (left : ℕ)
        → fields_from ends tag size wrong value s (suc left) at
        ≡ (ranged (wrong s at) at then more (value s at) (fields_from ends tag size wrong value s left (at + 3 + size s at)))
    unfolding fields_from
    field_more left =
        simp (on, repeat_whole s at tag (size s at) (wrong s at) t h z (suc left) ∙ then_accepts _ (spare at left))

  -- a field with another tag
  pub field_order : (left : ℕ) → ends s at ≡ false → at + 3 ≤ length s → (num8 s at ≡ tag → ⊥) → fields_from ends tag size wrong value s (suc left) at ≡ refused ORDER at 0
  unfolding fields_from repeat_test
  field_order left on h n = simp (on, le-ltb (length s) (at + 3) h, ne_eqb (num8 s at) tag n)

-- ---- the decider's field, written behind some bytes

module _ (pre : List ℕ) (at n : ℕ) (place : at ≡ length pre) where
  -- where nobody decides the input ends
  no_decider : leb (length (pre ++ [])) at ≡ true
  no_decider = le-leb (length (pre ++ [])) at (omega (arith, length-append pre []))

  a_decider : (d : ℕ) → leb (length (pre ++ (5 ∷ 0 ∷ 1 ∷ d ∷ []))) at ≡ false
  a_decider d = lt-leb (length (pre ++ (5 ∷ 0 ∷ 1 ∷ d ∷ []))) at (omega (arith, length-append pre (5 ∷ 0 ∷ 1 ∷ d ∷ [])))

  -- who decides is read back
  pub decider_back : (who : Decider) → decider_at (pre ++ decider_bytes who) at ≡ who
  decider_back nobody = rw no_decider
  decider_back (decides d) = rw (a_decider d) (ap decides (past8 pre (5 ∷ 0 ∷ 1 ∷ d ∷ []) (at + 3) 3 (omega arith)))

  -- and the range is left to test
  pub decider_tested : (who : Decider) → decider_test (pre ++ decider_bytes who) at n ≡ ranged (decider_wrong n who) at
  decider_tested nobody =
      decider_row (pre ++ []) at n ∙ rw no_decider (sym (ranged_yes _ at (decider_none n)))
  decider_tested (decides d) =
      let s = pre ++ (5 ∷ 0 ∷ 1 ∷ d ∷ []) in
      let long = length-append pre (5 ∷ 0 ∷ 1 ∷ d ∷ []) in
      let wrong = decider_wrong n (decider_at s at) in
      let field : field_test s at 5 1 wrong ≡ ranged wrong at =
      field_whole s at 5 1 wrong (past8 pre (5 ∷ 0 ∷ 1 ∷ d ∷ []) at 0 (omega arith)) (omega arith) (past16 pre (5 ∷ 0 ∷ 1 ∷ d ∷ []) (at + 1) 1 (omega arith))
      in
      let none : nothing_due s (at + 4) ≡ accepted tt = nothing_row s (at + 4) ∙ rw (le-leb (length s) (at + 4) (omega arith)) in
      decider_row s at n
      ∙ ap (λ (b : Bool). cond b (accepted tt) (field_test s at 5 1 wrong then nothing_due s (at + 4))) (a_decider d)
      ∙ ap (λ (v : Test). v then nothing_due s (at + 4)) field
      ∙ then_none (ranged wrong at) none
      ∙ ap (λ (x : Decider). ranged (decider_wrong n x) at) (decider_back (decides d))

-- how something is written in a field: with its tag, with its length, and so that it is read back where it fits
pub record Repeated {A : Type 0} (tag size : ℕ) (value : List ℕ → ℕ → A) (bytes : A → List ℕ) (Fits : A → Type 0) : Type 0 where
  pub width : (x : A) → length (bytes x) ≡ 3 + size
  pub tagged : (x : A) (post : List ℕ) → num8 (bytes x ++ post) 0 ≡ tag
  pub sized : (x : A) (post : List ℕ) → num16 (bytes x ++ post) 1 ≡ size
  pub back : (x : A) → Fits x → (pre post : List ℕ) (n : ℕ) → n ≡ length pre → value (pre ++ (bytes x ++ post)) n ≡ x

module _ {A : Type 0} {tag size : ℕ} {value : List ℕ → ℕ → A} {bytes : A → List ℕ} {Fits : A → Type 0}
    (is : Repeated tag size value bytes Fits) where
  -- such a field behind some bytes
  module _ (x : A) (pre post : List ℕ) (n : ℕ) (place : n ≡ length pre) where
    pub first_tag : num8 (pre ++ (bytes x ++ post)) n ≡ tag
    first_tag = past8 pre (bytes x ++ post) n 0 (omega arith) ∙ is.tagged x post

    pub first_whole : n + 3 + size ≤ length (pre ++ (bytes x ++ post))
    first_whole = omega (arith, length-append pre (bytes x ++ post), length-append (bytes x) post, is.width x)

    pub first_there : leb (length (pre ++ (bytes x ++ post))) n ≡ false
    first_there = lt-leb (length (pre ++ (bytes x ++ post))) n (omega (arith, first_whole))

    pub first_size : num16 (pre ++ (bytes x ++ post)) (n + 1) ≡ size
    first_size = past16 pre (bytes x ++ post) (n + 1) 1 (omega arith) ∙ is.sized x post

  -- fields that are written one after the other are judged by what is written in them
  pub fields_back : (d : A) (wrong : A → ℕ) (xs : List A) (pre : List ℕ) (left n : ℕ) → n ≡ length pre
      → ((i : ℕ) → i < length xs → Fits (get_or xs i d))
      → fields_from at_end tag (λ s at. size) (λ s at. wrong (value s at)) value (pre ++ joined bytes xs) left n ≡ fields_of (λ x. size) wrong xs left n
  unfolding joined fields_of
  fields_back d wrong [] pre left n place h =
      no_field at_end tag _ _ value (pre ++ []) n left (le-leb (length (pre ++ [])) n (omega (arith, length-append pre [])))
  fields_back d wrong (x ∷ xs) pre zero n place h =
      let rest = joined bytes xs in
      field_many at_end tag (λ s at. size) (λ s at. wrong (value s at)) value _ n (first_there x pre rest n place) (first_tag x pre rest n place) (first_whole x pre rest n place)
      (first_size x pre rest n place)
  fields_back d wrong (x ∷ xs) pre (suc left) n place h =
      let rest = joined bytes xs in
      let first = is.back x (h 0 (omega arith)) pre rest n place in
      let place' : n + 3 + size ≡ length (pre ++ bytes x) = omega (arith, length-append pre (bytes x), is.width x) in
      let more = fields_back d wrong xs (pre ++ bytes x) left (n + 3 + size) place' (λ i b. h (suc i) (omega arith)) in
      field_more at_end tag (λ s at. size) (λ s at. wrong (value s at)) value _ n (first_there x pre rest n place) (first_tag x pre rest n place) (first_whole x pre rest n place)
      (first_size x pre rest n place) left
      ∙ rw (first, ← append_assoc, more)

-- an operation, in either form
pub op_repeated : (held : Bool) → Repeated 4 (op_size held) op_at (op_form held) (λ o. OpFits o × Plain held o)
op_repeated false =
    record {
      width = λ o. refl;
      tagged = λ o post. refl;
      sized = λ o post. refl;
      back = λ o h pre post n place. op_back pre post n place false o h.0 h.1;
    }
op_repeated true =
    record {
      width = λ o. refl;
      tagged = λ o post. refl;
      sized = λ o post. refl;
      back = λ o h pre post n place. op_back pre post n place true o h.0 h.1;
    }
