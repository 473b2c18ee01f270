-- The modes of some operations that end between two dates: a walk over the operations, and what it comes to for the writers of a cell.
-- Assumes nothing.
use Rattle.std.specs.Prelude.{ℕ, zero, suc, ◌+◌, ◌^◌, ◌<◌, ◌≡◌, refl, Bool, true, ◌&&◌, ◌↔◌, List, [], ◌∷◌, ltb, length, get_or}
use Rattle.std.proofs.Math.Path.{sym, ap, subst⁻¹}
use Rattle.std.proofs.Common.{subst, ◌∙◌, arith}
use Rattle.std.proofs.Math.Bool.{and-true}
use Rattle.std.specs.Int.Bits.{bit_or}
use borrow.Author.Tests.{lt-ltb, le-leb}
use Rattle.rules.specs.Sets.{has, In}
use Rattle.rules.specs.Table.{Op, Table, no_op, nops, op, end_of, Accepted}
use Rattle.theory.specs.Tests.{without, step, modes_of, writers, last_in, fresh_in}
use Rattle.theory.proofs.Says.{says_itself, says_and}
use Rattle.theory.proofs.Sets.{same_members}
use Rattle.theory.proofs.Modes.{in_cond, in_step, in_modes}
use Rattle.sets.specs.Members.{walk_on, step_none}
use Rattle.columns.specs.Columns.{op_by, Columns}
use Rattle.columns.specs.ColumnLaws.{op_there_lem}
use Rattle.columns.specs.declared.Dated.{Dated}
use Rattle.cells.specs.Cells.{ends_within, modes_within, words_from, ended_in, last_of, fresh_of}

-- ---- a walk over some operations

words_at : (f : ℕ → ℕ) (n k i j : ℕ) → i < n → j ≡ k + i → get_or (words_from f k n) i 0 ≡ f j
unfolding words_from
words_at f zero k i j h e = absurd (omega arith)
words_at f (suc n) k zero j h e = let d : k ≡ j = omega arith in ap f d
words_at f (suc n) k (suc i) j h e = words_at f n (suc k) i j (omega arith) (omega arith)

module _ (cols : List Dated) (after by : ℕ) where
  abbrev words : List ℕ
  words = words_from (modes_within cols after by) 0 32

  word_at : (k : ℕ) → k < 32 → get_or words k 0 ≡ modes_within cols after by k
  word_at k h = words_at (modes_within cols after by) 32 0 k k h (omega arith)

  -- none
  pub ended_none : ended_in cols 0 after by ≡ 0
  unfolding ended_in
  ended_none = step_none words

  -- one more
  pub ended_on : (s m : ℕ) → In m s → m < 32 → (all word rest : ℕ) → word ≡ modes_within cols after by m → rest ≡ without s (2 ^ m)
      → bit_or (bit_or all word) (ended_in cols rest after by) ≡ bit_or all (ended_in cols s after by)
  unfolding ended_in
  ended_on s m here h all word rest e f = walk_on s m here words all word rest (e ∙ sym (word_at m h)) f

-- ---- what it comes to

-- the operations that write a cell and end after one date and by another
abbrev writes_within : ℕ → ℕ → ℕ → Op → Bool
writes_within c after by o = has o.writes c && ends_within after by o

-- two tests that agree on the operations have the same modes
modes_same : (f g : Op → Bool) (os : List Op) → ((i : ℕ) → i < length os → f (get_or os i no_op) ≡ g (get_or os i no_op)) → modes_of f os ≡ modes_of g os
unfolding modes_of
modes_same f g [] h = refl
modes_same f g (o ∷ os) h = rw (h 0 (omega arith), modes_same f g os (λ i l. h (suc i) (omega arith)))

-- W is the set of the operations that write c
module _ (T : Table) (ok : Accepted T) {cols : List Dated} (C : Columns T cols) (c W : ℕ)
    (here : (k : ℕ) → In k W ↔ ((k < 32) × In c (op_by cols k).writes)) where
  -- the modes in which c is written after one date and by another
  module _ (after by : ℕ) where
    abbrev test : Op → Bool
    test = writes_within c after by

    abbrev Writes : ℕ → Op → Type 0
    Writes m o = (writes_within c after by o ≡ true) × In m o.modes

    fwd : (m : ℕ) → ((k : ℕ) × In k W × In m (get_or (words cols after by) k 0)) → In m (modes_of test T.ops)
    fwd m (k, w, x) =
        let (l, y) = (here k).0 w in
        let (e, z) = (in_cond (ends_within after by (op_by cols k)) (op_by cols k).modes m).0 (rw (word_at cols after by k l) at x) in
        let b : Writes m (op T k) = subst (λ (o : Op). Writes m o) (C.each k l) ((says_and _ _ says_itself says_itself).1 (y, e), z) in
        (in_modes test T.ops m).1 (k, op_there_lem T (λ o. o.modes) refl k m b.1, b.0, b.1)

    bwd : (m : ℕ) → ((k : ℕ) × (k < nops T) × (test (op T k) ≡ true) × In m (op T k).modes) → In m (step (words cols after by) W)
    bwd m (k, l, e, x) =
        let small : k < 32 = omega (arith, ok.ops_high) in
        let (b, z) : Writes m (op_by cols k) = subst⁻¹ (λ (o : Op). Writes m o) (C.each k small) (e, x) in
        let (y, d) = (says_and (has (op_by cols k).writes c) (ends_within after by (op_by cols k)) says_itself says_itself).0 b in
        (in_step (words cols after by) W m).1
        (k, (here k).1 (small, y), rw (word_at cols after by k small) ((in_cond (ends_within after by (op_by cols k)) (op_by cols k).modes m).1 (d, z)))

    ended_modes : ended_in cols W after by ≡ modes_of test T.ops
    unfolding ended_in
    ended_modes =
        same_members _ _ (λ m. (λ h. fwd m ((in_step (words cols after by) W m).0 h), λ h. bwd m ((in_modes test T.ops m).0 h)))

  -- ---- the three sets of modes of the tests: every write ends after tick 0 and by tick 1000

  -- those in which c is written
  pub ended_writers : ended_in cols W 0 1000 ≡ writers T c
  unfolding writers
  ended_writers =
      ended_modes 0 1000
      ∙ modes_same _ _ T.ops
      (λ u l.
      rw (
        lt-ltb 0 (end_of (op T u)) (omega (arith, (ok.each u l).lasts)),
        le-leb (end_of (op T u)) 1000 (omega (arith, (ok.each u l).fits, ok.len_high)),
        and-true (has (op T u).writes c),
      ))

  -- of those of i, the ones in which it is the last to write c
  pub ended_last : (i : ℕ) → i < 32 → last_of cols W i ≡ last_in T c i
  unfolding last_of last_in
  ended_last i h =
      ap (λ (o : Op). without o.modes (ended_in cols W (end_of o) 1000)) (C.each i h)
      ∙ ap (without (op T i).modes)
      (ended_modes (end_of (op T i)) 1000
      ∙ modes_same _ _ T.ops
      (λ u l.
      rw (le-leb (end_of (op T u)) 1000 (omega (arith, (ok.each u l).fits, ok.len_high)), and-true (ltb (end_of (op T i)) (end_of (op T u))))))

  -- of those of j, the ones in which no write of c ends by its start
  pub ended_fresh : (j : ℕ) → j < 32 → fresh_of cols W j ≡ fresh_in T c j
  unfolding fresh_of fresh_in
  ended_fresh j h =
      ap (λ (o : Op). without o.modes (ended_in cols W 0 o.start)) (C.each j h)
      ∙ ap (without (op T j).modes)
      (ended_modes 0 (op T j).start
      ∙ modes_same _ _ T.ops (λ u l. rw (lt-ltb 0 (end_of (op T u)) (omega (arith, (ok.each u l).lasts)))))
