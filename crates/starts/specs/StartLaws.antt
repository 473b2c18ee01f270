-- The steps of reading a reply and of writing its starts.
-- Assumes nothing.
use Rattle.std.specs.Prelude.{ℕ, ◌+◌, ◌-◌, ◌*◌, ◌/◌, ◌<◌, ◌≤◌, ◌≡◌, get_or}
use Rattle.std.proofs.Math.Path.{refl, sym, ap}
use Rattle.std.proofs.Common.{◌∙◌, arith, le-leb}
use mathlib.Core.List.{List, ◌++◌}
use Rattle.std.proofs.Math.ListN.{length, take, drop, length-map, get_or-map}
use Rattle.std.proofs.Math.Seq.{take_all}
use Rattle.rules.specs.Rows.{Ticks, Row, Reply, ticks, unfold_at, starts_of}
use Rattle.rules.specs.Verdicts.{Verdict, accepted, refused, ORDER, ROOM, Test, ◌then◌, onwards, more}
use Rattle.rules.specs.Bytes.{num16, be16, joined, row_at, starts_bytes}
use Rattle.std.proofs.lemmas.Bool.{lt-leb}
use Rattle.rules.specs.Judge.{needed, repeat_test, at_end, row_wrong, rows_from, judge_reply}
use Rattle.rules.specs.Answers.{Written, written, bytes_of, IsUnfold}
use Rattle.theory.proofs.Verdicts.{then_accepts, then_refuses, onwards_accepts, onwards_first}
use Rattle.theory.proofs.Replies.{ReplyIn, reply_row, reply_in}
use Rattle.theory.proofs.Bytes.{joined_length, no_field}
use Rattle.theory.proofs.Answering.{put_room, put_short}
use Rattle.fields.specs.declared.Refusal.{Refusal}
use Rattle.fields.specs.Verdicts.{refusal_of, leaving}
use Rattle.fields.specs.RefusalLaws.{refusal_is, then_refusal, onwards_refusal, heard_refusal}
use Rattle.fields.specs.FieldLaws.{needed_no, needed_yes}
use Rattle.heads.specs.Heads.{len_test}
use Rattle.fields.specs.FieldLaws.{repeat_whole, from_next}
use Rattle.puts.specs.Puts.{stored}
use Rattle.puts.specs.PutLaws.{stored_turn, stored_front}
use Rattle.starts.specs.Starts.{heard, Unfolds, StartsStored}

-- ---- rows one after the other

-- what is heard of the rest is heard of the whole, with one in front
heard_more : {A : Type 0} (x : A) (v : Verdict (List A)) → heard (more x v) ≡ heard v
unfolding heard more onwards
heard_more x (accepted xs) = refl
heard_more x (refused n a b) = refl

-- a row's value has four bytes; which of its numbers is wrong first
abbrev row_size : List ℕ → ℕ → ℕ
row_size s at = 4

abbrev rows_wrong : Ticks → List ℕ → ℕ → ℕ
rows_wrong q s at = row_wrong q (row_at s at)

module _ (q : Ticks) (s : List ℕ) (left at : ℕ) where
  abbrev here : Test
  here = repeat_test s at left 18 4 (row_wrong q (row_at s at))

  pub rows_end : length s ≤ at → accepted tt ≡ heard (rows_from q s left at)
  unfolding heard rows_from onwards
  rows_end h = sym (ap heard (no_field at_end 18 row_size (rows_wrong q) row_at s at left (le-leb (length s) at h)))

  pub rows_bad : (r : Refusal) → at < length s → refusal_of r ≡ here → refusal_of r ≡ heard (rows_from q s left at)
  unfolding heard rows_from
  rows_bad r h e =
      sym (onwards_refusal r _ (from_next 18 row_size (rows_wrong q) row_at s at_end left at (lt-leb (length s) at h) ∙ onwards_refusal r _ (then_refusal r (accepted (row_at s at)) (sym e))))

  pub rows_more : at < length s → accepted tt ≡ here
      → (at + 7 ≤ length s) × (left ≡ 0 → ⊥) × (heard (rows_from q s left at) ≡ heard (rows_from q s (left - 1) (at + 7)))
  unfolding rows_from
  rows_more h e =
      let whole = repeat_whole 18 row_size (rows_wrong q) row_at s left at (sym e) in (
        omega (arith, whole.0),
        whole.1,
        ap heard (from_next 18 row_size (rows_wrong q) row_at s at_end left at (lt-leb (length s) at h) ∙ onwards_accepts _ (then_accepts (accepted (row_at s at)) (sym e)))
            ∙ heard_more (row_at s at) _,
      )

-- ---- the whole reply

-- what is heard of a test and a verdict behind it
heard_then : {A B : Type 0} (u : Test) (v : Verdict A) (g : A → B) → heard (u then onwards v (λ x. accepted (g x))) ≡ (u then heard v)
unfolding heard ◌then◌ onwards
heard_then (accepted tt) (accepted x) g = refl
heard_then (accepted tt) (refused n a b) g = refl
heard_then (refused n a b) v g = refl

module _ (s : List ℕ) where
  abbrev rows : Test
  rows = heard (rows_from (ticks (num16 s 3)) s 32 5)

  -- the field of the period, that something comes behind it, and the rows
  reply_heard : heard (judge_reply s) ≡ ((len_test 17 s then needed s 5) then rows)
  reply_heard = ap heard (reply_row s) ∙ heard_then _ _ _

  pub period_bad : (r : Refusal) → refusal_of r ≡ len_test 17 s → refusal_of r ≡ heard (judge_reply s)
  period_bad r e = sym (reply_heard ∙ then_refusal r rows (then_refusal r (needed s 5) (sym e)))

  module _ (len : accepted tt ≡ len_test 17 s) where
    pub rows_missing : length s ≤ 5 → refused ORDER 5 0 ≡ heard (judge_reply s)
    rows_missing h = sym (reply_heard ∙ then_refuses rows (then_accepts (needed s 5) (sym len) ∙ needed_no s 5 h))

    pub rows_there : 5 < length s → rows ≡ heard (judge_reply s)
    rows_there h = sym (reply_heard ∙ then_accepts rows (then_accepts (needed s 5) (sym len) ∙ needed_yes s 5 h))

  -- what is accepted is a reply
  pub heard_reply : heard (judge_reply s) ≡ accepted tt → (R : Reply) × (judge_reply s ≡ accepted R)
  unfolding heard
  heard_reply e = let (R, come, _) = onwards_first (judge_reply s) _ e in (R, come)

  -- "A reply has 5 + 7·operations bytes."
  pub heard_size : heard (judge_reply s) ≡ accepted tt → length s ≡ 5 + 7 * ((length s - 5) / 7)
  heard_size e = let (R, read) = heard_reply e in omega (arith, (reply_in s R read).size)

-- ---- the starts

-- the bytes of a start
abbrev start_bytes_lem : Ticks → List ℕ
start_bytes_lem t = be16 t.number

module _ {s : List ℕ} {R : Reply} (is : ReplyIn s R) where
  pub starts_count : length (starts_of R) ≡ length R.rows
  unfolding starts_of
  starts_count = length-map R.rows _

  pub starts_at : (i : ℕ) → i < length R.rows → get_or (starts_of R) i (unfold_at R.period (row_at s 0)) ≡ unfold_at (ticks (num16 s 3)) (row_at s (5 + 7 * i))
  unfolding starts_of
  starts_at i h =
      get_or-map (unfold_at R.period) R.rows i (row_at s 0)
      ∙ ap (unfold_at R.period) (is.row (row_at s 0) i h)
      ∙ ap (λ (q : Ticks). unfold_at q (row_at s (5 + 7 * i))) is.period

  starts_size : length (starts_bytes (starts_of R)) ≡ 2 * length R.rows
  unfolding starts_bytes
  starts_size = joined_length start_bytes_lem 2 (λ t. refl) (starts_of R) ∙ ap (λ (k : ℕ). 2 * k) starts_count

module _ (s out : List ℕ) where
  pub starts_none : StartsStored s 0 out out
  unfolding StartsStored stored starts_bytes joined
  starts_none R e = refl

  pub starts_turn : (n i : ℕ) (mid end : List ℕ) → length s ≡ 5 + 7 * n → i < n → StartsStored s i out mid
      → end ≡ stored mid (2 * i) (be16 (unfold_at (ticks (num16 s 3)) (row_at s (5 + 7 * i))).number)
      → StartsStored s (i + 1) out end
  unfolding StartsStored starts_bytes
  starts_turn n i mid end size h e f R read =
      let is = reply_in s R read in
      stored_turn start_bytes_lem 2 (λ t. refl) (starts_of R) out 0 (unfold_at R.period (row_at s 0)) i {n = 2 * i}
      (omega (arith, starts_count is, is.size)) (e R read) (omega arith)
      (f ∙ ap (λ (t : Ticks). stored mid (2 * i) (start_bytes_lem t)) (sym (starts_at is i (omega (arith, is.size)))))

  module _ (n : ℕ) (size : length s ≡ 5 + 7 * n) where
    pub unfolds_short : length out < 2 * n → Unfolds s out (leaving (refused ROOM (2 * n) 0) out)
    unfolds_short h R read =
        let is = reply_in s R read in
        let long : 2 * n ≡ length (starts_bytes (starts_of R)) = omega (arith, starts_size is, is.size) in
        ap (λ (m : ℕ). leaving (refused ROOM m 0) out) long ∙ sym (put_short (starts_bytes (starts_of R)) out (omega arith))

    pub unfolds_room : (end : List ℕ) → 2 * n ≤ length out → StartsStored s n out end → Unfolds s out (leaving (accepted (2 * n)) end)
    unfolding StartsStored
    unfolds_room end h e R read =
        let is = reply_in s R read in
        let bytes = starts_bytes (starts_of R) in
        let long : 2 * n ≡ length bytes = omega (arith, starts_size is, is.size) in
        let all : take n (starts_of R) ≡ starts_of R = take_all n (starts_of R) (omega (arith, starts_count is, is.size)) in
        let stands : end ≡ bytes ++ drop (length bytes) out = e R read ∙ ap (λ (ts : List Ticks). stored out 0 (starts_bytes ts)) all ∙ stored_front out bytes (omega arith) in
        ap (leaving (accepted (2 * n))) stands
        ∙ ap (λ (m : ℕ). leaving (accepted m) (bytes ++ drop (length bytes) out)) long
        ∙ sym (put_room bytes out (omega arith))

  -- a refusal of the reply is the answer, and the buffer stays
  pub unfold_refused : (r : Refusal) → refusal_of r ≡ heard (judge_reply s) → IsUnfold s out (leaving (refusal_of r) out)
  unfolding heard written bytes_of onwards
  unfold_refused r e =
      let (n, a, b, x, y) = refusal_is {A = ℕ} {B = Reply} r in
      ap (λ (u : Verdict ℕ). leaving u out) x ∙ sym (ap (λ (v : Verdict Reply). written (bytes_of (λ R. starts_bytes (starts_of R)) v) out) (heard_refusal (judge_reply s) r e ∙ y))

  -- the starts of an accepted reply are the answer
  pub unfold_accepted : (w : Written) → heard (judge_reply s) ≡ accepted tt → Unfolds s out w → IsUnfold s out w
  unfolding written bytes_of onwards
  unfold_accepted w e f =
      let (R, read) = heard_reply s e in
      f R read ∙ sym (ap (λ (v : Verdict Reply). written (bytes_of (λ R. starts_bytes (starts_of R)) v) out) read)

-- a period and a row that are as the bytes have them give the start that the bytes have
pub same_start : (s : List ℕ) (at : ℕ) {q : Ticks} {r : Row} → q ≡ ticks (num16 s 3) → r ≡ row_at s at → unfold_at q r ≡ unfold_at (ticks (num16 s 3)) (row_at s at)
same_start s at {q} {r} e f = ap (λ (p : Ticks). unfold_at p r) e ∙ ap (unfold_at (ticks (num16 s 3))) f
