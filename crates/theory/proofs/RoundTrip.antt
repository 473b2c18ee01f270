-- There and back through the public answers: what plan wrote unfolds to the table's starts, and what was written from numbers is read back.
-- Assumes nothing.
use Prim.Native.Nat.{ℕ, ◌*◌, ◌<◌, ◌≤◌}
use mathlib.Core.Path.{◌≡◌, refl, sym, ap, ◌∙◌}
use mathlib.Core.List.{List, ◌++◌, map}
use native.Mathlib.Decide.{dec_lt}
use native.Mathlib.Omega.{arith}
use lib.ListN.{length, take, drop, length-map}
use lib.Seq.{take-append_seam}
use Rattle.rules.specs.Table.{Op, Table, nops}
use Rattle.rules.specs.Rows.{Ticks, ticks, reply_of}
use Rattle.rules.specs.Verdicts.{Verdict, accepted, refused, onwards}
use Rattle.rules.specs.Bytes.{be16, table_bytes, reply_bytes, starts_bytes}
use Rattle.rules.specs.Judge.{judge, judge_reply, Numbers, judge_numbers}
use Rattle.rules.specs.Answers.{Written, put, written, bytes_of, IsPlan, IsUnfold, IsWrite}
use Rattle.theory.specs.Tests.{period_of}
use Rattle.theory.proofs.Verdicts.{never_refused}
use Rattle.theory.proofs.Exists.{period_found}
use Rattle.theory.proofs.Judging.{judge_accepted, numbers_accepted}
use Rattle.theory.proofs.Bytes.{joined_length}
use Rattle.theory.proofs.Numbers.{write_read}
use Rattle.theory.proofs.Replies.{reply_starts, reply_read}
use Rattle.theory.proofs.Answering.{put_room, put_short, plan_put}

-- the bytes that were written stand in front, as many as are told
put_front : (bytes out : List ℕ) (n : ℕ) → (put bytes out).answer ≡ accepted n → take n (put bytes out).buffer ≡ bytes
put_front bytes out n e = go (dec_lt (length out) (length bytes))
  where
    go : Dec (length out < length bytes) → take n (put bytes out).buffer ≡ bytes
    go (yes h) = never_refused (sym (ap (λ (w : Written). w.answer) (put_short bytes out h)) ∙ e)
    go (no h) =
        let room = put_room bytes out (omega arith) in
        let count : n ≡ length bytes = cc (e, ap (λ (w : Written). w.answer) room) in
        rw (room, count) (take-append_seam bytes (drop (length bytes) out))

-- ---- plan, then unfold

-- a table's starts, 2 bytes each
start_bytes : Table → List ℕ
start_bytes T = starts_bytes (map (λ (o : Op). ticks o.start) T.ops)

starts_length : (T : Table) → length (start_bytes T) ≡ 2 * nops T
unfolding start_bytes starts_bytes
starts_length T =
    joined_length (λ (t : Ticks). be16 t.number) 2 (λ t. refl) (map (λ (o : Op). ticks o.start) T.ops)
    ∙ ap (λ (k : ℕ). 2 * k) (length-map T.ops (λ (o : Op). ticks o.start))

-- "unfolding them gives the dates we began with"
pub round_trip : (s out out' : List ℕ) (w x : Written) (T : Table) (n : ℕ) → judge s ≡ accepted T → IsPlan s out w → w.answer ≡ accepted n
    → IsUnfold (take n w.buffer) out' x → 2 * nops T ≤ length out'
    → x
    ≡ record {
      answer = accepted (2 * nops T);
      buffer = starts_bytes (map (λ (o : Op). ticks o.start) T.ops) ++ drop (2 * nops T) out';
    }
unfolding start_bytes written bytes_of onwards
round_trip s out out' w x T n read plan done unfolds room =
    let ok = judge_accepted s T read in
    let q = period_of T in
    let R = reply_of T q in
    let is = period_found T ok in
    let wrote = plan_put s out w T read plan in
    let front : take n w.buffer ≡ reply_bytes R = rw wrote (put_front (reply_bytes R) out n (rw wrote at done)) in
    let back : judge_reply (take n w.buffer) ≡ accepted R = ap judge_reply front ∙ reply_read T ok q is.low is.high in
    let starts : x ≡ put (start_bytes T) out' = unfolds ∙ rw (back, reply_starts T q) in
    starts ∙ put_room (start_bytes T) out' (omega (arith, starts_length T)) ∙ rw (starts_length T)

-- ---- write, then read
pub written_read : (N : Numbers) (out : List ℕ) (w : Written) (n : ℕ) → IsWrite N out w → w.answer ≡ accepted n
    → judge (take n w.buffer) ≡ judge_numbers N
unfolding written bytes_of onwards
written_read N out w n wrote done = rw wrote (go (judge_numbers N) refl (rw wrote at done))
  where
    go : (v : Verdict Table) → judge_numbers N ≡ v → (written (bytes_of table_bytes v) out).answer ≡ accepted n
        → judge (take n (written (bytes_of table_bytes v) out).buffer) ≡ v
    go (accepted T) e done = ap judge (put_front (table_bytes T) out n done) ∙ write_read T (numbers_accepted N T e)
    go (refused m a b) e done = never_refused done
