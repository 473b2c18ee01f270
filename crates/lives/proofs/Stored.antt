-- What is read back: where the places are answered, the two bytes at 2 * c of the buffer are the number of places of cell c.
-- Assumes nothing.
use Prim.Native.Nat.{ℕ, zero, suc, ◌*◌, ◌<◌, ◌≤◌}
use mathlib.Core.Path.{◌≡◌, sym, ap, subst⁻¹, ◌∙◌}
use mathlib.Core.List.{List, [], ◌∷◌, ◌++◌}
use native.Mathlib.Omega.{arith}
use native.Mathlib.Decide.{dec_lt}
use lib.ListN.{length, get_or, drop}
use Rattle.rules.specs.Table.{Table}
use Rattle.rules.specs.Runs.{IsPeriod}
use Rattle.rules.specs.Places.{IsPlaces}
use Rattle.rules.specs.Verdicts.{Verdict, accepted, onwards}
use Rattle.rules.specs.Bytes.{num16, be16, joined, places_bytes}
use Rattle.rules.specs.Judge.{judge}
use Rattle.rules.specs.Answers.{Written, put, written, bytes_of, PlacesFor, IsStored}
use Rattle.theory.proofs.Bytes.{two_bytes, past16}
use Rattle.theory.proofs.Verdicts.{never_refused}
use Rattle.theory.proofs.Judging.{judge_accepted}
use Rattle.theory.proofs.Answering.{put_room, put_short}
use Rattle.theory.proofs.Asking.{answered_back}
use Rattle.lives.proofs.Bounds.{places_bound}

-- a number below 65536 is read back
pub places_back : (rs post : List ℕ) (c : ℕ) → c < length rs → get_or rs c 0 < 65536 → num16 (places_bytes rs ++ post) (2 * c) ≡ get_or rs c 0
unfolding places_bytes joined
places_back [] post c h small = absurd (omega arith)
places_back (r ∷ rs) post zero h small = two_bytes r small
places_back (r ∷ rs) post (suc c) h small =
    past16 (be16 r) (joined be16 rs ++ post) (2 * suc c) (2 * c) (omega arith) ∙ places_back rs post c (omega arith) small

-- bytes that were put are in front
put_front : (bytes out : List ℕ) (n : ℕ) → (put bytes out).answer ≡ accepted n → (put bytes out).buffer ≡ bytes ++ drop (length bytes) out
put_front bytes out n e = go (dec_lt (length out) (length bytes))
  where
    go : Dec (length out < length bytes) → (put bytes out).buffer ≡ bytes ++ drop (length bytes) out
    go (yes h) = never_refused (sym (ap (λ (w : Written). w.answer) (put_short bytes out h)) ∙ e)
    go (no h) = ap (λ (w : Written). w.buffer) (put_room bytes out (omega arith))

-- they are those of the one period, from 1 to 32001
pub stored_read : (s out : List ℕ) (T : Table) (w : Written) (n : ℕ) → judge s ≡ accepted T → IsStored s out w → w.answer ≡ accepted n
    → (q : ℕ) × IsPeriod T q × ((c : ℕ) → c < T.cells → IsPlaces T q c (num16 w.buffer (2 * c)) × (num16 w.buffer (2 * c) ≤ 32001))
unfolding written bytes_of onwards
stored_read s out T w n read (v, r, e) wrote =
    let (rs, (q, period, each), is) = answered_back PlacesFor (judge s) v r read in
    let whole : w ≡ put (places_bytes rs) out = e ∙ ap (λ (u : Verdict (List ℕ)). written (bytes_of places_bytes u) out) is in
    let front = ap (λ (x : Written). x.buffer) whole ∙ put_front (places_bytes rs) out n (sym (ap (λ (x : Written). x.answer) whole) ∙ wrote) in
    let few : (c : ℕ) → c < T.cells → get_or rs c 0 ≤ 32001 =
    λ c h. places_bound T (judge_accepted s T read) c q (get_or rs c 0) period.low (each.each c h)
    in
    let same : (c : ℕ) → c < T.cells → num16 w.buffer (2 * c) ≡ get_or rs c 0 =
    λ c h.
    ap (λ (b : List ℕ). num16 b (2 * c)) front
    ∙ places_back rs (drop (length (places_bytes rs)) out) c (omega (arith, h, each.size)) (omega (arith, few c h))
    in
    (q, period, λ c h. (subst⁻¹ (λ (k : ℕ). IsPlaces T q c k) (same c h) (each.each c h), omega (arith, same c h, few c h)))
