-- The verdict on a reply with nothing to hand on, and the starts of a reply that is accepted.
-- Assumes nothing.
use Rattle.std.specs.Prelude.{ℕ, ◌≡◌, List, take}
use Rattle.rules.specs.Rows.{Reply, starts_of}
use Rattle.rules.specs.Verdicts.{Verdict, accepted, Test, onwards}
use Rattle.rules.specs.Bytes.{starts_bytes}
use Rattle.rules.specs.Judge.{judge_reply}
use Rattle.rules.specs.Answers.{Written, put}
use Rattle.puts.specs.Puts.{stored}

-- whether it is accepted, or the refusal
unfoldable pub heard : {A : Type 0} → Verdict A → Test
heard v = onwards v (λ _. accepted tt)

-- the first n starts of the reply that the bytes hold stand in front of the buffer, and every other byte stays
unfoldable pub StartsStored : List ℕ → ℕ → List ℕ → List ℕ → Type 0
StartsStored s n out end = (R : Reply) → judge_reply s ≡ accepted R → end ≡ stored out 0 (starts_bytes (take n (starts_of R)))

-- the starts of the reply that the bytes hold, or ROOM
abbrev pub Unfolds : List ℕ → List ℕ → Written → Type 0
Unfolds s out w = (R : Reply) → judge_reply s ≡ accepted R → w ≡ put (starts_bytes (starts_of R)) out
