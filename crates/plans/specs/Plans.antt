-- The reply to an accepted table, and how plan goes on from the verdict on the bytes.
-- Assumes nothing.
use Rattle.std.specs.Prelude.{ℕ, ◌+◌, ◌*◌, ◌<◌, ◌≤◌, ◌≡◌, refl, List, ◌++◌, length, drop}
use Rattle.std.proofs.Common.{sym, ap, ◌∙◌, arith}
use Rattle.std.proofs.Math.Path.{subst⁻¹}
use Rattle.rules.specs.Table.{Table, nops, Accepted}
use Rattle.rules.specs.Runs.{IsPeriod}
use Rattle.rules.specs.Rows.{reply_of}
use Rattle.rules.specs.Verdicts.{Verdict, accepted, refused, ROOM, onwards}
use Rattle.rules.specs.Bytes.{reply_bytes}
use Rattle.rules.specs.Judge.{judge}
use Rattle.rules.specs.Answers.{Written, put, written, Answers, Planned, bytes_of, IsPlan}
use Rattle.theory.specs.Tests.{period_of}
use Rattle.theory.proofs.Bytes.{reply_size}
use Rattle.theory.proofs.Exists.{period_found}
use Rattle.theory.proofs.Answering.{put_room, put_short}
use Rattle.fields.specs.Verdicts.{refusal_of, leaving}
use Rattle.fields.specs.declared.Refusal.{Refusal}
use Rattle.fields.specs.RefusalLaws.{refusal_is}

-- the reply's bytes at the table's period, or ROOM
abbrev pub Plans : Table → List ℕ → Written → Type 0
Plans T out w = (q : ℕ) × IsPeriod T q × (w ≡ put (reply_bytes (reply_of T q)) out)

module _ (T : Table) (out : List ℕ) where
  pub plans_short : Accepted T → (n : ℕ) → n ≡ 5 + 7 * nops T → length out < n → Plans T out (leaving (refused ROOM n 0) out)
  plans_short ok n e h =
      let q = period_of T in
      let size = reply_size T q in (
        q,
        period_found T ok,
        ap (λ (m : ℕ). leaving (refused ROOM m 0) out) (e ∙ sym size) ∙ sym (put_short (reply_bytes (reply_of T q)) out (omega arith)),
      )

  pub plans_room : (q n : ℕ) (end : List ℕ) → IsPeriod T q → n ≡ 5 + 7 * nops T → n ≤ length out
      → end ≡ reply_bytes (reply_of T q) ++ drop n out → Plans T out (leaving (accepted n) end)
  plans_room q n end period e h f =
      let size : n ≡ length (reply_bytes (reply_of T q)) = e ∙ sym (reply_size T q) in (
        q,
        period,
        ap (leaving (accepted n)) f
            ∙ ap (λ (m : ℕ). leaving (accepted m) (reply_bytes (reply_of T q) ++ drop m out)) size
            ∙ sym (put_room (reply_bytes (reply_of T q)) out (omega arith)),
      )

-- a refusal of the table is the answer, and the buffer stays
pub plan_refused : (s out : List ℕ) (r : Refusal) → judge s ≡ refusal_of r → IsPlan s out (leaving (refusal_of r) out)
unfolding Answers bytes_of written onwards
plan_refused s out r e =
    let (n, a, b, x, y) = refusal_is {A = ℕ} {B = Table} r in (
      refused n a b,
      subst⁻¹ (λ (u : Verdict Table). Answers Planned u (refused n a b)) (e ∙ y) refl,
      ap (λ (u : Verdict ℕ). leaving u out) x,
    )

-- the reply to an accepted table is the answer
pub plan_accepted : (s out : List ℕ) (T : Table) (w : Written) → judge s ≡ accepted T → Plans T out w → IsPlan s out w
unfolding Answers bytes_of written onwards
plan_accepted s out T w e (q, period, f) = (
  accepted (reply_of T q),
  subst⁻¹ (λ (u : Verdict Table). Answers Planned u (accepted (reply_of T q))) e (reply_of T q, (q, period, refl), refl),
  f,
)
