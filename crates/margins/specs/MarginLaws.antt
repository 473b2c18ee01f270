-- The margin's question, place by place.
-- Assumes nothing.
use Rattle.std.specs.Prelude.{ℕ, ◌<◌, ◌≤◌, ◌≡◌, ◌&&◌, leb, ltb}
use Rattle.std.proofs.Common.{◌∙◌, lt-ltb, le-ltb}
use Rattle.rules.specs.Table.{Table, nops}
use Rattle.rules.specs.Verdicts.{Verdict, refused, ASK, ◌then◌}
use Rattle.rules.specs.Answers.{asked, period_asked, margin_test}
use Rattle.theory.proofs.Verdicts.{then_accepts, then_refuses}
use Rattle.theory.proofs.Asking.{asked_no, asked_yes, asked_in, asked_out, margin_row}

module _ {A : Type 0} (T : Table) (i j n q : ℕ) (w : Verdict A) where
  pub ask_i : nops T ≤ i → (margin_test T i j n q then w) ≡ refused ASK 0 0
  ask_i h = then_refuses w (margin_row T i j n q ∙ then_refuses _ (asked_no _ 0 (le-ltb i (nops T) h)))

  module _ (hi : i < nops T) where
    after_i : margin_test T i j n q ≡ (asked (ltb j (nops T)) 1 then asked (leb 1 n && leb n 1000) 2 then period_asked T q 3)
    after_i = margin_row T i j n q ∙ then_accepts _ (asked_yes _ 0 (lt-ltb i (nops T) hi))

    pub ask_j : nops T ≤ j → (margin_test T i j n q then w) ≡ refused ASK 1 0
    ask_j h = then_refuses w (after_i ∙ then_refuses _ (asked_no _ 1 (le-ltb j (nops T) h)))

    module _ (hj : j < nops T) where
      after_j : margin_test T i j n q ≡ (asked (leb 1 n && leb n 1000) 2 then period_asked T q 3)
      after_j = after_i ∙ then_accepts _ (asked_yes _ 1 (lt-ltb j (nops T) hj))

      pub ask_n : (1 ≤ n → n ≤ 1000 → ⊥) → (margin_test T i j n q then w) ≡ refused ASK 2 0
      ask_n out = then_refuses w (after_j ∙ then_refuses _ (asked_out n 1000 2 out))

      module _ (low : 1 ≤ n) (high : n ≤ 1000) where
        after_n : margin_test T i j n q ≡ period_asked T q 3
        after_n = after_j ∙ then_accepts _ (asked_in n 1000 2 low high)

        pub ask_q : (1 ≤ q → q ≤ T.len → ⊥) → (margin_test T i j n q then w) ≡ refused ASK 3 0
        ask_q out = then_refuses w (after_n ∙ asked_out q T.len 3 out)

        pub ask_none : 1 ≤ q → q ≤ T.len → (margin_test T i j n q then w) ≡ w
        ask_none l h = then_accepts w (after_n ∙ asked_in q T.len 3 l h)
