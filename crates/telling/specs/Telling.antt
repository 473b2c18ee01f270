-- What a C caller is told of an answer, and what the place that it lends holds then.
-- Assumes nothing.
use Rattle.std.specs.Prelude.{ℕ, Bool, cond, List, ℤ}
use Rattle.rules.specs.Verdicts.{Verdict, accepted, refused, onwards}
use Rattle.rules.specs.Answers.{Written}
use Rattle.figures.specs.declared.Figures.{Figures}
use Rattle.figures.specs.Figures.{figures_of}

-- the number that is returned, and what a and b hold then: "A refusal returns its number, a and b". Where there is none the number is 0,
-- a is how many bytes were written, or what was asked for, and b is 0.
abbrev pub told_of : Verdict ℕ → Figures
told_of (accepted n) = figures_of 0 n 0
told_of (refused number a b) = figures_of number a b

-- a verdict after which nothing is written
unfoldable pub unwritten : {A : Type 0} → Verdict A → Verdict ℕ
unfolding onwards
unwritten v = onwards v (λ x. accepted 0)

-- a yes as 1 and a no as 0
unfoldable pub yes_of : Verdict Bool → Verdict ℕ
unfolding onwards
yes_of v = onwards v (λ yes. accepted (cond yes 1 0))

-- ---- with a lent buffer, or a place lent for a margin

-- what is told, and what is in the lent place then
pub record Ended (A : Type 0) : Type 0 where
  pub told : Figures
  pub lent : A

abbrev pub ended : {A : Type 0} → Figures → A → Ended A
ended told lent = record { told = told; lent = lent }

abbrev pub ended_of : Written → Ended (List ℕ)
ended_of w = ended (told_of w.answer) w.buffer

-- the margin; on a refusal the place for it stays as it was
unfoldable pub ended_with : Verdict ℤ → ℤ → Ended ℤ
ended_with (accepted z) before = ended (figures_of 0 0 0) z
ended_with (refused number a b) before = ended (figures_of number a b) before
