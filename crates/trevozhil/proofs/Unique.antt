-- Two answers that a promise allows are equal.
-- Assumes nothing.
use Prim.Native.Nat.{ℕ}
use mathlib.Core.Path.{◌≡◌, sym, ap, ◌∙◌}
use mathlib.Core.List.{List}
use mathlib.Core.Bool.{Bool}
use lib.IntN.{ℤ}
use Rattle.rules.specs.Table.{Table}
use Rattle.rules.specs.Runs.{IsPeriod}
use Rattle.rules.specs.Gaps.{IsGap}
use Rattle.rules.specs.Verdicts.{Verdict}
use Rattle.rules.specs.Judge.{judge, Numbers}
use Rattle.rules.specs.Answers.{Fit, Arrive}
use Rattle.theory.proofs.Period.{period_unique}
use Rattle.theory.proofs.Gaps.{gap_unique}
use Rattle.theory.proofs.Answering.{answers_unique, plan_unique, fold_unique, unfold_unique, write_unique, margin_unique, yes_no_unique}
use Rattle.figures.specs.declared.Figures.{Figures}
use Rattle.telling.specs.Telling.{Ended, ended_of, told_of, yes_of, ended_with}
use Rattle.calls.specs.Calls.{JudgeTells, NumbersTell, WriteEnds, PlanEnds, FoldEnds, UnfoldEnds, PeriodTells, GapTells, YesNoTells, BoardsTell, ValuesTell, MarginEnds}

pub judge_one : (s : List ℕ) (f g : Figures) → JudgeTells s f → JudgeTells s g → f ≡ g
judge_one s f g x y = x ∙ sym y

pub numbers_one : (N : Numbers) (f g : Figures) → NumbersTell N f → NumbersTell N g → f ≡ g
numbers_one N f g x y = x ∙ sym y

pub write_one : (N : Numbers) (out : List ℕ) (l m : Ended (List ℕ)) → WriteEnds N out l → WriteEnds N out m → l ≡ m
write_one N out l m (w, p, e) (x, q, f) = e ∙ ap ended_of (write_unique N out w x p q) ∙ sym f

pub period_one : (s : List ℕ) (f g : Figures) → PeriodTells s f → PeriodTells s g → f ≡ g
period_one s f g (v, p, x) (u, q, y) =
    x ∙ ap told_of (answers_unique IsPeriod period_unique (judge s) v u p q) ∙ sym y

pub gap_one : (s : List ℕ) (f g : Figures) → GapTells s f → GapTells s g → f ≡ g
gap_one s f g (v, p, x) (u, q, y) = x ∙ ap told_of (answers_unique IsGap gap_unique (judge s) v u p q) ∙ sym y

yes_no_one : (P : Table → ℕ → Type 0) (s : List ℕ) (q : ℕ) (f g : Figures) → YesNoTells P s q f → YesNoTells P s q g → f ≡ g
yes_no_one P s q f g (v, p, x) (u, r, y) = x ∙ ap (λ (w : Verdict Bool). told_of (yes_of w)) (yes_no_unique P s q v u p r) ∙ sym y

pub boards_one : (s : List ℕ) (q : ℕ) (f g : Figures) → BoardsTell s q f → BoardsTell s q g → f ≡ g
boards_one = yes_no_one Fit

pub values_one : (s : List ℕ) (q : ℕ) (f g : Figures) → ValuesTell s q f → ValuesTell s q g → f ≡ g
values_one = yes_no_one Arrive

pub plan_one : (s out : List ℕ) (l m : Ended (List ℕ)) → PlanEnds s out l → PlanEnds s out m → l ≡ m
plan_one s out l m (w, p, e) (x, q, f) = e ∙ ap ended_of (plan_unique s out w x p q) ∙ sym f

pub fold_one : (s out : List ℕ) (l m : Ended (List ℕ)) → FoldEnds s out l → FoldEnds s out m → l ≡ m
fold_one s out l m (w, p, e) (x, q, f) = e ∙ ap ended_of (fold_unique s out w x p q) ∙ sym f

pub unfold_one : (s out : List ℕ) (l m : Ended (List ℕ)) → UnfoldEnds s out l → UnfoldEnds s out m → l ≡ m
unfold_one s out l m (w, p, e) (x, q, f) = e ∙ ap ended_of (unfold_unique s out w x p q) ∙ sym f

pub margin_one : (s : List ℕ) (i j n q : ℕ) (before : ℤ) (l m : Ended ℤ) → MarginEnds s i j n q before l → MarginEnds s i j n q before m → l ≡ m
margin_one s i j n q before l m (v, p, e) (u, r, f) =
    e ∙ ap (λ (x : Verdict ℤ). ended_with x before) (margin_unique s i j n q v u p r) ∙ sym f
