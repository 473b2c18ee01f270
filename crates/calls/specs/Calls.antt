-- The promise of each function for C: what its caller is told, and what the lent place holds then.
-- Assumes nothing.
use Rattle.std.specs.Prelude.{ℕ, ◌≡◌, Bool, List, ℤ}
use Rattle.rules.specs.Table.{Table}
use Rattle.rules.specs.Verdicts.{Verdict}
use Rattle.rules.specs.Judge.{judge, Numbers, judge_numbers}
use Rattle.rules.specs.Answers.{Written, IsPlan, IsFold, IsUnfold, IsWrite, IsMargin, IsPeriodOf, IsGapOf, YesNo, Fit, Arrive}
use Rattle.figures.specs.declared.Figures.{Figures}
use Rattle.telling.specs.Telling.{told_of, unwritten, yes_of, Ended, ended_of, ended_with}

-- trevozhil_judge, on a table's bytes
abbrev pub JudgeTells : List ℕ → Figures → Type 0
JudgeTells s f = f ≡ told_of (unwritten (judge s))

-- trevozhil_judge_numbers, on a table that is handed over as numbers
abbrev pub NumbersTell : Numbers → Figures → Type 0
NumbersTell N f = f ≡ told_of (unwritten (judge_numbers N))

-- ---- with a lent buffer

-- trevozhil_write
abbrev pub WriteEnds : Numbers → List ℕ → Ended (List ℕ) → Type 0
WriteEnds N out l = (w : Written) × IsWrite N out w × (l ≡ ended_of w)

-- trevozhil_plan
abbrev pub PlanEnds : List ℕ → List ℕ → Ended (List ℕ) → Type 0
PlanEnds s out l = (w : Written) × IsPlan s out w × (l ≡ ended_of w)

-- trevozhil_fold
abbrev pub FoldEnds : List ℕ → List ℕ → Ended (List ℕ) → Type 0
FoldEnds s out l = (w : Written) × IsFold s out w × (l ≡ ended_of w)

-- trevozhil_unfold
abbrev pub UnfoldEnds : List ℕ → List ℕ → Ended (List ℕ) → Type 0
UnfoldEnds s out l = (w : Written) × IsUnfold s out w × (l ≡ ended_of w)

-- ---- questions

-- trevozhil_period: a is the period
abbrev pub PeriodTells : List ℕ → Figures → Type 0
PeriodTells s f = (v : Verdict ℕ) × IsPeriodOf s v × (f ≡ told_of v)

-- trevozhil_gap: a is the gap
abbrev pub GapTells : List ℕ → Figures → Type 0
GapTells s f = (v : Verdict ℕ) × IsGapOf s v × (f ≡ told_of v)

-- a yes or a no about q: a is 1 where P holds of q and 0 where it does not
abbrev pub YesNoTells : (Table → ℕ → Type 0) → List ℕ → ℕ → Figures → Type 0
YesNoTells P s q f = (v : Verdict Bool) × YesNo P s q v × (f ≡ told_of (yes_of v))

-- trevozhil_boards_fit
abbrev pub BoardsTell : List ℕ → ℕ → Figures → Type 0
BoardsTell s q f = YesNoTells Fit s q f

-- trevozhil_values_arrive
abbrev pub ValuesTell : List ℕ → ℕ → Figures → Type 0
ValuesTell s q f = YesNoTells Arrive s q f

-- trevozhil_margin, with a place lent for the margin
abbrev pub MarginEnds : List ℕ → ℕ → ℕ → ℕ → ℕ → ℤ → Ended ℤ → Type 0
MarginEnds s i j n q before l = (v : Verdict ℤ) × IsMargin s i j n q v × (l ≡ ended_with v before)
