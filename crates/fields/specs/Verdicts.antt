-- The code's verdicts in the documents' numbers.
-- Assumes nothing.
use Rattle.std.specs.Prelude.{ℕ, List, Result, Ok, Err}
use Rattle.rules.specs.Verdicts.{accepted, refused, SHORT, ORDER, SIZE, RANGE, MANY, CLASH, RACE, ROOM, ASK, EARLY}
use Rattle.rules.specs.Verdicts as rules
use Rattle.rules.specs.Answers.{Written}
use Rattle.fields.specs.declared.Refusal.{Refusal}
use Rattle.fields.specs.declared.Refusal.TheVariants.{Short, Order, Size, Range, Many, Clash, Race, Room, Ask, Early}

-- the number, a and b of each refusal
abbrev pub refusal_of : {A : Type 0} → Refusal → rules.Verdict A
refusal_of (Short at) = refused SHORT at 0
refusal_of (Order at) = refused ORDER at 0
refusal_of (Size at) = refused SIZE at 0
refusal_of (Range at place) = refused RANGE at place
refusal_of (Many at) = refused MANY at 0
refusal_of (Clash i j) = refused CLASH i j
refusal_of (Race i j) = refused RACE i j
refusal_of (Room n) = refused ROOM n 0
refusal_of (Ask place) = refused ASK place 0
refusal_of (Early d i) = refused EARLY d i

-- what the code answers, a value or a refusal, as a verdict
abbrev pub answered : {A : Type 0} → Result A Refusal → rules.Verdict A
answered (Ok x) = accepted x
answered (Err r) = refusal_of r

-- what is answered, and what the buffer holds then
abbrev pub leaving : rules.Verdict ℕ → List ℕ → Written
leaving answer buffer = record { answer = answer; buffer = buffer }
