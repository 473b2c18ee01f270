-- Each question is answered by its own function, and what it answers is told in its text.
-- Assumes nothing.
use Rattle.saying.specs.SaidLaws.{said_fold, said_boards, said_values, said_margin, said_unfold, said_gap, said_nothing}
use Rattle.saying.proofs.say.Goals as goal

pub returns-in-Fold : goal.returns-in-Fold
returns-in-Fold c = said_fold _ c.in-Fold.is c.text_of.ensures

pub returns-in-Boards : goal.returns-in-Boards
returns-in-Boards c = said_boards _ _ c.in-Boards.is c.boards_fit.ensures c.truth_text.ensures

pub returns-in-Values : goal.returns-in-Values
returns-in-Values c = said_values _ _ c.in-Values.is c.values_arrive.ensures c.truth_text-in-Values.ensures

pub returns-in-Margin : goal.returns-in-Margin
returns-in-Margin c = said_margin _ _ c.in-Margin.is c.margin.ensures c.measured_text.ensures

pub returns-in-Unfold : goal.returns-in-Unfold
returns-in-Unfold c = said_unfold _ c.in-Unfold.is c.starts_text.ensures

pub returns-in-Gap : goal.returns-in-Gap
returns-in-Gap c = said_gap _ _ c.in-Gap.is c.gap_of.ensures c.gap_text.ensures

pub returns-in-Nothing : goal.returns-in-Nothing
returns-in-Nothing c = said_nothing _ c.in-Nothing.is c.askable_text.ensures
