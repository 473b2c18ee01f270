-- A refusal of the reply is the answer; an accepted one is unfolded.
-- Assumes nothing.
use Rattle.std.proofs.Common.{refl, sym}
use Rattle.heads.specs.HeadLaws.{handed_back}
use Rattle.starts.specs.StartLaws.{unfold_refused, unfold_accepted}
use Rattle.starts.proofs.unfold.Goals as goal

pub returns-in_err-judge : goal.returns-in_err-judge
returns-in_err-judge c = rw (handed_back c.from_residual.result _ c.from_residual.ensures.1 refl) (unfold_refused _ _ _ c.in_err-judge.ensures)

pub unfold_reply-requires : goal.unfold_reply-requires
unfold_reply-requires c = sym c.in_ok-judge.ensures

pub returns : goal.returns
returns c = unfold_accepted _ _ _ (sym c.in_ok-judge.ensures) c.unfold_reply.ensures
