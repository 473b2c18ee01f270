-- The size of the reply tells the room; the starts are written when they fit.
-- Assumes nothing.
use Rattle.starts.specs.StartLaws.{heard_size, unfolds_short, unfolds_room}
use Rattle.starts.proofs.unfold_reply.Goals as goal

pub returns-then-out-n : goal.returns-then-out-n
returns-then-out-n c = unfolds_short c.args.s.now c.args.out.now _ (heard_size _ c.requires) c.if-out-n.true

pub returns : goal.returns
returns c = unfolds_room c.args.s.now c.args.out.now _ (heard_size _ c.requires) _ c.if-out-n.false c.put_starts.ensures
