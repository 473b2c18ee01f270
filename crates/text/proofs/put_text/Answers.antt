-- Too short, or the text is stored from the front.
-- Assumes nothing.
use Rattle.std.proofs.Common.{sym}
use Rattle.theory.proofs.Answering.{put_room, put_short}
use Rattle.text.proofs.put_text.Goals as goal

pub returns-then-out-n : goal.returns-then-out-n
returns-then-out-n c = sym (put_short c.args.text.now c.args.out.now c.if-out-n.true)

pub returns : goal.returns
returns c = rw c.copy_from_slice.ensures.after (sym (put_room c.args.text.now c.args.out.now c.if-out-n.false))
