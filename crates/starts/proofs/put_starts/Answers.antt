-- The first i starts are written, and nothing else has changed.
-- Assumes nothing.
use Rattle.std.proofs.Common.{◌*◌, ap, ◌∙◌, arith}
use Rattle.rules.specs.Rows.{Ticks}
use Rattle.rules.specs.Bytes.{be16}
use Rattle.puts.specs.Puts.{stored}
use Rattle.starts.specs.StartLaws.{starts_none, starts_turn}
use Rattle.starts.proofs.put_starts.Goals as goal

pub loop-i-init : goal.loop-i-init
loop-i-init c = starts_none _ _

pub loop-i-preserved : goal.loop-i-preserved
loop-i-preserved c =
    starts_turn c.args.s.now c.args.out.now c.args.n c.loop-i.i _ _ c.requires.0 (omega arith) c.loop-i.invariant
    (c.put16.ensures ∙ ap (λ (t : Ticks). stored c.loop-i.out (2 * c.loop-i.i) (be16 t.number)) c.start_at-start.ensures)
