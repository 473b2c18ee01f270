-- The bytes of the words so far are stored, one behind the other.
-- Assumes nothing.
use mathlib.Core.Path.{◌≡◌, refl, ap, ◌∙◌}
use native.Mathlib.Omega.{arith}
use lib.ListN.{length}
use borrow.Author.Rules.{rules}
use Rattle.rules.specs.Bytes.{be32, joined}
use Rattle.puts.specs.Puts.{stored}
use Rattle.puts.specs.PutLaws.{stored_length, stored_turn}
use Rattle.writing_head.proofs.put_words.Goals as goal

pub loop-i-init : goal.loop-i-init
unfolding stored joined
loop-i-init c = (refl, refl)

pub loop-i-preserved : goal.loop-i-preserved
loop-i-preserved c =
    let l = c.loop-i in
    let long : length c.args.t.follow ≡ 32 = search rules in (
      ap length c.put32.ensures ∙ stored_length l.out _ _ ∙ l.invariant.0,
      stored_turn be32 4 (λ x. refl) c.args.t.follow c.args.out.now 18 0 l.i (omega arith) l.invariant.1 refl c.put32.ensures,
    )
