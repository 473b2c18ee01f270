-- The words before m stand in front, and the rest is zero.
-- Assumes nothing.
use Rattle.std.proofs.Common.{◌≡◌, refl, arith}
use Rattle.std.proofs.Math.ListN.{length-set}
use Rattle.rules.specs.Bytes.{words}
use Rattle.table.specs.Tables.{padded}
use Rattle.heads.specs.WordLaws.{words_more}
use Rattle.heads.proofs.read_words.Goals as goal

pub loop-m-init : goal.loop-m-init
unfolding padded words
loop-m-init c = (refl, refl)

pub loop-m-preserved : goal.loop-m-preserved
loop-m-preserved c =
    (simp length-set c.loop-m.invariant.0, rw (c.loop-m.invariant.1, c.be32.ensures) (words_more c.args.s.now 18 c.loop-m.m (omega arith)))

pub returns : goal.returns
returns c =
    let e : c.loop-m.m ≡ c.args.modes = omega arith in
    rw e at c.loop-m.invariant.1
