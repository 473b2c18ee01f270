-- The words so far, and zero behind them.
-- Assumes nothing.
use Rattle.std.proofs.Common.{◌<◌, length, take, refl, sym, ◌∙◌, arith, add-one}
use lib.Seq.{take-suc, length-take-le}
use Rattle.table.specs.Tables.{padded}
use Rattle.table.specs.TableLaws.{set_padded}
use Rattle.handed.proofs.words_of.Goals as goal

pub loop-i-init : goal.loop-i-init
unfolding padded
loop-i-init c = refl

pub loop-i-preserved : goal.loop-i-preserved
loop-i-preserved c =
    let f = c.args.follow.now in
    let k = c.loop-i.i in
    let h : k < length f = omega arith in
    let room : k < 32 = omega arith in
    rw c.loop-i.invariant (set_padded 32 0 (take k f) _ k (sym (length-take-le k f (omega arith))) room ∙ rw (add-one, take-suc f k 0 h))
