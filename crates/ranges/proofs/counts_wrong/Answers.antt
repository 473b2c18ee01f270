-- The tests in the order of the definition.
-- Assumes nothing.
use Rattle.std.proofs.Common.{◌≡◌, false, le-leb, leb, arith}
use Rattle.std.proofs.lemmas.Bool.{lt-leb}
use Rattle.rules.specs.Judge.{counts_wrong}
use Rattle.ranges.proofs.counts_wrong.Goals as goal

pub returns-then-boards-lt1 : goal.returns-then-boards-lt1
unfolding counts_wrong
returns-then-boards-lt1 c = (simp (lt-leb _ _ c.if-boards-lt1.true), omega arith)

pub returns-then-boards-gt16 : goal.returns-then-boards-gt16
unfolding counts_wrong
returns-then-boards-gt16 c =
    let high : leb c.args.boards 16 ≡ false = lt-leb c.args.boards 16 c.if-boards-gt16.true in
    (simp (le-leb _ _ c.if-boards-lt1.false, high), omega arith)

pub returns-then-cells-gt32 : goal.returns-then-cells-gt32
unfolding counts_wrong
returns-then-cells-gt32 c =
    (simp (le-leb _ _ c.if-boards-lt1.false, le-leb _ _ c.if-boards-gt16.false, lt-leb _ _ c.if-cells-gt32.true), omega arith)

pub returns-then-modes-lt1 : goal.returns-then-modes-lt1
unfolding counts_wrong
returns-then-modes-lt1 c = (
  simp (
    le-leb _ _ c.if-boards-lt1.false,
    le-leb _ _ c.if-boards-gt16.false,
    le-leb _ _ c.if-cells-gt32.false,
    lt-leb _ _ c.if-modes-lt1.true,
  ),
  omega arith,
)

pub returns-then-modes-gt32 : goal.returns-then-modes-gt32
unfolding counts_wrong
returns-then-modes-gt32 c = (
  simp (
    le-leb _ _ c.if-boards-lt1.false,
    le-leb _ _ c.if-boards-gt16.false,
    le-leb _ _ c.if-cells-gt32.false,
    le-leb _ _ c.if-modes-lt1.false,
    lt-leb _ _ c.if-modes-gt32.true,
  ),
  omega arith,
)

pub returns : goal.returns
unfolding counts_wrong
returns c =
    simp (
      le-leb _ _ c.if-boards-lt1.false,
      le-leb _ _ c.if-boards-gt16.false,
      le-leb _ _ c.if-cells-gt32.false,
      le-leb _ _ c.if-modes-lt1.false,
      le-leb _ _ c.if-modes-gt32.false,
    )
