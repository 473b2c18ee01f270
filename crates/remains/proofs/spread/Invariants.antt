-- What waits at the first m modes has come.
-- Assumes nothing.
use mathlib.Core.Path.{◌≡◌}
use lib.ListN.{length}
use Rattle.lives.specs.Left.{Low}
use Rattle.remains.specs.Remains.{Spread}
use Rattle.remains.proofs.spread.Given as goal

abbrev pub invariant-loop-m : goal.invariant-loop-m
invariant-loop-m l = (length l.row ≡ 32) × Low l.row 32 × Spread l.ring l.slot l.follow l.q l.m l.row
