-- The modes that were visited have handed on what they had, and what bounds all that is left still bounds the row.
-- Assumes nothing.
use Rattle.remains.specs.RemainLaws.{Passing}
use Rattle.remains.proofs.pass.Given as goal

abbrev pub invariant-loop-m : goal.invariant-loop-m
invariant-loop-m l = Passing l.follow l.idle l.q l.m-iterator.0 l.initial.row l.row
