-- The bytes of the words so far are stored, one behind the other.
-- Assumes nothing.
use mathlib.Core.Path.{◌≡◌}
use lib.ListN.{length, take}
use Rattle.rules.specs.Bytes.{be32, joined}
use Rattle.puts.specs.Puts.{stored}
use Rattle.writing_head.proofs.put_words.Given as goal

abbrev pub invariant-loop-i : goal.invariant-loop-i
invariant-loop-i l = (length l.out ≡ length l.initial.out) × (l.out ≡ stored l.initial.out 18 (joined be32 (take l.i l.t.follow)))
