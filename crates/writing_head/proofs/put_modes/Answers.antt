-- The followers stand behind the first modes, and the field's length is that of both.
-- Assumes nothing.
use mathlib.Core.Path.{◌≡◌, refl}
use lib.ListN.{length}
use Rattle.puts.specs.PutLaws.{stored_then}
use Rattle.writing_head.specs.WritingHeadLaws.{modes_size}
use borrow.Author.Rules.{rules}
use Rattle.writing_head.proofs.put_modes.Goals as goal

pub returns : goal.returns
returns c =
    let t = c.args.t in
    let long : length t.follow ≡ 32 = search rules in
    let e2 = stored_then _ _ _ _ c.put_header.ensures refl c.put32.ensures in
    rw (modes_size t long c.requires.0) (stored_then _ _ _ _ e2 refl c.put_words.ensures)
