-- The numbers of the first c cells are written, and nothing else has changed.
-- Assumes nothing.
use Rattle.std.proofs.Common.{ℕ, ◌*◌, length, refl, ap, ◌∙◌, arith, get_or-take}
use Rattle.rules.specs.Bytes.{be16}
use Rattle.puts.specs.Puts.{stored}
use Rattle.puts.specs.PutLaws.{stored_length}
use Rattle.stores.specs.Stores.{places_none, places_turn}
use Rattle.stores.proofs.put_places.Goals as goal

pub loop-c-init : goal.loop-c-init
loop-c-init c = (refl, places_none c.args.rs.now c.args.out.now)

pub loop-c-preserved : goal.loop-c-preserved
loop-c-preserved c =
    let l = c.loop-c in
    let rs = c.args.rs.now in (
      ap length c.put16.ensures ∙ stored_length l.out _ _ ∙ l.invariant.0,
      places_turn rs c.args.out.now l.c (omega (arith, c.requires.0, c.requires.1)) l.invariant.1
          (c.put16.ensures ∙ ap (λ (r : ℕ). stored l.out (2 * l.c) (be16 r)) (get_or-take c.args.n rs l.c 0 (omega arith))),
    )
