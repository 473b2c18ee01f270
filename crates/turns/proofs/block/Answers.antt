-- The first n rows are there; once a row came again, it is its own next row.
-- Assumes nothing.
use Prim.Native.Nat.{◌<◌}
use mathlib.Core.Path.{◌≡◌, refl, sym, ◌∙◌}
use mathlib.Core.Bool.{false≢true}
use native.Mathlib.Omega.{arith}
use native.Mathlib.Numerals.{add-one}
use lib.ListN.{length, length-set}
use lib.Seq.{take_all, take-suc-set}
use Rattle.std.specs.Cmp.Lexicographic.{same_text}
use Rattle.turns.specs.Turns.{tab, next_row, row_after}
use Rattle.turns.specs.TurnLaws.{tab_suc, row_next, rows_block, length_row, still_on}
use Rattle.turns.proofs.block.Goals as goal
use Rattle.turns.proofs.block.Goals.{then-still, else-still}

pub loop-entry-init : goal.loop-entry-init
unfolding tab row_after
loop-entry-init c = record { sixteen = refl; long = c.requires; last = refl; rows = refl; still = λ e. absurd (false≢true e) }

pub loop-entry-preserved : goal.loop-entry-preserved
loop-entry-preserved c =
    let F = c.args.follow.now in
    let i = c.loop-entry in
    let l : i.entry-index < length i.entry-items = omega arith in
    let e : c.row_on-next.result ≡ next_row F i.last = c.row_on-next.ensures in
    record {
      sixteen = simp length-set i.invariant.sixteen;
      long = rw e (length_row F i.last);
      last = rw (add-one, e, i.invariant.last) (row_next _ _ i.entry-index);
      rows = rw (add-one, take-suc-set, tab_suc, e, i.invariant.last, row_next, i.invariant.rows);
      still = λ same. elim c.if-still.branch [
        | then-still w ↦ still_on F i.last _ e (e ∙ i.invariant.still w.if-still.true)
        | else-still w ↦ still_on F i.last _ e (same_text _ _ (sym same ∙ w.still-is ∙ w.eq-still.ensures))
      ];
    }

pub returns : goal.returns
returns c =
    let e : c.loop-entry.entry-index ≡ 16 = omega arith in
    rows_block _ _ (sym (take_all 16 c.loop-entry.entry-items (omega arith)) ∙ rw e at c.loop-entry.invariant.rows)
