-- With nobody named the table stays as it is; else the number is one of the operations, or is refused where its field would stand.
-- Assumes nothing.
use Rattle.std.proofs.Common.{◌≡◌, ℕ, length, Option, refl, sym, ap, ◌∙◌, arith, rules}
use Rattle.rules.specs.Table.{nobody, decides}
use Rattle.theory.proofs.Verdicts.{onwards_refuses}
use Rattle.theory.proofs.Ranges.{decider_none, decider_within}
use Rattle.table.specs.Tables.{who_of, table_of}
use Rattle.table.specs.TableLaws.{kept_few}
use Rattle.widths.specs.WidthLaws.{size_few}
use Rattle.deciders.specs.Deciders.{handed_of}
use Rattle.deciders.specs.DeciderLaws.{handed_bad, handed_fine, tidy_count, named_by}
use Rattle.deciders.proofs.hand_behind.Goals as goal

pub returns-in_default : goal.returns-in_default
returns-in_default c =
    named_by c.args.t c.requires _
    (ap (λ (d : Option ℕ). handed_of (who_of d) (table_of c.args.t)) c.in_default.is
    ∙ handed_fine (table_of c.args.t) (tidy_count c.args.t c.requires) nobody (decider_none _))

pub overflow_add-result : goal.overflow_add-result
overflow_add-result c =
    let full : length c.args.t.ops ≡ 32 = search rules in
    omega (
      arith,
      decider_within c.args.t.count (decides c.in-Some.d) refl,
      c.in-Some-decider_wrong.ensures,
      kept_few c.args.t full c.requires,
      size_few c.args.t.ops c.args.t.count,
      c.ops_end-at.ensures,
    )

pub returns-in-Some-decider_wrong : goal.returns-in-Some-decider_wrong
returns-in-Some-decider_wrong c =
    let (is, some) = c.in-Some-decider_wrong.ensures in
    sym
    (onwards_refuses _
    (ap (λ (d : Option ℕ). handed_of (who_of d) (table_of c.args.t)) c.in-Some.is
    ∙ handed_bad (table_of c.args.t) c.ops_end-at.ensures (tidy_count c.args.t c.requires) (decides c.in-Some.d) is (λ none. omega arith)))

pub returns : goal.returns
returns c =
    named_by c.args.t c.requires _
    (ap (λ (d : Option ℕ). handed_of (who_of d) (table_of c.args.t)) c.in-Some.is
    ∙ handed_fine (table_of c.args.t) (tidy_count c.args.t c.requires) (decides c.in-Some.d) (sym c.in_default-decider_wrong.ensures))
