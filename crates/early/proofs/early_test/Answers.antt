-- Where nobody decides nothing is asked; the decider itself is tested first, and then the others.
-- Assumes nothing.
use Rattle.std.proofs.Common.{◌≡◌, length, sym, ap, ◌∙◌, arith, rules}
use Rattle.rules.specs.Judge.{early_test}
use Rattle.theory.proofs.Early.{no_early}
use Rattle.table.specs.Tables.{who_of}
use Rattle.early.specs.EarlyLaws.{itself_early, itself_fine}
use Rattle.early.proofs.early_test.Goals as goal

pub returns-in_default : goal.returns-in_default
returns-in_default c = sym (ap (early_test _) (ap who_of c.in_default.is) ∙ no_early _)

-- the decider is an operation that counts
pub offset_bounds-t-d : goal.offset_bounds-t-d
offset_bounds-t-d c = omega (arith, c.requires.2 _ (ap who_of c.in-Some.is))

pub bounds-t-d : goal.bounds-t-d
bounds-t-d c = omega (arith, c.requires.2 _ (ap who_of c.in-Some.is))

pub returns-then-not-is_all : goal.returns-then-not-is_all
returns-then-not-is_all c =
    let full : length c.args.t.ops ≡ 32 = search rules in
    let who = ap who_of c.in-Some.is in
    sym
    (ap (early_test _) who
    ∙ itself_early c.args.t _ (omega arith) (c.requires.2 _ who) (sym c.is_all.ensures ∙ c.if-not-is_all.true))

pub first_early-requires : goal.first_early-requires
first_early-requires c = (c.requires.0, c.requires.1, c.requires.2 _ (ap who_of c.in-Some.is))

pub returns : goal.returns
returns c =
    let full : length c.args.t.ops ≡ 32 = search rules in
    let who = ap who_of c.in-Some.is in
    c.first_early.ensures
    ∙ sym
    (ap (early_test _) who
    ∙ itself_fine c.args.t _ (omega arith) (c.requires.2 _ who) (sym c.is_all.ensures ∙ c.if-not-is_all.false))
