-- The tests in the order of the definition, each at its place behind the first.
-- Assumes nothing.
use Prim.Native.Nat.{◌^◌}
use mathlib.Core.Path.{◌≡◌, sym, ◌∙◌}
use mathlib.Core.Bool.{true, false}
use native.Mathlib.Omega.{arith}
use lib.Dec.{ltb}
use Rattle.rules.specs.Judge.{set_ok}
use Rattle.ranges.specs.Ranges.{sets_of}
use Rattle.ranges.proofs.used_wrong.Goals as goal

pub returns-then-not-is_set_of : goal.returns-then-not-is_set_of
unfolding sets_of
returns-then-not-is_set_of c =
    let w = c.args.w in
    let e : set_ok c.args.counts.boards w.boards ≡ false = sym c.is_set_of.ensures ∙ c.if-not-is_set_of.true in
    (sym (rw e), omega arith)

pub returns-then-not-is_within : goal.returns-then-not-is_within
unfolding sets_of
returns-then-not-is_within c =
    let w = c.args.w in
    let e5 : set_ok c.args.counts.boards w.boards ≡ true = sym c.is_set_of.ensures ∙ c.if-not-is_set_of.false in
    let e : ltb w.reads (2 ^ c.args.counts.cells) ≡ false = sym c.is_within.ensures ∙ c.if-not-is_within.true in
    (sym (rw (e5, e)), omega arith)

pub returns-then-not-is_within-2 : goal.returns-then-not-is_within-2
unfolding sets_of
returns-then-not-is_within-2 c =
    let w = c.args.w in
    let e5 : set_ok c.args.counts.boards w.boards ≡ true = sym c.is_set_of.ensures ∙ c.if-not-is_set_of.false in
    let e6 : ltb w.reads (2 ^ c.args.counts.cells) ≡ true = sym c.is_within.ensures ∙ c.if-not-is_within.false in
    let e : ltb w.writes (2 ^ c.args.counts.cells) ≡ false = sym c.is_within-2.ensures ∙ c.if-not-is_within-2.true in
    (sym (rw (e5, e6, e) (omega arith)), omega arith)

pub returns-then-not-is_set_of-2 : goal.returns-then-not-is_set_of-2
unfolding sets_of
returns-then-not-is_set_of-2 c =
    let w = c.args.w in
    let e5 : set_ok c.args.counts.boards w.boards ≡ true = sym c.is_set_of.ensures ∙ c.if-not-is_set_of.false in
    let e6 : ltb w.reads (2 ^ c.args.counts.cells) ≡ true = sym c.is_within.ensures ∙ c.if-not-is_within.false in
    let e7 : ltb w.writes (2 ^ c.args.counts.cells) ≡ true = sym c.is_within-2.ensures ∙ c.if-not-is_within-2.false in
    let e : set_ok c.args.counts.modes w.modes ≡ false = sym c.is_set_of-2.ensures ∙ c.if-not-is_set_of-2.true in
    (sym (rw (e5, e6, e7, e) (omega arith)), omega arith)

pub returns : goal.returns
unfolding sets_of
returns c =
    let w = c.args.w in
    let e5 : set_ok c.args.counts.boards w.boards ≡ true = sym c.is_set_of.ensures ∙ c.if-not-is_set_of.false in
    let e6 : ltb w.reads (2 ^ c.args.counts.cells) ≡ true = sym c.is_within.ensures ∙ c.if-not-is_within.false in
    let e7 : ltb w.writes (2 ^ c.args.counts.cells) ≡ true = sym c.is_within-2.ensures ∙ c.if-not-is_within-2.false in
    let e8 : set_ok c.args.counts.modes w.modes ≡ true = sym c.is_set_of-2.ensures ∙ c.if-not-is_set_of-2.false in
    sym (rw (e5, e6, e7, e8))
