-- Who is far meets i at no longer period; who cannot run in those modes hits nothing.
-- Assumes nothing.
use Prim.Native.Nat.{suc, ◌+◌, ◌*◌, ◌≤◌}
use mathlib.Core.Path.{◌≡◌, refl, sym, ◌∙◌}
use mathlib.Core.Bool.{true, false, false≢true}
use native.Mathlib.Omega.{arith}
use Rattle.rules.specs.Sets.{Share, shares}
use Rattle.rules.specs.Table.{held_to}
use Rattle.theory.proofs.Says.{clash_bool}
use Rattle.theory.proofs.Sets.{says_shares}
use Rattle.columns.specs.Columns.{op_by}
use Rattle.raises.specs.RaiseLaws.{cycles_fit}
use Rattle.marks.specs.Marks.{Near}
use Rattle.marks.specs.MarkLaws.{adds_none, adds_as, far_hits_not}
use Rattle.marks.proofs.mark_one.Goals as goal

pub overflow_mul-n : goal.overflow_mul-n
overflow_mul-n c =
    let s = c in
    omega (arith, cycles_fit s.args.n s.args.q (omega arith) s.requires.5)

pub overflow_add-start : goal.overflow_add-start
overflow_add-start c =
    let s = c in
    omega (arith, cycles_fit s.args.n s.args.q (omega arith) s.requires.5, c.start.ensures, s.requires.3.leaves _ s.requires.2)

pub returns-then-held-start : goal.returns-then-held-start
returns-then-held-start c =
    let a = c.args in
    let cols = a.cols.now in
    let far : held_to (op_by cols a.i) ≤ (op_by cols a.j).start + suc a.n * a.q
    = omega (arith, c.start.ensures, c.held.ensures) in (
      (λ e. absurd (false≢true e), λ h. absurd (omega (arith, h, far))),
      adds_none _ (λ x (l, y). far_hits_not cols a.i a.after a.n a.j a.q x (λ h. omega (arith, h, far)) l y),
    )

pub returns-then-not-meets : goal.returns-then-not-meets
returns-then-not-meets c =
    let m = c in
    let s = m in
    let a = s.args in
    let cols = a.cols.now in
    let near : Near (op_by cols a.i) (op_by cols a.j) a.n a.q = omega (arith, s.start.ensures, s.held.ensures) in
    let none : shares a.after (op_by cols a.j).modes ≡ false
    = rw m.modes.ensures at (sym m.meets.ensures ∙ c.if-not-meets.true) in
    ((λ e. near, λ h. refl), adds_none _ (λ x (l, y). clash_bool ((says_shares _ _).1 y.0) none))

pub returns : goal.returns
returns c =
    let m = c in
    let s = m in
    let a = s.args in
    let cols = a.cols.now in
    let near : Near (op_by cols a.i) (op_by cols a.j) a.n a.q = omega (arith, s.start.ensures, s.held.ensures) in
    let met : shares a.after (op_by cols a.j).modes ≡ true
    = rw m.modes.ensures at (sym m.meets.ensures ∙ c.if-not-meets.false) in
    let both : Share a.after (op_by cols a.j).modes = (says_shares _ _).0 met in
    ((λ e. near, λ h. refl), adds_as (λ x. (λ (l, y). (l, (both, y)), λ (l, y). (l, y.1))) c.mark_pair.ensures)
