-- The tests are in the order of the places, and each refusal is told at its own.
-- Assumes nothing.
use Prim.Native.Nat.{◌<◌, ◌≤◌}
use mathlib.Core.Path.{◌≡◌, sym, ap, ◌∙◌}
use native.Mathlib.Omega.{arith}
use mir.Facts.{to_z-of_z}
use mir.Syntax.{w32}
use Rattle.rules.specs.Table.{nops}
use Rattle.rules.specs.Rows.{margin}
use Rattle.rules.specs.Verdicts.{accepted}
use Rattle.theory.proofs.Margins.{margin_as}
use Rattle.table.specs.Tables.{table_of}
use Rattle.table.specs.TableLaws.{op_at_lem, good_count, good_few, good_op}
use Rattle.asks.specs.AskLaws.{range_in, range_out}
use Rattle.margins.specs.MarginLaws.{ask_i, ask_j, ask_n, ask_q, ask_none}
use borrow.Author.Rules.{rules}
use Rattle.margins.proofs.margin_of.Goals as goal

pub returns-then-count-i : goal.returns-then-count-i
returns-then-count-i c =
    let s = c in
    let a = s.args in
    let T = table_of a.t in
    let h : nops T ≤ a.i = omega (arith, good_count a.t s.requires) in
    sym (ask_i T a.i a.j a.n a.q _ h)

pub returns-then-count-j : goal.returns-then-count-j
returns-then-count-j c =
    let s = c in
    let a = s.args in
    let T = table_of a.t in
    let hi : a.i < nops T = omega (arith, good_count a.t s.requires) in
    let h : nops T ≤ a.j = omega (arith, good_count a.t s.requires) in
    sym (ask_j T a.i a.j a.n a.q _ hi h)

pub returns-then-not-in_range : goal.returns-then-not-in_range
returns-then-not-in_range c =
    let distance = c in
    let s = distance in
    let a = s.args in
    let T = table_of a.t in
    let hi : a.i < nops T = omega (arith, good_count a.t s.requires) in
    let hj : a.j < nops T = omega (arith, good_count a.t s.requires) in
    sym
    (ask_n T a.i a.j a.n a.q _ hi hj (λ l h. range_out distance.in_range.ensures c.if-not-in_range.true-raw (omega (arith, l), omega (arith, h))))

pub returns-then-not-in_range-2 : goal.returns-then-not-in_range-2
returns-then-not-in_range-2 c =
    let asked = c in
    let distance = asked in
    let s = distance in
    let a = s.args in
    let T = table_of a.t in
    let hi : a.i < nops T = omega (arith, good_count a.t s.requires) in
    let hj : a.j < nops T = omega (arith, good_count a.t s.requires) in
    let n = range_in distance.in_range.ensures asked.if-not-in_range.false-raw in
    sym
    (ask_q T a.i a.j a.n a.q _ hi hj (omega (arith, n.0)) (omega (arith, n.1)) (λ l h. range_out asked.in_range-2.ensures c.if-not-in_range-2.true-raw (omega (arith, l), omega (arith, h))))

pub offset_bounds-t-a : goal.offset_bounds-t-a
offset_bounds-t-a c = omega (arith, good_few _ c.requires)

pub bounds-t-a : goal.bounds-t-a
bounds-t-a c = omega (arith, good_few _ c.requires)

pub offset_bounds-t-b : goal.offset_bounds-t-b
offset_bounds-t-b c = omega (arith, good_few _ c.requires)

pub bounds-t-b : goal.bounds-t-b
bounds-t-b c = omega (arith, good_few _ c.requires)

pub overflow_cast-n : goal.overflow_cast-n
overflow_cast-n c =
    let asked = c in
    let n = range_in asked.in_range.ensures asked.if-not-in_range.false-raw in
    let q = range_in asked.in_range-2.ensures c.if-not-in_range-2.false-raw in
    omega (arith, n.1, q.1)

pub overflow_cast-q : goal.overflow_cast-q
overflow_cast-q c =
    let asked = c in
    let n = range_in asked.in_range.ensures asked.if-not-in_range.false-raw in
    let q = range_in asked.in_range-2.ensures c.if-not-in_range-2.false-raw in
    omega (arith, n.1, q.1)

pub measure-requires : goal.measure-requires
measure-requires c =
    let asked = c in
    let s = asked in
    let a = s.args in
    let high = s.requires.accepted.len_high in
    let n = range_in asked.in_range.ensures asked.if-not-in_range.false-raw in
    let q = range_in asked.in_range-2.ensures c.if-not-in_range-2.false-raw in
    let hi : a.i < a.t.count = omega arith in
    let hj : a.j < a.t.count = omega arith in
    let i = (good_op a.t s.requires a.i hi).fits in
    let j = (good_op a.t s.requires a.j hj).fits in (
      omega (arith, n.1, q.1, high),
      omega (arith, n.1, q.1, high),
      omega (arith, i, j, high),
      omega (arith, i, j, high),
    )

pub returns : goal.returns
returns c =
    let asked = c in
    let s = asked in
    let a = s.args in
    let T = table_of a.t in
    let n = range_in asked.in_range.ensures asked.if-not-in_range.false-raw in
    let q = range_in asked.in_range-2.ensures c.if-not-in_range-2.false-raw in
    let ci : a.i < a.t.count = omega arith in
    let cj : a.j < a.t.count = omega arith in
    let hi : a.i < nops T = omega (arith, good_count a.t s.requires) in
    let hj : a.j < nops T = omega (arith, good_count a.t s.requires) in
    let m : margin T a.i a.j a.n a.q ≡ c.measure.result = margin_as T a.i a.j a.n a.q ∙ rw (op_at_lem a.t a.i ci, op_at_lem a.t a.j cj) (sym c.measure.ensures) in
    ap accepted (to_z-of_z {w = w32} (search rules) ∙ sym m)
    ∙ sym (ask_none T a.i a.j a.n a.q _ hi hj (omega (arith, n.0)) (omega (arith, n.1)) q.0 q.1)
