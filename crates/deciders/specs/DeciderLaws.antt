-- Laws of the decider's field and of a decider that is handed over: each outcome, and the table that holds who was named.
-- Assumes nothing.
use Rattle.std.specs.Prelude.{ℕ, ◌+◌, ◌*◌, ◌<◌, ◌≤◌, ◌≡◌, refl, List, leb, length, Option, None, Some, Ok}
use Rattle.std.proofs.Common.{sym, ◌∙◌, arith, le-leb, leb-true, lt-ltb, le-ltb}
use Rattle.std.proofs.Math.Path.{ap}
use Rattle.std.proofs.lemmas.Bool.{lt-leb}
use Rattle.rules.specs.Table as rules
use Rattle.rules.specs.Table.{nobody, decides, nops}
use Rattle.rules.specs.Verdicts.{Verdict, accepted, refused, SHORT, ORDER, RANGE, ◌then◌}
use Rattle.rules.specs.Bytes.{num8}
use Rattle.rules.specs.Judge.{ranged, header, field_test, decider_wrong, with_decider, ops_place, ops_end, nothing_due, decider_at, decider_test}
use Rattle.theory.proofs.Verdicts.{passes, refuses, then_accepts, then_refuses, then_first}
use Rattle.theory.proofs.Ranges.{ranged_yes, ranged_no}
use Rattle.theory.proofs.Judging.{both, field_passed, decider_row, nothing_row}
use Rattle.fields.specs.Verdicts.{refusal_of}
use Rattle.fields.specs.declared.Refusal.{Refusal}
use Rattle.fields.specs.Fields.{field_of}
use Rattle.fields.specs.FieldLaws.{field_bad, field_ranged}
use Rattle.fields.specs.RefusalLaws.{then_refusal}
use Rattle.widths.specs.WidthLaws.{size_least}
use Rattle.table.specs.Tables.{JudgedAs, who_of, who_in, table_of, table_in}
use Rattle.table.specs.TableLaws.{nops_count}
use Rattle.table.specs.JudgedLaws.{granted}
use Rattle.table.specs.declared.Table.{Table}
use Rattle.deciders.specs.Deciders.{behind_of, handed_of}

-- ---- nothing is due behind the field

module _ (s : List ℕ) (at : ℕ) where
  pub nothing_end : length s ≤ at → nothing_due s at ≡ accepted tt
  nothing_end h = nothing_row s at ∙ rw (le-leb (length s) at h)

  module _ (more : at < length s) where
    nothing_on : nothing_due s at ≡ (header s at then refused ORDER at 0)
    nothing_on = nothing_row s at ∙ rw (lt-leb (length s) at more)

    pub nothing_cut : length s < at + 3 → nothing_due s at ≡ refused SHORT at 0
    unfolding header
    nothing_cut h = nothing_on ∙ then_refuses _ (refuses _ SHORT at 0 (lt-ltb (length s) (at + 3) h))

    pub nothing_order : at + 3 ≤ length s → nothing_due s at ≡ refused ORDER at 0
    unfolding header
    nothing_order h = nothing_on ∙ then_accepts _ (passes _ SHORT at 0 (le-ltb (length s) (at + 3) h))

-- ---- the field

module _ (s : List ℕ) (at n : ℕ) where
  pub no_field : length s ≤ at → decider_test s at n ≡ accepted tt
  no_field h = decider_row s at n ∙ rw (le-leb (length s) at h)

  module _ (more : at < length s) where
    abbrev wrong : ℕ
    wrong = decider_wrong n (decides (num8 s (at + 3)))

    field_on : decider_test s at n ≡ (field_test s at 5 1 wrong then nothing_due s (at + 4))
    field_on = decider_row s at n ∙ rw (lt-leb (length s) at more)

    pub test_bad : (r : Refusal) → refusal_of r ≡ field_of s at 5 1 → refusal_of r ≡ decider_test s at n
    test_bad r e = sym (field_on ∙ then_refusal r _ (sym (field_bad s at 5 1 wrong r e)))

    module _ (whole : accepted tt ≡ field_of s at 5 1) {d : ℕ} (same : d ≡ num8 s (at + 3)) where
      range_is : ranged (decider_wrong n (decides d)) at ≡ field_test s at 5 1 wrong
      range_is = field_ranged s at 5 1 wrong _ whole (ap (λ (x : ℕ). decider_wrong n (decides x)) same)

      pub test_range : (r : Refusal) → refusal_of r ≡ ranged (decider_wrong n (decides d)) at → refusal_of r ≡ decider_test s at n
      test_range r e = sym (field_on ∙ then_refusal r _ (sym (e ∙ range_is)))

      pub test_fine : accepted tt ≡ ranged (decider_wrong n (decides d)) at → nothing_due s (at + 4) ≡ decider_test s at n
      test_fine e = sym (field_on ∙ then_accepts _ (sym (e ∙ range_is)))

  -- a field that passes is whole
  pub test_whole : decider_test s at n ≡ accepted tt → at < length s → at + 4 ≤ length s
  test_whole e h =
      both (leb (length s) at) (sym (decider_row s at n) ∙ e)
      (λ b _. absurd (omega (arith, leb-true (length s) at b)))
      (λ _ x. omega (arith, (field_passed s at 5 1 _ (then_first _ _ x).1).0))

-- ---- who is named

module _ (s : List ℕ) (at : ℕ) where
  pub who_none : length s ≤ at → nobody ≡ decider_at s at
  who_none h = rw (le-leb (length s) at h)

  pub who_some : at < length s → decides (num8 s (at + 3)) ≡ decider_at s at
  who_some h = rw (lt-leb (length s) at h)

-- ---- the table that holds who was named

who_in_lem : (who : Option ℕ) → who ≡ who_in (who_of who)
who_in_lem None = refl
who_in_lem (Some d) = refl

pub named_in : (t : Table) (who : Option ℕ) → t ≡ table_in (table_of t)
    → record {
      len = t.len;
      boards = t.boards;
      cells = t.cells;
      modes = t.modes;
      first = t.first;
      follow = t.follow;
      ops = t.ops;
      count = t.count;
      decider = who;
    } ≡ table_in (with_decider (table_of t) (who_of who))
named_in t who e =
    let follow = ap (λ (u : Table). u.follow) e in
    let ops = ap (λ (u : Table). u.ops) e in
    let count = ap (λ (u : Table). u.count) e in
    λ i.
    record {
      len = t.len;
      boards = t.boards;
      cells = t.cells;
      modes = t.modes;
      first = t.first;
      follow = follow i;
      ops = ops i;
      count = count i;
      decider = who_in_lem who i;
    }

-- ---- the outcomes of a table with who is named, by the place where its operations end and by their count

module _ (T : rules.Table) {at n : ℕ} (end : at ≡ ops_end T) (count : n ≡ nops T) where
  test_there_lem : (s : List ℕ) → decider_test s at n ≡ decider_test s (ops_end T) (nops T)
  test_there_lem s = ap (λ (k : ℕ). decider_test s k n) end ∙ ap (decider_test s (ops_end T)) count

  pub behind_bad : (s : List ℕ) (q : Refusal) → refusal_of q ≡ decider_test s at n → behind_of s T ≡ refusal_of q
  unfolding behind_of
  behind_bad s q e = then_refusal q _ (sym (e ∙ test_there_lem s))

  pub behind_fine : (s : List ℕ) {who : rules.Decider} → accepted tt ≡ decider_test s at n → who ≡ decider_at s at
      → behind_of s T ≡ accepted (with_decider T who)
  unfolding behind_of
  behind_fine s e is = then_accepts _ (sym (e ∙ test_there_lem s)) ∙ ap (λ (x : rules.Decider). accepted (with_decider T x)) (sym (is ∙ ap (decider_at s) end))

  -- an input that is no longer than operations without a hold has nothing behind them
  pub behind_none : (s : List ℕ) → length s ≤ ops_place T.modes + 21 * n → behind_of s T ≡ accepted (with_decider T nobody)
  behind_none s h =
      let over : length s ≤ at = omega (arith, end, count, size_least T.ops) in
      behind_fine s (sym (no_field s at n over)) (who_none s at over)

  pub handed_bad : (who : rules.Decider) {wrong : ℕ} → wrong ≡ decider_wrong n who → (wrong ≡ 0 → ⊥) → handed_of who T ≡ refused RANGE at (at + wrong)
  unfolding handed_of
  handed_bad who {wrong} e not =
      then_refuses _ (ap (λ (w : ℕ). ranged w (ops_end T)) (sym (e ∙ ap (λ (k : ℕ). decider_wrong k who) count)) ∙ ranged_no wrong (ops_end T) not)
      ∙ ap (λ (k : ℕ). refused RANGE k (k + wrong)) (sym end)

pub handed_fine : (T : rules.Table) {n : ℕ} → n ≡ nops T → (who : rules.Decider) → decider_wrong n who ≡ 0 → handed_of who T ≡ accepted (with_decider T who)
unfolding handed_of
handed_fine T count who e = then_accepts _ (ranged_yes _ (ops_end T) (ap (λ (k : ℕ). decider_wrong k who) (sym count) ∙ e))

-- ---- of the code's table

pub count_is : (t : Table) → t.count ≤ length t.ops → t.count ≡ nops (table_of t)
count_is t full = sym (nops_count t full)

-- of the table that is zero where nothing counts
module _ (t : Table) (tidy : t ≡ table_in (table_of t)) where
  pub tidy_count : t.count ≡ nops (table_of t)
  tidy_count = ap (λ (u : Table). u.count) tidy

  -- with who is named it is the table of a verdict that accepts so
  pub named_by : {v : Verdict rules.Table} (who : Option ℕ) → v ≡ accepted (with_decider (table_of t) (who_of who)) → JudgedAs v (Ok (record t { decider = who }))
  named_by who e = granted _ e (named_in t who tidy)
