-- A walk over the members of a set after which something holds of each; and the two walks over the readers of a cell.
-- Assumes nothing.
use Rattle.std.specs.Prelude.{ℕ, ◌^◌, ◌<◌, ◌≤◌, ◌≡◌, ◌⊎◌, List, length, get_or, set}
use Rattle.std.proofs.Math.Path.{subst⁻¹}
use Rattle.std.proofs.Common.{◌∙◌, inl, inr, arith, get_or-set_same, get_or-set_other}
use Rattle.rules.specs.Sets.{In, Within}
use Rattle.theory.specs.Tests.{without}
use Rattle.sets.specs.Members.{Past, past_none, past_all, rest_within, past_more}
use Rattle.columns.specs.Columns.{op_by}
use Rattle.columns.specs.declared.Dated.{Dated}
use Rattle.cells.specs.Cells.{fresh_of, FreshSets, Early}

-- P holds of each member of s that was visited
pub record Walked (P : ℕ → Type 0) (s left : ℕ) : Type 0 where
  pub inside : Within left s
  pub each : (j : ℕ) → Past s left j → P j

pub walked_none : (P : ℕ → Type 0) (s : ℕ) → Walked P s s
walked_none P s = record { inside = λ j h. h; each = λ j p. absurd (past_none s j p) }

pub walked_all : {P : ℕ → Type 0} {s : ℕ} → Walked P s 0 → (j : ℕ) → In j s → P j
walked_all {P} {s} w j h = w.each j (past_all s j h)

-- with m visited, where what held before keeps holding of the others
pub walked_more : {P Q : ℕ → Type 0} {s left m : ℕ} → In m left → Walked P s left → ((j : ℕ) → (In j left → ⊥) → P j → Q j) → Q m
    → Walked Q s (without left (2 ^ m))
walked_more {P} {Q} {s} {left} {m} here w keep new =
    record {
      inside = rest_within s left m w.inside here;
      each = λ j p. go j ((past_more s left m w.inside here j).0 p);
    }
  where
    go : (j : ℕ) → Past s left j ⊎ (j ≡ m) → Q j
    go j (inl p) = keep j p.1 (w.each j p)
    go j (inr e) = subst⁻¹ Q e new

-- ---- the fresh sets of the readers

abbrev pub FreshAt : List Dated → ℕ → List ℕ → ℕ → Type 0
FreshAt cols w out j = get_or out j 0 ≡ fresh_of cols w j

pub fresh_more : (cols : List Dated) (out : List ℕ) (w m : ℕ) {s left x : ℕ} → In m left → m < length out → Walked (FreshAt cols w out) s left → x ≡ fresh_of cols w m
    → Walked (FreshAt cols w (set out m x)) s (without left (2 ^ m))
fresh_more cols out w m {s} {left} {x} here l walk e =
    walked_more here walk
    (λ j n f. get_or-set_other out m j x 0 (λ d. n (subst⁻¹ (λ (k : ℕ). In k left) d here)) ∙ f)
    (get_or-set_same out m x 0 l ∙ e)

pub fresh_all : (cols : List Dated) (out : List ℕ) (w s : ℕ) → Walked (FreshAt cols w out) s 0 → FreshSets cols w s out
fresh_all cols out w s walk = record { each = walked_all walk }

-- ---- the first start of the readers

abbrev pub EarlyAt : List Dated → ℕ → ℕ → Type 0
EarlyAt cols e j = e ≤ (op_by cols j).start

pub early_more : (cols : List Dated) (m : ℕ) {s left e d : ℕ} → In m left → d ≤ e → d ≤ (op_by cols m).start → Walked (EarlyAt cols e) s left
    → Walked (EarlyAt cols d) s (without left (2 ^ m))
early_more cols m here l k walk = walked_more here walk (λ j n f. omega arith) k

pub early_all : (cols : List Dated) (s e : ℕ) → e ≤ 1000 → Walked (EarlyAt cols e) s 0 → Early cols s e
early_all cols s e h walk = record { high = h; each = walked_all walk }
