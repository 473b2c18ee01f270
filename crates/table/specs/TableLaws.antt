-- Laws of the code's tables: how a table is read back and grows.
-- Assumes nothing.
use Prim.Native.Nat.{ℕ, suc, ◌-◌, ◌<◌, ◌≤◌}
use Rattle.std.specs.Prelude.{◌≡◌, refl, List, [], ◌∷◌, ◌++◌, map, get_or, take}
use Rattle.std.proofs.Math.Path.{sym, ap, subst⁻¹}
use Rattle.std.proofs.Common.{◌∙◌, append_assoc, arith, length-take, get_or-take, length-take-le}
use Rattle.std.proofs.Math.ListN.{length, set, replicate, length-append, get_or-map}
use Rattle.std.proofs.lemmas.List.{length-map}
use Rattle.std.proofs.Math.Seq.{take_at, set_at}
use Rattle.rules.specs.Table as rules
use Rattle.rules.specs.Judge.{with_ops}
use Rattle.table.specs.Tables.{op_of, op_in, blank_op, who_of, who_in, padded, table_of, table_in, with_op, Good}
use Rattle.table.specs.declared.Op.{Op}
use Rattle.table.specs.declared.Table.{Table}

-- ---- filled up lists
module _ {A : Type 0} (n : ℕ) (d : A) (xs : List A) where
  pub take_padded : (k : ℕ) → k ≡ length xs → take k (padded n d xs) ≡ xs
  unfolding padded
  take_padded k e = take_at xs (replicate (n - length xs) d) k (sym e)

  pub set_padded : (x : A) (k : ℕ) → k ≡ length xs → k < n → set (padded n d xs) k x ≡ padded n d (xs ++ (x ∷ []))
  unfolding padded
  set_padded x k e h =
      let one : n - length xs ≡ suc (n - length (xs ++ (x ∷ []))) = omega (arith, length-append xs (x ∷ [])) in
      ap (λ (m : ℕ). set (xs ++ replicate m d) k x) one
      ∙ set_at xs d (replicate (n - length (xs ++ (x ∷ []))) d) x k (sym e)
      ∙ sym (append_assoc xs (x ∷ []) (replicate (n - length (xs ++ (x ∷ []))) d))

-- ---- what is put in comes out
ops_back : (os : List rules.Op) → map op_of (map op_in os) ≡ os
ops_back [] = refl
ops_back (o ∷ os) = ap (λ (us : List rules.Op). o ∷ us) (ops_back os)

pub who_back : (who : rules.Decider) → who_of (who_in who) ≡ who
who_back rules.nobody = refl
who_back (rules.decides i) = refl

pub table_back : (T : rules.Table) → length T.follow ≡ T.modes → table_of (table_in T) ≡ T
table_back T e =
    rw (
      take_padded 32 0 T.follow T.modes (sym e),
      take_padded 32 blank_op (map op_in T.ops) (length T.ops) (sym (length-map T.ops op_in)),
      ops_back T.ops,
      who_back T.decider,
    )

-- one operation more
map_snoc : (os : List rules.Op) (o : rules.Op) → map op_in os ++ (op_in o ∷ []) ≡ map op_in (os ++ (o ∷ []))
map_snoc [] o = refl
map_snoc (u ∷ os) o = ap (λ (us : List Op). op_in u ∷ us) (map_snoc os o)

pub with_op_in : (T : rules.Table) (os : List rules.Op) (o : rules.Op) → length os < 32
    → with_op (table_in (with_ops T os)) (op_in o) ≡ table_in (with_ops T (os ++ (o ∷ [])))
with_op_in T os o h =
    rw (
      set_padded 32 blank_op (map op_in os) (op_in o) (length os) (sym (length-map os op_in)) h,
      map_snoc os o,
      length-append os (o ∷ []),
    )

-- a table that was judged and accepted is one that the engine takes
pub good_in : (T : rules.Table) → rules.Accepted T → Good (table_in T)
good_in T ok =
    let e = table_back T ok.words in
    record { accepted = subst⁻¹ (λ (U : rules.Table). rules.Accepted U) e ok; tidy = ap table_in (sym e) }

-- a table that is zero where nothing counts has as many operations as its array at most
pub kept_few : (t : Table) → length t.ops ≡ 32 → t ≡ table_in (table_of t) → t.count ≤ 32
kept_few t long e =
    let count : t.count ≡ length (map op_of (take t.count t.ops)) = ap (λ (u : Table). u.count) e in
    omega (arith, length-map (take t.count t.ops) op_of, length-take t.count t.ops)

-- ---- the operations that count
pub op_at_lem : (t : Table) (i : ℕ) → i < t.count → rules.op (table_of t) i ≡ op_of (get_or t.ops i blank_op)
op_at_lem t i h = get_or-map op_of (take t.count t.ops) i blank_op ∙ ap op_of (get_or-take t.count t.ops i blank_op h)

pub nops_count : (t : Table) → t.count ≤ length t.ops → rules.nops (table_of t) ≡ t.count
nops_count t h = length-map (take t.count t.ops) op_of ∙ length-take-le t.count t.ops h

pub good_count : (t : Table) → Good t → t.count ≡ rules.nops (table_of t)
good_count t good = ap (λ (u : Table). u.count) good.tidy

pub good_few : (t : Table) → Good t → t.count ≤ 32
good_few t good = omega (arith, good_count t good, good.accepted.ops_high)

pub good_op : (t : Table) → Good t → (i : ℕ) → i < t.count → rules.OpOk (table_of t) (op_of (get_or t.ops i blank_op))
good_op t good i h = rw (← op_at_lem t i h) (good.accepted.each i (omega (arith, good_count t good)))
