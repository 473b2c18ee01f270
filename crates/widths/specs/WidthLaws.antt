-- How many bytes the first operations of an array have: one more adds its own.
-- Assumes nothing.
use Rattle.std.specs.Prelude.{ℕ, zero, suc, ◌+◌, ◌*◌, ◌<◌, ◌≤◌, ◌≡◌, List, [], ◌∷◌, ◌++◌, map, length, get_or, take}
use Rattle.std.proofs.lemmas.List.{map-append, length-map}
use Rattle.std.proofs.Common.{add-one, arith, length-take, take-suc}
use Rattle.rules.specs.Table.{Op}
use Rattle.rules.specs.Bytes.{settles}
use Rattle.rules.specs.Judge.{ops_size}
use Rattle.theory.specs.Holds.{op_width}
use Rattle.theory.proofs.Judging.{size_none, size_more, form_least, size_most}
use Rattle.table.specs.Tables.{op_of, blank_op}
use Rattle.table.specs.declared.Op as code

-- none has fewer bytes than one without a hold
pub size_least : (os : List Op) → 21 * length os ≤ ops_size os
size_least [] = omega arith
size_least (o ∷ os) = omega (arith, size_more o os, form_least (settles o), size_least os)

-- one more behind them
pub size_snoc : (os : List Op) (o : Op) → ops_size (os ++ (o ∷ [])) ≡ ops_size os + op_width o
size_snoc [] o = omega (arith, size_more o [], size_none)
size_snoc (u ∷ os) o = omega (arith, size_more u (os ++ (o ∷ [])), size_more u os, size_snoc os o)

-- the bytes of the first i of an array
abbrev pub size_to : List code.Op → ℕ → ℕ
size_to ops i = ops_size (map op_of (take i ops))

pub size_next : (ops : List code.Op) (i : ℕ) → i < length ops → size_to ops (i + 1) ≡ size_to ops i + op_width (op_of (get_or ops i blank_op))
size_next ops i h = rw (add-one, take-suc ops i blank_op h, map-append op_of (take i ops) (get_or ops i blank_op ∷ [])) (size_snoc (map op_of (take i ops)) (op_of (get_or ops i blank_op)))

pub size_few : (ops : List code.Op) (i : ℕ) → size_to ops i ≤ 23 * i
size_few ops i = omega (arith, size_most (map op_of (take i ops)), length-map (take i ops) op_of, length-take i ops)

-- more operations have no fewer bytes
pub size_rises : (ops : List code.Op) (i n : ℕ) → i ≤ n → size_to ops i ≤ size_to ops n
size_rises ops zero n h = omega (arith, size_none)
size_rises [] (suc i) n h = omega (arith, size_none)
size_rises (o ∷ ops) (suc i) zero h = absurd (omega arith)
size_rises (o ∷ ops) (suc i) (suc n) h =
    omega (arith, size_more (op_of o) (map op_of (take i ops)), size_more (op_of o) (map op_of (take n ops)), size_rises ops i n (omega arith))
