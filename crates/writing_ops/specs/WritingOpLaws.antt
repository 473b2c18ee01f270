-- Laws of the operations' bytes: one operation in its form, and how many bytes the first of them have.
-- Assumes nothing.
use Rattle.std.specs.Prelude.{ℕ, ◌≡◌, refl, Bool, List, [], ◌∷◌, ◌++◌, map, length, take}
use Rattle.std.proofs.Common.{sym, ap}
use Rattle.rules.specs.Table.{Op}
use Rattle.rules.specs.Bytes.{joined, op_form, settles, op_bytes}
use Rattle.rules.specs.Judge.{ops_size}
use Rattle.table.specs.Tables.{op_of}
use Rattle.table.specs.declared.Op as code
use Rattle.widths.specs.WidthLaws.{size_to}
use Rattle.writing_ops.specs.WritingOps.{bytes_of_op}

-- the form that an operation's hold asks for
pub form_bytes : (o : Op) (held : Bool) → settles o ≡ held → op_form held o ≡ op_bytes o
unfolding op_bytes
form_bytes o held e = ap (λ (b : Bool). op_form b o) (sym e)

-- the operations' bytes by the code's operations
pub joined_map : {A B : Type 0} (f : B → List ℕ) (g : A → B) (xs : List A) → joined f (map g xs) ≡ joined (λ x. f (g x)) xs
unfolding joined
joined_map f g [] = refl
joined_map f g (x ∷ xs) = ap (λ (l : List ℕ). f (g x) ++ l) (joined_map f g xs)

pub size_bytes : (ops : List code.Op) (i : ℕ) → size_to ops i ≡ length (joined bytes_of_op (take i ops))
unfolding ops_size
size_bytes ops i = ap length (joined_map op_bytes op_of (take i ops))
