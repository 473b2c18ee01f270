-- Each number stands behind the one before it, and the sets behind them: together they are the field of this form.
-- Assumes nothing.
use Prim.Native.Nat.{ℕ}
use mathlib.Core.Path.{◌≡◌, refl, ap, ◌∙◌}
use mathlib.Core.List.{◌∷◌}
use Rattle.rules.specs.Bytes.{be16, op_size}
use Rattle.puts.specs.Puts.{stored}
use Rattle.puts.specs.PutLaws.{stored_then}
use Rattle.writing_ops.proofs.put_form.Goals as goal

-- the form without a hold first: an edit of its length alone is refused here, where it fails
pub returns : goal.returns
returns c =
    let size : c.size.result ≡ 18 = c.size.ensures.0 ∙ ap op_size c.if-held.false in
    let e1 = c.put_header.ensures ∙ ap (λ (n : ℕ). stored c.args.out.now c.args.at (4 ∷ be16 n)) size in
    let e2 = stored_then _ _ _ _ e1 refl c.put16.ensures in
    let e3 = stored_then _ _ _ _ e2 refl c.put16-2.ensures in
    rw c.if-held.false (stored_then _ _ _ _ e3 refl c.put_used-2.ensures)

pub returns-then-held : goal.returns-then-held
returns-then-held c =
    let size : c.size.result ≡ 20 = c.size.ensures.0 ∙ ap op_size c.if-held.true in
    let e1 = c.put_header.ensures ∙ ap (λ (n : ℕ). stored c.args.out.now c.args.at (4 ∷ be16 n)) size in
    let e2 = stored_then _ _ _ _ e1 refl c.put16.ensures in
    let e3 = stored_then _ _ _ _ e2 refl c.put16-2.ensures in
    let e4 = stored_then _ _ _ _ e3 refl c.put16-then-held.ensures in
    rw c.if-held.true (stored_then _ _ _ _ e4 refl c.put_used.ensures)
