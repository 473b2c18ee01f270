-- A test by a call: the call's answer, and what the negated test says of it.
-- Assumes nothing.
use Rattle.std.specs.Prelude.{◌≡◌, refl, Bool, true, false, not, ◌&&◌}
use Rattle.std.proofs.Common.{sym, ◌∙◌}
use Rattle.std.proofs.lemmas.Bool.{not-true, not-false}

pub is_so : {r test : Bool} → r ≡ test → not r ≡ false → test ≡ true
is_so {r} e h = sym e ∙ not-false r h

pub is_not : {r test : Bool} → r ≡ test → not r ≡ true → test ≡ false
is_not {r} e h = sym e ∙ not-true r h

-- where the second of two tests fails, the first does not matter
pub and_none : (test : Bool) → (test && false) ≡ false
and_none true = refl
and_none false = refl
