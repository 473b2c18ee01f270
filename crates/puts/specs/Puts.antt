-- What a lent buffer holds after some bytes were stored into it.
-- Assumes nothing.
use Rattle.std.specs.Prelude.{ℕ, List}
use Rattle.std.proofs.lemmas.List.Edits.{sets}

-- bytes stored one after the other, the first at a place; every other byte is kept, and none is added
unfoldable pub stored : List ℕ → ℕ → List ℕ → List ℕ
stored out at bytes = sets out at bytes
