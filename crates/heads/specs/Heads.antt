-- The tests of the fields before the operations, one for each field.
-- Assumes nothing.
use Rattle.std.specs.Prelude.{ℕ, ◌+◌, ◌*◌, List}
use Rattle.rules.specs.Verdicts.{Test}
use Rattle.rules.specs.Bytes.{num8, num16, words}
use Rattle.rules.specs.Judge.{field_test, len_wrong, counts_wrong, sets_wrong}

-- a first field that holds a length: field 01, and field 11 of a reply
abbrev pub len_test : ℕ → List ℕ → Test
len_test tag s = field_test s 0 tag 2 (len_wrong (num16 s 3))

-- fields 02 and 03, the last for as many modes as 02 has: the words of the first modes and of the followers, one after the other

abbrev pub counts_test : List ℕ → Test
counts_test s = field_test s 5 2 3 (counts_wrong (num8 s 8) (num8 s 9) (num8 s 10))

abbrev pub modes_test : ℕ → List ℕ → Test
modes_test modes s = field_test s 11 3 (4 + 4 * modes) (sets_wrong modes (words s 14 (modes + 1)))
