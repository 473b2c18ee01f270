-- The judge without document 02's No. 4: the operations' fields go to the end of the input, and CLASH and RACE are the last tests. What No. 4 did not
-- touch is taken from `rules`.
-- Assumes nothing.
use Rattle.std.specs.Prelude.{ℕ, List}
use Rattle.rules.specs.Table.{Op, Table}
use Rattle.rules.specs.Verdicts.{Verdict, accepted, CLASH, RACE, ◌then◌, onwards}
use Rattle.rules.specs.Bytes.{op_at}
use Rattle.rules.specs.Judge.{at_end, fields_from, clashes, races, pairs_test, head_of, with_ops, ops_place, head_test, size_at, wrong_at, Numbers, head_of_numbers, numbers_test, ops_of_numbers}

unfoldable pub whole_before : Table → Verdict Table
whole_before T = pairs_test clashes CLASH T then pairs_test races RACE T then accepted T

unfoldable pub ops_before : Table → List ℕ → ℕ → ℕ → Verdict (List Op)
ops_before T = fields_from at_end 4 size_at (wrong_at T) op_at

unfoldable pub judge_before : List ℕ → Verdict Table
judge_before s =
    head_test s
    then onwards (ops_before (head_of s) s 32 (ops_place (head_of s).modes)) (λ os. whole_before (with_ops (head_of s) os))

unfoldable pub numbers_before : Numbers → Verdict Table
numbers_before N =
    numbers_test N
    then onwards
    (ops_of_numbers (head_of_numbers N) N.ops N.holds 32 (ops_place N.modes))
    (λ os. whole_before (with_ops (head_of_numbers N) os))
