-- A table whose fields before are judged, with the decider that is named behind its operations.
-- Assumes nothing.
use Rattle.std.specs.Prelude.{ℕ, cond, List, eqb}
use Rattle.rules.specs.Table.{Decider, nobody, decides, Table, nops}
use Rattle.rules.specs.Verdicts.{Verdict, accepted, ◌then◌}
use Rattle.rules.specs.Judge.{ranged, decider_wrong, with_decider, ops_end, decider_at, decider_test}

-- by the bytes behind its operations
unfoldable pub behind_of : List ℕ → Table → Verdict Table
behind_of s T = decider_test s (ops_end T) (nops T) then accepted (with_decider T (decider_at s (ops_end T)))

-- who is handed over with a mark
abbrev pub marked_by : ℕ → ℕ → Decider
marked_by mark d = cond (eqb mark 0) nobody (decides d)

-- by who is handed over
unfoldable pub handed_of : Decider → Table → Verdict Table
handed_of who T = ranged (decider_wrong (nops T) who) (ops_end T) then accepted (with_decider T who)
