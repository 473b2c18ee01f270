-- The fields are judged, then the decider, and what they make is judged whole.
-- Assumes nothing.
use Rattle.handed.specs.Handed.{numbers_of}
use Rattle.handed.specs.JudgeLaws.{numbers_tidy, numbers_judged, whole_ready, numbers_whole}
use Rattle.handed.proofs.judge.Goals as goal

pub hand-requires : goal.hand-requires
hand-requires c = numbers_tidy (numbers_of c.args.n) c.judge_fields.ensures

pub judge-requires : goal.judge-requires
judge-requires c =
    let judged = numbers_judged (numbers_of c.args.n) c.judge_fields.result c.hand.result c.marked-decider.ensures c.judge_fields.ensures c.hand.ensures in
    whole_ready (numbers_of c.args.n) judged

pub returns : goal.returns
returns c =
    let judged = numbers_judged (numbers_of c.args.n) c.judge_fields.result c.hand.result c.marked-decider.ensures c.judge_fields.ensures c.hand.ensures in
    rw (numbers_whole (numbers_of c.args.n) c.hand.result judged) c.judge.ensures
