-- Without room the length is told and no byte changes; with room the bytes stand at the front.
-- Assumes nothing.
use Rattle.std.proofs.Common.{◌≡◌, ◌<◌, ◌≤◌, length, sym, ◌∙◌, arith, rules}
use Rattle.rules.specs.Bytes.{table_bytes}
use Rattle.theory.proofs.Answering.{put_room, put_short}
use Rattle.table.specs.Tables.{table_of}
use Rattle.widths.specs.WidthLaws.{size_few}
use Rattle.writing.specs.WritingLaws.{sized_as}
use Rattle.writing.proofs.write_table.Goals as goal

pub with_decider-size-requires : goal.with_decider-size-requires
with_decider-size-requires c =
    omega (arith, c.ops_end-end.ensures, c.requires.1, c.requires.0.modes, size_few c.args.t.ops c.args.t.count)

pub returns-then-out-size : goal.returns-then-out-size
returns-then-out-size c =
    let words : length c.args.t.follow ≡ 32 = search rules in
    let size = sized_as c.args.t words c.requires.0.modes c.ops_end-end.ensures c.with_decider-size.ensures in
    let short : length c.args.out.now < length (table_bytes (table_of c.args.t)) = omega (arith, size) in
    sym (put_short _ c.args.out.now short ∙ rw size)

pub returns : goal.returns
returns c =
    let words : length c.args.t.follow ≡ 32 = search rules in
    let size = sized_as c.args.t words c.requires.0.modes c.ops_end-end.ensures c.with_decider-size.ensures in
    let room : length (table_bytes (table_of c.args.t)) ≤ length c.args.out.now = omega (arith, size) in
    rw (← size, c.put_table.ensures) (sym (put_room _ c.args.out.now room))
