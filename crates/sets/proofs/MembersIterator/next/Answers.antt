-- The lowest member is one of 32, and what is left is less.
-- Assumes nothing.
use Rattle.std.proofs.Common.{ℕ, ◌<◌, arith, rules}
use Rattle.std.proofs.Math.Path.{subst⁻¹}
use Rattle.theory.proofs.Sets.{in_small}
use Rattle.sets.specs.Members.{rest_less}
use Rattle.sets.proofs.MembersIterator.next.Goals as goal

pub rest-self-requires : goal.rest-self-requires
rest-self-requires c = in_small _ 32 _ (omega arith) c.lowest-m.ensures.member

pub returns-clause-goes : goal.returns-clause-goes
returns-clause-goes c =
    let less : c.rest-self.result < c.args.self.now.0 = subst⁻¹ (λ (k : ℕ). k < c.args.self.now.0) c.rest-self.ensures (rest_less c.args.self.now.0 c.lowest-m.result c.lowest-m.ensures.member) in
    search rules
