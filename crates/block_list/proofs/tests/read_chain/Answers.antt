use Rattle.std.proofs.Common.{subst}
use Rattle.block_list.specs.Filling.{LeadsInto}
use Rattle.block_list.proofs.Filling.{leads-some}
use Rattle.block_list.proofs.tests.read_chain.Goals as goal

pub read_run-requires : goal.read_run-requires
read_run-requires c = record {
  there = leads-some c.args.arena.now c.in-Some.id c.loop-number.invariant.0
      (subst (λ here. LeadsInto c.args.arena.now here c.loop-number.invariant.0) c.in-Some.is c.loop-number.invariant.1);
}
