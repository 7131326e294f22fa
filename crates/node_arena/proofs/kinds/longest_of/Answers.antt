use Rattle.std.proofs.Common.{arith}
use Rattle.node_arena.specs.declared.kinds.Shape.TheVariants.{Flat}
use Rattle.node_arena.proofs.KindsLemmas.{longest_of-next}
use Rattle.node_arena.proofs.kinds.longest_of.Goals as goal

pub loop-kind-preserved : goal.loop-kind-preserved
loop-kind-preserved c =
    let found = c.max-longest.ensures in
    let before = c.loop-kind.invariant in
    let next = longest_of-next c.args.kinds.now c.loop-kind.kind-index (record { lo = 0; hi = 0; shape = Flat }) c.loop-kind-test.true in
    omega arith
