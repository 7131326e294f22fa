use Rattle.std.proofs.Common.{subst}
use Rattle.node_arena.specs.Kinds.{kinds_of, root_of}
use Rattle.structure_bench.proofs.GrowingLemmas.{IsSame-self, IsSame-rebalanced, IsRebalancedIn}
use Rattle.structure_bench.proofs.insertions.shallow.Goals as goal

pub returns-then-top-lt-MOST_SPINE-clause-same : goal.returns-then-top-lt-MOST_SPINE-clause-same
returns-then-top-lt-MOST_SPINE-clause-same g c =
    let q = c.requires.holds in
    IsSame-self _ _ _ _ q.0 q.1 q.2

pub returns-clause-same : goal.returns-clause-same
returns-clause-same g c =
    let q = c.requires.holds in
    let f = subst (λ s. IsRebalancedIn s c.root.result c.args.arena.now c.rebalance.new.arena c.args.top c.rebalance.result) c.kinds.ensures.value
    c.rebalance.ensures.ok in
    let h = subst (λ k. IsRebalancedIn (kinds_of c.args.code.now) k c.args.arena.now c.rebalance.new.arena c.args.top c.rebalance.result)
    c.root.ensures.value f in
    IsSame-rebalanced (kinds_of c.args.code.now) (root_of c.args.code.now) _ _ _ q.0 q.1 q.2 _ h
