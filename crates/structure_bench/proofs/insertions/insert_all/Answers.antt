use Rattle.std.proofs.Common.{subst}
use Rattle.node_arena.specs.Rules.{Serves}
use Rattle.structure_bench.proofs.GrowingLemmas.{grown-empty}
use Rattle.structure_bench.proofs.insertions.insert_all.Goals as goal

pub loop-turn-init : goal.loop-turn-init
loop-turn-init g c =
    grown-empty _ _ _ _ (subst (λ s. Serves s c.arena_for-arena.result) c.kinds.ensures.value c.arena_for-arena.ensures.serves)
