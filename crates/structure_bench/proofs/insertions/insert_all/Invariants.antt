use Rattle.node_arena.specs.Kinds.{kinds_of, root_of}
use Rattle.structure_bench.specs.Growing.{IsGrown}
use Rattle.structure_bench.proofs.insertions.insert_all.Given as goal

abbrev pub invariant-loop-turn : goal.invariant-loop-turn
invariant-loop-turn g l = IsGrown (kinds_of l.fn.code) (root_of l.fn.code) l.arena l.top l.free.items l.turn
