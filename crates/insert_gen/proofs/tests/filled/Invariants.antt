use Rattle.node_arena.specs.Kinds.{kinds_of, root_of}
use Rattle.insert_gen.specs.Trials.{IsGrown}
use Rattle.insert_gen.proofs.tests.filled.Given as goal

abbrev pub invariant-loop-i : goal.invariant-loop-i
invariant-loop-i g l = IsGrown (kinds_of l.code) (root_of l.code) l.arena l.top l.free.items
