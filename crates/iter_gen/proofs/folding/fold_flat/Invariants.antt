use Rattle.std.proofs.Common.{IsSomeAnd}
use Rattle.node_arena.specs.Arenas.{run_at}
use Rattle.iter_gen.specs.Visiting.{IsAt}
use Rattle.iter_gen.proofs.folding.fold_flat.Given as goal

abbrev pub invariant-loop-place : goal.invariant-loop-place
invariant-loop-place g l = IsSomeAnd (run_at l.arena l.run) (λ r. IsAt g.V.Visitor.allows g.V.Visitor.visits l.fn.visitor l.visitor l.place r.elems)
