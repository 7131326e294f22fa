use Rattle.std.proofs.Math.Logic.{∥∥₁_map}
use Rattle.node_arena.specs.Kinds.{kinds_of}
use Rattle.node_arena.specs.Structures.{walk_of}
use Rattle.iter_gen.proofs.WalkersLemmas.{conforms-rising}
use Rattle.iter_gen.proofs.walker.Walker.open.Goals as goal

pub invariant_of-result : goal.invariant_of-result
invariant_of-result c =
    ∥∥₁_map c.requires.conforms (λ p. (
      walk_of (kinds_of c.args.code.now) p.0,
      record { has = c.start-run.ensures.has p.0 p.1; rising = conforms-rising _ _ _ p.0 p.1.conforms },
    ))
