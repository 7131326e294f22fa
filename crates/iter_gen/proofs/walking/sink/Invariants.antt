use Rattle.std.proofs.Common.{◌-◌, ◌+◌, ◌*◌, List, length}
use Rattle.node_arena.specs.declared.elements.Elem.{Elem}
use Rattle.iter_gen.specs.Frames.{IsToEnter, first_at}
use Rattle.iter_gen.proofs.walking.sink.Given as goal

abbrev pub invariant-loop-child : goal.invariant-loop-child
invariant-loop-child l = record {
  goes : ∥ ((xs : List Elem) × IsToEnter l.kinds l.arena l.path.items l.id l.at xs) ∥₁;
  keeps : (xs : List Elem) → IsToEnter l.kinds l.arena l.initial.path.items l.initial.id l.at xs → IsToEnter l.kinds l.arena l.path.items l.id l.at xs;
}

abbrev pub decreases-loop-child : goal.decreases-loop-child
decreases-loop-child l = 4294967296 * (128 - length l.path.items) + (l.at - first_at l.arena l.id)
