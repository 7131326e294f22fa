use Rattle.std.proofs.Common.{◌≡◌, List, length}
use Rattle.node_arena.specs.declared.elements.Elem.{Elem}
use Rattle.node_arena.specs.declared.kinds.NodeKind.{NodeKind}
use Rattle.node_arena.specs.Conforming.{IsRising}
use Rattle.iter_gen.specs.Frames.{PathHas, from}
use Rattle.iter_gen.proofs.walking.leave.Given as goal

abbrev pub invariant-loop-first : goal.invariant-loop-first
invariant-loop-first l = record {
  goes : ∥ ((s : List NodeKind) × (xs : List Elem) × PathHas s l.arena l.path.items xs × IsRising xs) ∥₁;
  keeps : (s : List NodeKind) (xs : List Elem) → PathHas s l.arena l.initial.path.items xs → IsRising xs
      → (ys : List Elem) × PathHas s l.arena l.path.items ys × IsRising ys × (from l.at ys ≡ from l.at xs);
}

abbrev pub decreases-loop-first : goal.decreases-loop-first
decreases-loop-first l = length l.path.items
