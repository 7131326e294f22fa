use Rattle.std.proofs.Math.Logic.{∥∥₁_elim, ∥∥₁_map}
use Rattle.std.proofs.Props.{props}
use Rattle.std.proofs.Common.{◌≡◌, ◌<◌, [], List, sym, subst}
use Rattle.dt_model.specs.declared.declared_tensors.Schema.{Schema}
use Rattle.node_arena.specs.declared.elements.Structure.{Structure}
use Rattle.node_arena.specs.declared.elements.Top.TheVariants as tops
use Rattle.node_arena.specs.declared.kinds.NodeKind.{NodeKind}
use Rattle.node_arena.specs.declared.numbers.NodeId.{NodeId}
use Rattle.node_arena.specs.Arenas.{ArenaState}
use Rattle.node_arena.specs.Kinds.{kinds_of, root_of}
use Rattle.node_arena.specs.Rules.{AreSound}
use Rattle.node_arena.specs.Structures.{Tree, walk_of}
use Rattle.iter_gen.specs.declared.paths.NodeSpot.{NodeSpot}
use Rattle.iter_gen.specs.Frames.{IsToEnter, PathHas}
use Rattle.iter_gen.specs.Walkers.{Conforms}
use Rattle.iter_gen.proofs.WalkersLemmas.{begins, run-stands}
use Rattle.iter_gen.proofs.walker.start.Goals as goal

enters_top : (schema : Schema) (kinds : List NodeKind) (a : ArenaState) (path : List NodeSpot) (st : Structure) (i : NodeId) (t : Tree)
    → kinds ≡ kinds_of schema
    → AreSound kinds → path ≡ [] → st.len < 4294967296 → st.top ≡ tops.Node i → Conforms schema a st t
    → IsToEnter kinds a path i 0 (walk_of (kinds_of schema) t)
enters_top schema kinds a path st i t k sound e short top c =
    subst (λ p. IsToEnter kinds a p i 0 (walk_of (kinds_of schema) t)) (sym e)
    (subst (λ s. IsToEnter s a [] i 0 (walk_of (kinds_of schema) t)) (sym k)
    (begins (kinds_of schema) (subst AreSound k sound) a (root_of schema) st short i t top c.stands c.conforms))

pub sink-requires : goal.sink-requires
sink-requires c = record {
  there = ∥∥₁_map c.requires.conforms (λ p. (
    walk_of (kinds_of c.args.code.now) p.0,
    enters_top _ _ _ _ _ _ p.0 c.kinds.ensures.value c.kinds.ensures.sound c.requires.empty c.requires.short c.in-Node.is p.1,
  ));
}

pub first-requires : goal.first-requires
first-requires c = record { there = ∥∥₁_elim c.requires.conforms (hlevel props) (λ p. run-stands _ _ _ p.0 _ c.in-Run.is p.1.stands) }

pub returns-in-Node : goal.returns-in-Node
returns-in-Node c = record {
  has = λ t h.
      subst (λ s. PathHas s c.args.arena.now c.sink.new.path.items (walk_of (kinds_of c.args.code.now) t)) c.kinds.ensures.value
      (c.sink.ensures.left (walk_of (kinds_of c.args.code.now) t)
      (enters_top _ _ _ _ _ _ t c.kinds.ensures.value c.kinds.ensures.sound c.requires.empty c.requires.short c.in-Node.is h));
}
