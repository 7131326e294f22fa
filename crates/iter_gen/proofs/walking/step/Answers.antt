use Rattle.std.proofs.Math.Logic.{∥∥₁_elim, ∥∥₁_map}
use Rattle.std.proofs.Props.{props}
use Rattle.std.proofs.Common.{◌≡◌, ◌++◌, ◌∷◌, [], List, IsSome, sym, subst, refl, arith, lit<}
use Rattle.node_arena.specs.declared.elements.Elem.{Elem}
use Rattle.node_arena.specs.declared.kinds.NodeKind.{NodeKind}
use Rattle.node_arena.specs.Arenas.{ArenaState}
use Rattle.iter_gen.specs.declared.paths.NodeSpot.{NodeSpot}
use Rattle.iter_gen.specs.Frames.{PathHas}
use Rattle.iter_gen.proofs.LastPlaceLemmas.{Last, last, last-stands, stays-there, goes-on-there, takes, low-place, last-short}
use Rattle.iter_gen.proofs.walking.step.Goals as goal

-- the path that was given, by its last place
last_of : (s : List NodeKind) (a : ArenaState) (path before : List NodeSpot) (spot : NodeSpot) (xs : List Elem) → path ≡ before ++ spot ∷ []
    → PathHas s a path xs
    → Last s a before spot xs
last_of s a path before spot xs e h = last s a before spot xs (subst (λ p. PathHas s a p xs) e h)

pub view-node-requires : goal.view-node-requires
view-node-requires c = record {
  there = ∥∥₁_elim c.requires.there (hlevel props) (λ p.
      subst IsSome (sym (last-stands _ _ _ _ _ (last_of _ _ _ _ _ _ c.in-Some.ensures.items p.1))) refl);
}

pub overflow_add-place : goal.overflow_add-place
overflow_add-place c = ∥∥₁_elim c.requires.there (hlevel props) (λ p. omega (arith, low-place _ _ _ _ _ (last_of _ _ _ _ _ _ c.in-Some.ensures.items p.1)))

pub push-requires : goal.push-requires
push-requires c =
    (lit< tt, ∥∥₁_elim c.requires.there (hlevel props) (λ p. last-short _ _ _ _ _ (last_of _ _ _ _ _ _ c.in-Some.ensures.items p.1)))

pub pass-requires : goal.pass-requires
pass-requires c = record {
  there = ∥∥₁_map c.requires.there (λ p. (_, goes-on-there _ _ _ _ _ (last_of _ _ _ _ _ _ c.in-Some.ensures.items p.1)));
}

pub returns-then-place-spot : goal.returns-then-place-spot
returns-then-place-spot c = record {
  next = λ xs h.
      let l = last_of _ _ _ _ _ xs c.in-Some.ensures.items h in
      takes _ _ _ _ _ l _ c.view-node.ensures.value _ _ c.elem-elem.ensures.value (rw c.push.ensures.items (stays-there _ _ _ _ _ l c.if-place-spot.true));
}

pub returns-else-place-spot : goal.returns-else-place-spot
returns-else-place-spot c = record {
  next = λ xs h.
      let l = last_of _ _ _ _ _ xs c.in-Some.ensures.items h in
      takes _ _ _ _ _ l _ c.view-node.ensures.value _ _ c.elem-elem.ensures.value (c.pass.ensures.left _ (goes-on-there _ _ _ _ _ l));
}
