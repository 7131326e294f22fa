use Rattle.std.proofs.Math.Logic.{∥∥₁_elim}
use Rattle.std.proofs.Props.{props}
use Rattle.std.proofs.Common.{◌≡◌, ◌-◌, List, length, Some, IsSome, sym, subst, refl}
use Rattle.std.specs.List.{slice_get}
use Rattle.node_arena.specs.declared.elements.Elem.{Elem}
use Rattle.node_arena.specs.declared.kinds.NodeKind.{NodeKind}
use Rattle.node_arena.specs.Arenas.{ArenaState}
use Rattle.iter_gen.specs.declared.paths.NodeSpot.{NodeSpot}
use Rattle.iter_gen.specs.Frames.{PathHas}
use Rattle.iter_gen.proofs.LastPlaceLemmas.{Last, last, last-stands, coming-is, EndsIn, ends-in}
use Rattle.iter_gen.proofs.walking.coming.Goals as goal

ending : (path read : List NodeSpot) (spot : NodeSpot) → read ≡ path → Some spot ≡ slice_get read (length read - 1) → EndsIn path spot
ending path read spot e h = ends-in path spot (subst (λ p. Some spot ≡ slice_get p (length p - 1)) e h)

last_of : (s : List NodeKind) (a : ArenaState) (path : List NodeSpot) (spot : NodeSpot) (xs : List Elem) (e : EndsIn path spot) → PathHas s a path xs
    → Last s a e.before spot xs
last_of s a path spot xs e h = last s a e.before spot xs (subst (λ p. PathHas s a p xs) e.is h)

pub coordinate-requires : goal.coordinate-requires
coordinate-requires c = record {
  there = ∥∥₁_elim c.requires.there (hlevel props) (λ p.
      subst IsSome (sym (last-stands _ _ _ _ _ (last_of _ _ _ _ _ (ending _ _ _ c.deref.ensures.0 c.in-Some.ensures.value) p.2))) refl);
}

pub returns-in-Some : goal.returns-in-Some
returns-in-Some c = record {
  value = λ s xs h.
      coming-is _ _ _ _ _ (last_of s _ _ _ xs (ending _ _ _ c.deref.ensures.0 c.in-Some.ensures.value) h) _ c.coordinate.ensures.value;
}
