-- An element put in at a link of a woven kind.
use Rattle.std.specs.Prelude.{◌≡◌, ◌≤◌, ◌<◌, ◌+◌, ◌*◌, ◌^◌, ℕ, List, [], ◌∷◌, length, Option, Some}
use Rattle.node_arena.specs.declared.elements.Elem.{Elem}
use Rattle.node_arena.specs.declared.kinds.NodeKind.{NodeKind}
use Rattle.node_arena.specs.Arenas.{ArenaState}
use Rattle.node_arena.specs.Trees.{Trees, roots, Stands, IsReachedOnce}
use Rattle.node_arena.specs.Walks.{walk}
use Rattle.node_arena.specs.Conforming.{Conform, height}
use Rattle.node_arena.specs.Insertions.{Lacks, DifferInFew}
use Rattle.node_arena.specs.Passing.{PutsAt}

-- the link leads to this tree, or to nothing: it stands, conforms with kind k, has no element at the coordinate of x, and one more can be counted
pub record CanPutAt (s : List NodeKind) (k : ℕ) (a : ArenaState) (x : Elem) (link : Option ℕ) (t : Trees) : Type 0 where
  pub leads : roots t ≡ link ∷ []
  pub stands : Stands a t
  pub once : IsReachedOnce t
  pub conforms : Conform s k t
  pub lacks : Lacks x.at (walk s t)
  pub few : length (walk s t) < 4294967295

-- there are at least so many spare nodes as the number after n has binary digits
pub record HasSpareFor (n spare : ℕ) : Type 0 where
  pub digits : ℕ
  pub more : n + 1 < 2 ^ digits
  pub room : digits ≤ spare

-- x is put in, and node i is the root now
pub record PutsUnder (s : List NodeKind) (k : ℕ) (a b : ArenaState) (x : Elem) (t : Trees) (i : ℕ) : Type 0 where
  pub tree : Trees
  pub leads : roots tree ≡ Some i ∷ []
  pub puts : PutsAt s k a b (x ∷ []) t tree

-- at most two ticks for each level and one more were taken, and no more nodes differ; the tree is no higher than the digits of its length allow
pub record WritesFewAt (s : List NodeKind) (a b : ArenaState) (t : Trees) (old new : ℕ) : Type 0 where
  pub low : 2 ^ height s t ≤ length (walk s t) + 1
  pub steps : new ≤ old + 2 * height s t + 1
  pub differ : DifferInFew (2 * height s t + 1) a b
