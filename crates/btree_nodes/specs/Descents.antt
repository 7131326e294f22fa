-- A woven tree into which an element has gone: it has its root still, or the root is split. No public clause cites this module.
use Rattle.std.specs.Prelude.{◌≡◌, ◌≤◌, ◌*◌, ℕ, List, [], ◌∷◌, ◌++◌, Option, Some, None}
use Rattle.node_arena.specs.declared.elements.Elem.{Elem}
use Rattle.node_arena.specs.declared.kinds.NodeKind.{NodeKind}
use Rattle.node_arena.specs.Arenas.{ArenaState}
use Rattle.node_arena.specs.Kinds.{kind_at}
use Rattle.node_arena.specs.Trees.{Trees, roots, beside, Stands, IsApart, IsReachedOnce, ChangesOnly}
use Rattle.node_arena.specs.Walks.{walk}
use Rattle.node_arena.specs.Conforming.{height}
use Rattle.node_arena.specs.Insertions.{put_in, DifferInFew}
use Rattle.btree_nodes.specs.Weaving.{IsRow}

-- the tree has x put in, with its root and height kept
pub record KeepsRoot (s : List NodeKind) (k : ℕ) (a b : ArenaState) (x : Elem) (t : Trees) : Type 0 where
  pub tree : Trees
  pub same_roots : roots tree ≡ roots t
  pub stands : Stands b tree
  pub once : IsReachedOnce tree
  pub row : (low : ℕ) → low ≤ (kind_at s k).lo → IsRow s k low (height s t) t → IsRow s k low (height s t) tree
  pub walk_is : walk s tree ≡ put_in x (walk s t)
  pub only : ChangesOnly a b t tree
  pub differ : DifferInFew (2 * height s t) a b

-- the tree is now two trees of its height with an element between them, and x is put in
pub record SplitsRoot (s : List NodeKind) (k : ℕ) (a b : ArenaState) (x : Elem) (t : Trees) (up : Elem) (right : ℕ) : Type 0 where
  pub lower : Trees
  pub upper : Trees
  pub same_roots : roots lower ≡ roots t
  pub right_root : roots upper ≡ Some right ∷ []
  pub stands : Stands b lower × Stands b upper
  pub once : IsReachedOnce lower × IsReachedOnce upper × IsApart lower upper
  pub row : IsRow s k (kind_at s k).lo (height s t) lower × IsRow s k (kind_at s k).lo (height s t) upper
  pub walk_is : walk s lower ++ up ∷ walk s upper ≡ put_in x (walk s t)
  pub only : ChangesOnly a b t (beside lower upper)
  pub differ : DifferInFew (2 * height s t) a b

-- one of the two: an element that is handed out stands between the halves of the old tree, the upper one under the number that comes with it
abbrev pub Grows : List NodeKind → ℕ → ArenaState → ArenaState → Elem → Trees → Option (Elem × ℕ) → Type 0
Grows s k a b x t None = KeepsRoot s k a b x t
Grows s k a b x t (Some p) = SplitsRoot s k a b x t p.0 p.1
