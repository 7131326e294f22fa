-- A fold that has come to a node, for the proofs alone: no public clause cites this module.
use Rattle.std.specs.Prelude.{◌≡◌, ◌⊎◌, ◌≤◌, ℕ, List, [], ◌∷◌, ◌++◌, length, Option, Some, None, Result}
use Rattle.node_arena.specs.declared.elements.Elem.{Elem}
use Rattle.node_arena.specs.declared.kinds.NodeKind.{NodeKind}
use Rattle.node_arena.specs.declared.kinds.Shape.{Shape}
use Rattle.node_arena.specs.declared.kinds.Shape.TheVariants.{Flat, Post, Ends, Woven}
use Rattle.node_arena.specs.Arenas.{NodeState, ArenaState}
use Rattle.node_arena.specs.Conforming.{Place, Hang, children, places}
use Rattle.node_arena.specs.Kinds.{shape_at}
use Rattle.node_arena.specs.Trees.{Trees, done, absent, node, roots, Stands}
use Rattle.node_arena.specs.Walks.{parts, weave, joined, walk, walks}
use Rattle.iter_gen.specs.Searching.{RisesWithin, HasRoot, Searches}
use Rattle.iter_gen.specs.Visiting.{Visits, AllowsEach}

-- the walk of the first of the trees
abbrev pub first_walk : List NodeKind → Trees → List Elem
first_walk s done = []
first_walk s (absent rest) = []
first_walk s (node i k run ls rest) = joined (parts (shape_at s k) run (walks s ls))

-- what hangs at link 0, element 0, and so on, without what hangs behind the last element
abbrev pub woven_front : List Elem → List (List Elem) → List Elem
woven_front [] ws = []
woven_front (x ∷ xs) [] = x ∷ woven_front xs []
woven_front (x ∷ xs) (w ∷ ws) = w ++ x ∷ woven_front xs ws

-- the walk of a node without what hangs behind its run
abbrev pub front : List NodeKind → Shape → List Elem → Trees → List Elem
front s Flat run ls = run
front s (Post _) run ls = run
front s (Ends _ _) run ls = first_walk s ls ++ run
front s Woven run ls = woven_front run (walks s ls)

-- The trees hang at the links of a node with this kind and run, and the coordinates stay below end. Where end is 2^32, they may be any.
pub record HangsAt (s : List NodeKind) (a : ArenaState) (end : ℕ) (n : NodeState) (ls : Trees) : Type 0 where
  pub links : n.links ≡ roots ls
  pub stands : Stands a ls
  pub hangs : Hang s (places s (shape_at s n.kind) n.kind n.run ls) ls
  pub some_run : 1 ≤ length n.run
  pub top : ℕ
  pub rises : RisesWithin 0 top (joined (parts (shape_at s n.kind) n.run (walks s ls)))
  pub bound : (top ≤ end) ⊎ (end ≡ 4294967296)

-- the trees hang between these elements, and the coordinates stay below end, or may be any
pub record HangsBetween (s : List NodeKind) (a : ArenaState) (end : ℕ) (run : List Elem) (links : List (Option ℕ)) (ls : Trees) : Type 0 where
  pub same : links ≡ roots ls
  pub stands : Stands a ls
  pub place : Place
  pub least : 1 ≤ place.least
  pub hangs : Hang s (children place run) ls
  pub top : ℕ
  pub rises : RisesWithin 0 top (joined (weave run (walks s ls)))
  pub bound : (top ≤ end) ⊎ (end ≡ 4294967296)

-- these trees hang at the links of a node
pub record HasLinks (a : ArenaState) (links : List (Option ℕ)) (ls : Trees) : Type 0 where
  pub same : links ≡ roots ls
  pub stands : Stands a ls

-- these elements are the walk of a tree that hangs under this number
pub record IsWalkOf (s : List NodeKind) (a : ArenaState) (i low end : ℕ) (xs : List Elem) : Type 0 where
  pub tree : Trees
  pub searches : Searches s a i low end tree
  pub same : xs ≡ walk s tree

-- these elements are the walk of what hangs at a link
abbrev pub IsWalkAt : List NodeKind → ArenaState → Option ℕ → ℕ → ℕ → List Elem → Type 0
IsWalkAt s a None low end xs = xs ≡ []
IsWalkAt s a (Some i) low end xs = IsWalkOf s a i low end xs

-- ---- what a fold asks and does

module _ (allows : Elem → Type 0) (s : List NodeKind) (a : ArenaState) where
  -- what hangs at a link may be handed over
  pub record CanFoldLink (link : Option ℕ) (end : ℕ) : Type 0 where
    pub elems : List Elem
    pub hangs : IsWalkAt s a link 0 end elems
    pub allowed : AllowsEach allows elems

  -- the elements of a woven node with children, and what hangs before each, may be handed over
  pub record CanFoldBetween (end : ℕ) (n : NodeState) : Type 0 where
    pub trees : Trees
    pub hangs : HangsBetween s a end n.run n.links trees
    pub allowed : AllowsEach allows (woven_front n.run (walks s trees))

  -- the elements of a node, and what hangs before them, may be handed over
  pub record CanFoldFront (end : ℕ) (n : NodeState) : Type 0 where
    pub trees : Trees
    pub hangs : HangsAt s a end n trees
    pub allowed : AllowsEach allows (front s (shape_at s n.kind) n.run trees)

  -- the elements at and below a node may be handed over
  pub record CanFoldBelow (i end : ℕ) : Type 0 where
    pub tree : Trees
    pub searches : Searches s a i 0 end tree
    pub allowed : AllowsEach allows (walk s tree)

module _ {V E : Type 0} (visit : V → Elem → Result (Unit {0}) E → V → Type 0) (s : List NodeKind) (a : ArenaState) (old : V)
    (result : Result (Unit {0}) E) (new : V) where
  -- what hangs at a link is handed over
  abbrev pub FoldsLink : Option ℕ → ℕ → Type 0
  FoldsLink link end = (xs : List Elem) → IsWalkAt s a link 0 end xs → Visits visit xs old result new

  -- the elements of a woven node with children, and what hangs before each, are handed over
  abbrev pub FoldsBetween : NodeState → Type 0
  FoldsBetween n = (ls : Trees) → HasLinks a n.links ls → Visits visit (woven_front n.run (walks s ls)) old result new

  -- the elements of a node, and what hangs before them, are handed over
  abbrev pub FoldsFront : NodeState → Type 0
  FoldsFront n = (ls : Trees) → HasLinks a n.links ls → Visits visit (front s (shape_at s n.kind) n.run ls) old result new

  -- the elements at and below a node are handed over
  abbrev pub FoldsBelow : ℕ → Type 0
  FoldsBelow i = (t : Trees) → HasRoot a i t → Visits visit (walk s t) old result new
