-- An element put into a list, into trees, and into a structure.
use Rattle.std.specs.Prelude.{◌≡◌, ◌≢◌, ◌≤◌, ◌+◌, ℕ, List, [], ◌∷◌, length, if◌then◌else◌, nat_lt}
use Rattle.node_arena.specs.declared.elements.Elem.{Elem}
use Rattle.node_arena.specs.declared.elements.Structure.{Structure}
use Rattle.node_arena.specs.declared.kinds.NodeKind.{NodeKind}
use Rattle.node_arena.specs.Arenas.{ArenaState, node_at}
use Rattle.node_arena.specs.Trees.{Trees, Stands, IsReachedOnce, ChangesOnly}
use Rattle.node_arena.specs.Walks.{walk}
use Rattle.node_arena.specs.Conforming.{Hang, whole, IsLevel, spine}
use Rattle.node_arena.specs.Structures.{Tree, walk_of, IsStanding, IsConforming, ChangesOnlyTree}

-- ---- lists

-- the elements with x before the first one whose coordinate isn't below
abbrev pub put_in : Elem → List Elem → List Elem
put_in x [] = x ∷ []
put_in x (e ∷ es) = if nat_lt e.at x.at then e ∷ put_in x es else (x ∷ e ∷ es)

-- the elements with each of some others put in
abbrev pub all_put_in : List Elem → List Elem → List Elem
all_put_in [] es = es
all_put_in (x ∷ xs) es = all_put_in xs (put_in x es)

-- no element has this coordinate
abbrev pub Lacks : ℕ → List Elem → Type 0
Lacks n [] = Unit {0}
Lacks n (e ∷ es) = (e.at ≢ n) × Lacks n es

-- ---- nodes that differ

-- the number is none of these
abbrev pub Misses : ℕ → List ℕ → Type 0
Misses j [] = Unit {0}
Misses j (m ∷ ms) = (m ≢ j) × Misses j ms

-- at most n nodes differ
pub record DifferInFew (n : ℕ) (a b : ArenaState) : Type 0 where
  pub touched : List ℕ
  pub few : length touched ≤ n
  pub others : (j : ℕ) → Misses j touched → node_at b j ≡ node_at a j

-- ---- trees

-- what hangs at a link, which isn't empty, has become another tree with these elements put in
pub record PutsIn (s : List NodeKind) (a b : ArenaState) (xs : List Elem) (t u : Trees) : Type 0 where
  pub stands : Stands b u
  pub once : IsReachedOnce u
  pub hangs : (k : ℕ) → Hang s (whole s k ∷ []) t → Hang s (whole s k ∷ []) u
  pub level : IsLevel s t → IsLevel s u
  pub spine_low : spine s u ≤ 1 + spine s t
  pub walk_is : walk s u ≡ all_put_in xs (walk s t)
  pub only : ChangesOnly a b t u

-- ---- structures

-- the structure has become another with x put in
pub record IsPutIn (s : List NodeKind) (k : ℕ) (a b : ArenaState) (x : Elem) (t : Tree) (new : Structure) : Type 0 where
  pub tree : Tree
  pub stands : IsStanding s b new tree
  pub conforms : IsConforming s k new tree
  pub walk_is : walk_of s tree ≡ put_in x (walk_of s t)
  pub only : ChangesOnlyTree a b t tree
