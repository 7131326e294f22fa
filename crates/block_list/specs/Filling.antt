-- Elements put into a chain one after another: what the tests keep. No public clause cites this module.
use Rattle.std.specs.Prelude.{◌≡◌, ◌≤◌, ◌⊎◌, ℕ, Bool, true, false, List, [], ◌∷◌, Option, Some, None, IsSome, slice_index_or}
use Rattle.node_arena.specs.declared.elements.Elem.{Elem}
use Rattle.node_arena.specs.declared.elements.Step.{Step}
use Rattle.node_arena.specs.declared.elements.Step.TheVariants.{Done, Pass}
use Rattle.node_arena.specs.declared.kinds.NodeKind.{NodeKind}
use Rattle.node_arena.specs.declared.kinds.Shape.{Shape}
use Rattle.node_arena.specs.declared.kinds.Shape.TheVariants.{Flat, Post, Ends, Woven}
use Rattle.node_arena.specs.Arenas.{ArenaState, node_at}
use Rattle.node_arena.specs.Conforming.{Conform, spine}
use Rattle.node_arena.specs.Kinds.{shape_at}
use Rattle.node_arena.specs.Passing.{discipline, chains}
use Rattle.node_arena.specs.Trees.{Trees, done, node, roots, Stands, IsReachedOnce}
use Rattle.node_arena.specs.Walks.{walk}

-- the coordinates of these elements are marked
abbrev pub AllMarked : List Bool → List Elem → Type 0
AllMarked marks [] = Unit {0}
AllMarked marks (e ∷ es) = (slice_index_or marks e.at false ≡ true) × AllMarked marks es

-- a kind hasn't two links
abbrev pub HasNoEnds : Shape → Type 0
HasNoEnds Flat = Unit {0}
HasNoEnds (Post p) = Unit {0}
HasNoEnds (Ends p q) = ⊥
HasNoEnds Woven = Unit {0}

-- no kind has two links; or the number is small
abbrev pub IsLow : List NodeKind → ℕ → Type 0
IsLow s n = ((k : ℕ) → HasNoEnds (shape_at s k)) ⊎ (n ≤ 96)

-- node i begins a chain that conforms, whose coordinates are marked; n elements have gone in
pub record Holds (s : List NodeKind) (a : ArenaState) (i n : ℕ) (marks : List Bool) (t : Trees) : Type 0 where
  pub kind : ℕ
  pub run : List Elem
  pub links : Trees
  pub is : t ≡ node i kind run links done
  pub stands : Stands a t
  pub once : IsReachedOnce t
  pub conforms : Conform s kind t
  pub chain : discipline (shape_at s kind) ≡ chains
  pub marked : AllMarked marks (walk s t)
  pub low : ((k : ℕ) → HasNoEnds (shape_at s k)) ⊎ (spine s t ≤ n)

-- where the element went in, there is such a chain again; where elements are passed on, the node is there
abbrev pub HoldsAfter : List NodeKind → ArenaState → ℕ → ℕ → List Bool → Step → Type 0
HoldsAfter s a i n marks (Done deep) = (t : Trees) × Holds s a i n marks t
HoldsAfter s a i n marks (Pass j side xs above) = IsSome (node_at a j)

-- these links stand, and the number is one of theirs, or none
pub record LeadsInto (a : ArenaState) (link : Option ℕ) (t : Trees) : Type 0 where
  pub stands : Stands a t
  pub place : ℕ
  pub is : link ≡ slice_index_or (roots t) place None

-- the chain at node i can be read; where elements were passed on, the node that passed them
abbrev pub IsReadable : ArenaState → ℕ → Step → Type 0
IsReadable a i (Done deep) = (t : Trees) × LeadsInto a (Some i) t
IsReadable a i (Pass j side xs above) = IsSome (node_at a j)
