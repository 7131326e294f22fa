-- What one element holds, exchanged.
use Rattle.std.specs.Prelude.{◌≡◌, ◌≢◌, ℕ, List, ◌∷◌, ◌++◌, Some, None, IsSomeAnd, slice_set}
use Rattle.node_arena.specs.declared.elements.Elem.{Elem}
use Rattle.node_arena.specs.declared.elements.Structure.{Structure}
use Rattle.node_arena.specs.declared.kinds.NodeKind.{NodeKind}
use Rattle.node_arena.specs.Arenas.{ArenaState, ChangesNode, ChangesRun, node_at, run_at}
use Rattle.node_arena.specs.Structures.{Tree, walk_of, IsStanding, IsConforming, Keeps, TakesNew}
use Rattle.iter_gen.specs.declared.looking_up.Spot.{Spot}
use Rattle.iter_gen.specs.declared.looking_up.Spot.TheVariants as spots
use Rattle.iter_gen.specs.LookingUp.{elem_with}

-- x stands in the place of an element with its coordinate, and all others are as before
pub record Exchanges (x : Elem) (old new : List Elem) : Type 0 where
  pub before : List Elem
  pub elem : Elem
  pub after : List Elem
  pub was : old ≡ before ++ elem ∷ after
  pub same_at : elem.at ≡ x.at
  pub is : new ≡ before ++ x ∷ after

-- an element of these has this coordinate
abbrev pub IsThere : ℕ → List Elem → Type 0
IsThere at es = elem_with at es ≢ None

-- the structure is another tree with x in the place of an element
pub record IsReplacedIn (s : List NodeKind) (k : ℕ) (a b : ArenaState) (x : Elem) (t : Tree) (st : Structure) : Type 0 where
  pub tree : Tree
  pub stands : IsStanding s b st tree
  pub conforms : IsConforming s k st tree
  pub exchanges : Exchanges x (walk_of s t) (walk_of s tree)
  pub keeps : Keeps a b t
  pub news : TakesNew a t tree

-- there is a node or a run at the spot, x stands there, and all other nodes and runs are as before
abbrev pub ReplacesAt : ArenaState → ArenaState → Elem → Spot → Type 0
ReplacesAt a b x (spots.Node i place) = IsSomeAnd (node_at a i) (λ n. ChangesNode a b i (Some (record n { run = slice_set n.run place x })))
ReplacesAt a b x (spots.Run i place) = IsSomeAnd (run_at a i) (λ r. ChangesRun a b i (Some (record r { elems = slice_set r.elems place x })))
