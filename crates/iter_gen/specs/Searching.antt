-- A search that has come to a node, for the proofs alone: no public clause cites this module.
use Rattle.std.specs.Prelude.{◌≡◌, ◌⊎◌, ◌≤◌, ◌<◌, ◌-◌, ℕ, suc, List, [], ◌∷◌, Option, Some, None, if◌then◌else◌, nat_eq, slice_get, slice_index_or}
use Rattle.node_arena.specs.declared.elements.Elem.{Elem}
use Rattle.node_arena.specs.declared.kinds.NodeKind.{NodeKind}
use Rattle.node_arena.specs.declared.kinds.Shape.{Shape}
use Rattle.node_arena.specs.declared.kinds.Shape.TheVariants.{Flat, Post, Ends, Woven}
use Rattle.node_arena.specs.Arenas.{ArenaState, node_at}
use Rattle.node_arena.specs.Conforming.{Place, Hang}
use Rattle.node_arena.specs.Trees.{Trees, roots, Stands}
use Rattle.node_arena.specs.Walks.{walk}
use Rattle.iter_gen.specs.LookingUp.{elem_with, elem_in, HasNode}
use Rattle.iter_gen.specs.declared.looking_up.Spot.{Spot}
use Rattle.iter_gen.specs.declared.looking_up.Spot.TheVariants as spots
use Rattle.iter_gen.specs.declared.descending.Turn.{Turn}
use Rattle.iter_gen.specs.declared.descending.Turn.TheVariants as turns

-- ---- links of a node

-- the link behind a run of n elements
abbrev pub link_behind : Shape → ℕ → List (Option ℕ) → Option ℕ
link_behind Flat n links = None
link_behind (Post _) n links = slice_index_or links 0 None
link_behind (Ends _ _) n links = slice_index_or links 1 None
link_behind Woven n links = slice_index_or links n None

-- the link right before the element at a place
abbrev pub link_before : Shape → ℕ → List (Option ℕ) → Option ℕ
link_before Flat place links = None
link_before (Post _) place links = None
link_before (Ends _ _) place links = if nat_eq place 0 then slice_index_or links 0 None else None
link_before Woven place links = slice_index_or links place None

-- ---- trees in hand

-- the coordinates rise strictly from low on, and stay below top
abbrev pub RisesWithin : ℕ → ℕ → List Elem → Type 0
RisesWithin low top [] = low ≤ top
RisesWithin low top (e ∷ es) = (low ≤ e.at) × RisesWithin (suc e.at) top es

-- the tree hangs under this number
pub record HasRoot (a : ArenaState) (i : ℕ) (t : Trees) : Type 0 where
  pub root : roots t ≡ Some i ∷ []
  pub stands : Stands a t

-- The tree hangs under this number, is what may hang at a link, and its coordinates rise from low on and stay below end. Where end is 2^32,
-- they may be any.
pub record Searches (s : List NodeKind) (a : ArenaState) (i low end : ℕ) (t : Trees) : Type 0 where
  pub has : HasRoot a i t
  pub place : Place
  pub least : 1 ≤ place.least
  pub hangs : Hang s (place ∷ []) t
  pub top : ℕ
  pub rises : RisesWithin low top (walk s t)
  pub bound : (top ≤ end) ⊎ (end ≡ 4294967296)

-- ---- what a step leads to

-- the element with the coordinate is in what hangs under this number, or nowhere
pub record LeadsTo (s : List NodeKind) (a : ArenaState) (at i low end : ℕ) (xs : List Elem) (ls : Trees) : Type 0 where
  pub tree : Trees
  pub searches : Searches s a i low end tree
  pub same : elem_with at xs ≡ elem_with at (walk s tree)
  pub inside : (j : ℕ) → HasNode j tree → HasNode j ls

-- the link leads to the element with the coordinate, if there is one
abbrev pub Leads : List NodeKind → ArenaState → ℕ → Option ℕ → ℕ → ℕ → List Elem → Trees → Type 0
Leads s a at None low end xs ls = elem_with at xs ≡ None
Leads s a at (Some i) low end xs ls = LeadsTo s a at i low end xs ls

-- the element is at this place of the node with this number
pub record IsHere (s : List NodeKind) (a : ArenaState) (at i place : ℕ) (t : Trees) : Type 0 where
  pub elem : Elem
  pub there : elem_in (node_at a i) place ≡ Some elem
  pub found : elem_with at (walk s t) ≡ Some elem

-- a step of the search at the root of the tree
abbrev pub Turns : List NodeKind → ArenaState → ℕ → ℕ → ℕ → ℕ → Trees → Turn → Type 0
Turns s a at i low end t (turns.Here place) = IsHere s a at i place t
Turns s a at i low end t turns.Nowhere = elem_with at (walk s t) ≡ None
Turns s a at i low end t (turns.Down j from to) = LeadsTo s a at j from to (walk s t) t × (to - from < end - low)

-- ---- the whole

-- what hangs here has the element with the coordinate of the whole, and only nodes of the whole
pub record ComesTo (s : List NodeKind) (at : ℕ) (whole here : Trees) : Type 0 where
  pub same : elem_with at (walk s whole) ≡ elem_with at (walk s here)
  pub inside : (i : ℕ) → HasNode i here → HasNode i whole

-- the spot of the element with the coordinate is in one of the nodes of the tree
pub record IsSpotIn (s : List NodeKind) (a : ArenaState) (at : ℕ) (t : Trees) (i place : ℕ) : Type 0 where
  pub inside : HasNode i t
  pub here : IsHere s a at i place t

-- what a search of trees found
abbrev pub IsFoundIn : List NodeKind → ArenaState → ℕ → Trees → Option Spot → Type 0
IsFoundIn s a at t None = elem_with at (walk s t) ≡ None
IsFoundIn s a at t (Some (spots.Node i place)) = IsSpotIn s a at t i place
IsFoundIn s a at t (Some (spots.Run i place)) = ⊥

-- the element with the coordinate is at this place of a flat run
pub record IsPlaceIn (at : ℕ) (xs : List Elem) (i j place : ℕ) : Type 0 where
  pub same_run : j ≡ i
  pub elem : Elem
  pub there : slice_get xs place ≡ Some elem
  pub found : elem_with at xs ≡ Some elem

-- what a search of a flat run found
abbrev pub IsFoundOf : ℕ → ℕ → List Elem → Option Spot → Type 0
IsFoundOf at i xs None = elem_with at xs ≡ None
IsFoundOf at i xs (Some (spots.Node j place)) = ⊥
IsFoundOf at i xs (Some (spots.Run j place)) = IsPlaceIn at xs i j place
