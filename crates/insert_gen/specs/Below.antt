-- Elements put in where a link leads. No public clause cites this module.
use Rattle.std.specs.Prelude.{◌≡◌, ◌≤◌, ◌<◌, ◌+◌, ◌*◌, ◌^◌, ℕ, List, [], ◌∷◌, length, Option, Some, None, IfSome, slice_set, slice_index_or}
use Rattle.node_arena.specs.declared.elements.Elem.{Elem}
use Rattle.node_arena.specs.declared.kinds.NodeKind.{NodeKind}
use Rattle.node_arena.specs.declared.kinds.Shape.{Shape}
use Rattle.node_arena.specs.declared.kinds.Shape.TheVariants.{Flat, Post, Ends, Woven}
use Rattle.node_arena.specs.Arenas.{ArenaState, NodeState, node_at, ChangesNode}
use Rattle.node_arena.specs.Conforming.{Conform, IsRising, spine}
use Rattle.node_arena.specs.Kinds.{shape_at}
use Rattle.node_arena.specs.Passing.{AllLack, PutsAt}
use Rattle.node_arena.specs.Trees.{Trees, absent, done, roots, Stands, IsReachedOnce}
use Rattle.node_arena.specs.Walks.{walk}
use Rattle.insert_gen.specs.Needs.{passed_to_woven}

-- ---- links

-- a node of these links has links to other structures: it is of a chain or of a tree of chunks
abbrev pub IsLinked : Shape → Type 0
IsLinked Flat = ⊥
IsLinked (Post _) = Unit {0}
IsLinked (Ends _ _) = Unit {0}
IsLinked Woven = ⊥

-- the links of a node behind and before which nothing is
abbrev pub no_links : Shape → List (Option ℕ)
no_links Flat = []
no_links (Post _) = None ∷ []
no_links (Ends _ _) = None ∷ None ∷ []
no_links Woven = []

-- the spine of a structure of one node with these links
abbrev pub own_depth : Shape → ℕ
own_depth Flat = 0
own_depth (Post _) = 0
own_depth (Ends _ _) = 1
own_depth Woven = 0

-- the node has one or two links, one of them at this place
abbrev pub HasLinkAt : ℕ → NodeState → Type 0
HasLinkAt place n = (place < length n.links) × (length n.links ≤ 2)

-- the link at a place of a node, if there is the node
abbrev pub link_in : Option NodeState → ℕ → Option ℕ
link_in None place = None
link_in (Some n) place = slice_index_or n.links place None

-- ---- what may be put in

-- The link leads to this tree, or to nothing: it stands, conforms with kind k, and lacks the coordinates of the elements, which rise. Altogether
-- they can be counted.
pub record CanTake (s : List NodeKind) (k : ℕ) (a : ArenaState) (link : Option ℕ) (xs : List Elem) (t : Trees) : Type 0 where
  pub leads : roots t ≡ link ∷ []
  pub stands : Stands a t
  pub once : IsReachedOnce t
  pub conforms : Conform s k t
  pub rising : IsRising xs
  pub lack : AllLack xs (walk s t)
  pub few : length xs + length (walk s t) ≤ 4294967295

-- there are spare nodes for so many elements, each of which goes into a woven structure that has at most this many with it
pub record HasSpareForAll (count all spare : ℕ) : Type 0 where
  pub digits : ℕ
  pub more : all < 2 ^ digits
  pub room : count * digits ≤ spare

-- there are spare nodes for one insertion into a structure of at most so many elements, whose root has links
pub record IsEnough (s : List NodeKind) (len spare : ℕ) : Type 0 where
  pub digits : ℕ
  pub more : len < 2 ^ digits
  pub room : 1 + passed_to_woven s * digits ≤ spare

-- ---- what it becomes

-- the elements are put in, and this link leads there
pub record PutsBelow (s : List NodeKind) (k : ℕ) (a b : ArenaState) (xs : List Elem) (t : Trees) (link : Option ℕ) : Type 0 where
  pub tree : Trees
  pub leads : roots tree ≡ link ∷ []
  pub puts : PutsAt s k a b xs t tree

-- x is the one element of a first node, which has this number
pub record IsFirst (s : List NodeKind) (k : ℕ) (a b : ArenaState) (x : Elem) (i : ℕ) : Type 0 where
  pub below : PutsBelow s k a b (x ∷ []) (absent done) (Some i)
  pub deep : spine s below.tree ≡ own_depth (shape_at s k)

-- the elements are put in where the link at a place of node i leads, and then the link is set
pub record Relinks (s : List NodeKind) (k : ℕ) (a b : ArenaState) (i place : ℕ) (xs : List Elem) (t : Trees) : Type 0 where
  pub between : ArenaState
  pub link : Option ℕ
  pub below : PutsBelow s k a between xs t link
  pub sets : IfSome (node_at a i) (λ n. ChangesNode between b i (Some (record n { links = slice_set n.links place link })))
