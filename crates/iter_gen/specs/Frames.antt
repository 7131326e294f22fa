-- A walk that has come so far, as a path of places in nodes, and what it has left.
use Rattle.std.specs.Prelude.{◌≡◌, ◌≤◌, ◌<◌, ◌+◌, ◌-◌, ℕ, suc, max, List, [], ◌∷◌}
use Rattle.std.specs.Prelude.{◌++◌, map, drop, length, slice_get, Option, Some, None, if◌then◌else◌, nat_lt, unwrap_or}
use Rattle.std.specs.Option.{IsSomeAnd, option_map}
use Rattle.node_arena.specs.declared.elements.Elem.{Elem}
use Rattle.node_arena.specs.declared.kinds.NodeKind.{NodeKind}
use Rattle.node_arena.specs.declared.kinds.Shape.{Shape}
use Rattle.node_arena.specs.declared.kinds.Shape.TheVariants.{Flat, Post, Ends, Woven}
use Rattle.node_arena.specs.declared.sized.TheConstants.{MOST_ELEMENTS}
use Rattle.node_arena.specs.Arenas.{ArenaState, node_at, run_at}
use Rattle.node_arena.specs.Conforming.{IsRising}
use Rattle.node_arena.specs.Kinds.{shape_at}
use Rattle.node_arena.specs.Trees.{Trees, done, absent, node, roots, stored}
use Rattle.node_arena.specs.Walks.{Part, item, link, parts, joined, walk, walks}
use Rattle.iter_gen.specs.declared.paths.RunSpot.{RunSpot}
use Rattle.iter_gen.specs.declared.paths.NodeSpot.{NodeSpot}
use Rattle.iter_gen.specs.declared.paths.TheConstants.{MOST_PLACES}
use Rattle.iter_gen.specs.Acts.{HasAllLinks}
use Rattle.iter_gen.specs.Behind.{behind, past_link, BeginsWithItems, IsCalm}

-- ---- lists

-- the elements from the first one on whose coordinate isn't below
abbrev pub from : ℕ → List Elem → List Elem
from at [] = []
from at (e ∷ es) = if nat_lt e.at at then from at es else (e ∷ es)

-- the first element, if there is one, isn't below
abbrev pub StartsFrom : ℕ → List Elem → Type 0
StartsFrom at [] = Unit {0}
StartsFrom at (e ∷ es) = at ≤ e.at

-- ---- trees that can be walked

-- a part, with another thing at its link
abbrev pub part_map : {L M : Type 0} → (L → M) → Part L → Part M
part_map f (item e) = item e
part_map f (link l) = link (f l)

-- links in a row, one by one
abbrev pub split : Trees → List Trees
split done = []
split (absent rest) = absent done ∷ split rest
split (node i k run ls rest) = node i k run ls done ∷ split rest

-- how many places of a path a walk of a node needs, from what its links need
abbrev pub depth_by : Shape → ℕ → ℕ
depth_by Flat n = 1
depth_by (Post _) n = max 1 n
depth_by (Ends _ _) n = 1 + n
depth_by Woven n = 1 + n

-- how many places of a path a walk of the trees needs
abbrev pub depth : List NodeKind → Trees → ℕ
depth s done = 0
depth s (absent rest) = depth s rest
depth s (node i k run ls rest) = max (depth_by (shape_at s k) (depth s ls)) (depth s rest)

-- a node can be walked: its run isn't empty and has few elements, links and elements take turns, and its walk rises
pub record IsWalkable (s : List NodeKind) (k : ℕ) (run : List Elem) (ls : Trees) : Type 0 where
  pub some : 1 ≤ length run
  pub few : length run ≤ MOST_ELEMENTS
  pub links : HasAllLinks (shape_at s k) run (roots ls)
  pub calm : IsCalm (parts (shape_at s k) run (split ls))
  pub rising : IsRising (joined (parts (shape_at s k) run (walks s ls)))

-- each node stands, and can be walked
abbrev pub IsSound : List NodeKind → ArenaState → Trees → Type 0
IsSound s a done = Unit {0}
IsSound s a (absent rest) = IsSound s a rest
IsSound s a (node i k run ls rest) =
    (node_at a i ≡ Some (stored k run ls)) × IsWalkable s k run ls × IsSound s a ls × IsSound s a rest

-- ---- a place in a node

-- a node, by its kind, elements and links
pub record Frame : Type 0 where
  pub kind : ℕ
  pub run : List Elem
  pub links : Trees

-- the node under a number, as links in a row: one
abbrev pub tree_at : ℕ → Frame → Trees
tree_at i f = node i f.kind f.run f.links done

-- the parts of a node
abbrev pub parts_in : List NodeKind → Frame → List (Part Trees)
parts_in s f = parts (shape_at s f.kind) f.run (split f.links)

-- the elements of the parts, and of what hangs at them
abbrev pub elements : List NodeKind → List (Part Trees) → List Elem
elements s ps = joined (map (part_map (walk s)) ps)

-- what is left of a node from its element at a place on
abbrev pub left_in : List NodeKind → Frame → ℕ → List Elem
left_in s f place = elements s (past_link (behind place (parts_in s f)))

-- the node at the spot can be walked on from there, with so many places of the path before; from the spot's place to its stop no link comes between
pub record LiesIn (s : List NodeKind) (a : ArenaState) (spot : NodeSpot) (f : Frame) (before : ℕ) : Type 0 where
  pub sound : IsSound s a (tree_at spot.node f)
  pub ready : spot.place < spot.stop
  pub straight : BeginsWithItems (spot.stop - spot.place) (past_link (behind spot.place (parts_in s f)))
  pub room : depth s (tree_at spot.node f) + before ≤ MOST_PLACES

-- ---- a path

-- the spots of a path lie in these nodes, the outermost first
abbrev pub LieIn : List NodeKind → ArenaState → ℕ → List NodeSpot → List Frame → Type 0
LieIn s a n [] [] = Unit {0}
LieIn s a n [] (f ∷ fs) = ⊥
LieIn s a n (p ∷ ps) [] = ⊥
LieIn s a n (p ∷ ps) (f ∷ fs) = LiesIn s a p f n × LieIn s a (suc n) ps fs

-- what the nodes have left, the innermost first
abbrev pub ahead : List NodeKind → List NodeSpot → List Frame → List Elem
ahead s [] fs = []
ahead s (p ∷ ps) [] = []
ahead s (p ∷ ps) (f ∷ fs) = ahead s ps fs ++ left_in s f p.place

-- a path has these elements left
pub record PathHas (s : List NodeKind) (a : ArenaState) (path : List NodeSpot) (xs : List Elem) : Type 0 where
  pub frames : List Frame
  pub spots : LieIn s a 0 path frames
  pub are : ahead s path frames ≡ xs

-- a place in a flat run has these elements left
abbrev pub RunHas : ArenaState → RunSpot → List Elem → Type 0
RunHas a spot xs = IsSomeAnd (run_at a spot.run) (λ r. (drop spot.place r.elems ≡ xs) × IsRising r.elems × (spot.len ≡ length r.elems))

-- ---- on the way down

-- the coordinate of the first of some elements, 0 where there is none
abbrev pub first_coordinate : List Elem → ℕ
first_coordinate [] = 0
first_coordinate (e ∷ es) = e.at

-- the coordinate of the first element of a node
abbrev pub first_at : ArenaState → ℕ → ℕ
first_at a id = unwrap_or (option_map (λ n. first_coordinate n.run) (node_at a id)) 0

-- a node is to be entered from its beginning: what comes from the coordinate on in it and in the path's nodes is these elements
pub record IsToEnter (s : List NodeKind) (a : ArenaState) (path : List NodeSpot) (id at : ℕ) (xs : List Elem) : Type 0 where
  pub frames : List Frame
  pub frame : Frame
  pub spots : LieIn s a 0 path frames
  pub sound : IsSound s a (tree_at id frame)
  pub room : depth s (tree_at id frame) + length path ≤ MOST_PLACES
  pub starts : StartsFrom at (ahead s path frames)
  pub are : from at (elements s (parts_in s frame) ++ ahead s path frames) ≡ xs

-- the same of a node of which so many elements are passed, where the next element isn't below the coordinate
pub record IsToGoOn (s : List NodeKind) (a : ArenaState) (path : List NodeSpot) (id place at : ℕ) (xs : List Elem) : Type 0 where
  pub frames : List Frame
  pub frame : Frame
  pub spots : LieIn s a 0 path frames
  pub sound : IsSound s a (tree_at id frame)
  pub room : depth s (tree_at id frame) + length path ≤ MOST_PLACES
  pub starts : StartsFrom at (ahead s path frames)
  pub within : place ≤ length frame.run
  pub next : StartsFrom at (left_in s frame place)
  pub are : from at (elements s (behind place (parts_in s frame)) ++ ahead s path frames) ≡ xs

-- the walk can go on in a node of which so many elements are passed
abbrev pub CanGoOn : List NodeKind → ArenaState → List NodeSpot → ℕ → ℕ → Type 0
CanGoOn s a path id place = ∥ ((at : ℕ) × (xs : List Elem) × IsToGoOn s a path id place at xs) ∥₁

-- the path has elements left that rise, by some kinds
abbrev pub CanBeLeft : ArenaState → List NodeSpot → Type 0
CanBeLeft a path = ∥ ((s : List NodeKind) × (xs : List Elem) × PathHas s a path xs × IsRising xs) ∥₁

-- a child, if there is one, begins above the node
abbrev pub RisesTo : ArenaState → ℕ → Option ℕ → Type 0
RisesTo a id result = (child : ℕ) → result ≡ Some child → first_at a id < first_at a child

-- the path has the elements, or a child has still to be entered
abbrev pub GoesDown : List NodeKind → ArenaState → List NodeSpot → Option ℕ → ℕ → List Elem → Type 0
GoesDown s a path None at xs = PathHas s a path xs
GoesDown s a path (Some child) at xs = IsToEnter s a path child at xs

-- from a node of which so many elements are passed, whatever coordinate the walk goes down to
abbrev pub GoesDownFrom : List NodeKind → ArenaState → List NodeSpot → ℕ → ℕ → List NodeSpot → Option ℕ → Type 0
GoesDownFrom s a old id place new result = (at : ℕ) (xs : List Elem) → IsToGoOn s a old id place at xs → GoesDown s a new result at xs

-- nodes of a path are left for what comes from the coordinate on, or for a node in which to search for it
abbrev pub LeavesFor : ArenaState → List NodeSpot → ℕ → List NodeSpot → Option ℕ → Type 0
LeavesFor a old at new result = (s : List NodeKind) (xs : List Elem) → PathHas s a old xs → IsRising xs → GoesDown s a new result at (from at xs)

-- the first of these elements is answered, none where there is none, and the path has the others left
pub record PathTakes (s : List NodeKind) (a : ArenaState) (path : List NodeSpot) (result : Option Elem) (xs : List Elem) : Type 0 where
  pub first : result ≡ slice_get xs 0
  pub others : PathHas s a path (drop 1 xs)

-- the link that is read, where there is a link at all
abbrev pub link_read : Option (Option ℕ) → Option ℕ
link_read None = None
link_read (Some read) = read
