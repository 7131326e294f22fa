-- Trees that have been added to an arena, for the proofs alone: no public clause cites this module.
use Rattle.std.specs.Prelude.{◌≡◌, ◌<◌, ◌≤◌, ◌+◌, ◌*◌, ◌/◌, ◌^◌, ℕ, zero, suc, Bool, true, false, List, [], ◌∷◌, ◌++◌, length, nat_eq, Option, Some, None, IsSome, if◌then◌else◌}
use Rattle.node_arena.specs.declared.elements.Elem.{Elem}
use Rattle.node_arena.specs.declared.elements.Held.TheVariants.{Number}
use Rattle.node_arena.specs.declared.elements.Structure.{Structure}
use Rattle.node_arena.specs.declared.elements.Top.{Top}
use Rattle.node_arena.specs.declared.elements.Top.TheVariants as tops
use Rattle.node_arena.specs.declared.kinds.NodeKind.{NodeKind}
use Rattle.node_arena.specs.declared.kinds.Shape.{Shape}
use Rattle.node_arena.specs.declared.kinds.Shape.TheVariants.{Flat, Post, Ends, Woven}
use Rattle.node_arena.specs.Arenas.{ArenaState, node_at, run_at}
use Rattle.node_arena.specs.Kinds.{kind_at, shape_at}
use Rattle.node_arena.specs.Trees.{Trees, done, node, roots, Stands, Avoids, IsReachedOnce, KeepsOutside, TakesFree}
use Rattle.node_arena.specs.Walks.{walk, walks}
use Rattle.node_arena.specs.Conforming.{Place, Hang, places, height, AllHigh, IsLevel, spine}

-- these trees have been added under new numbers, and all that was there is as before
pub record Adds (a b : ArenaState) (t : Trees) : Type 0 where
  pub stands : Stands b t
  pub once : IsReachedOnce t
  pub keeps : KeepsOutside a b done
  pub news : TakesFree a done t
  pub others : (i : ℕ) → Avoids i t → node_at b i ≡ node_at a i
  pub runs : b.runs ≡ a.runs
  pub most : b.nodes.most ≡ a.nodes.most

-- a tree that may hang at this place has been added, with this root and these elements
pub record Builds (s : List NodeKind) (p : Place) (a b : ArenaState) (es : List Elem) (root : Option ℕ) : Type 0 where
  pub tree : Trees
  pub root_is : roots tree ≡ root ∷ []
  pub adds : Adds a b tree
  pub hangs : Hang s (p ∷ []) tree
  pub level : IsLevel s tree
  pub walk_is : walk s tree ≡ es
  pub spine_low : (d : ℕ) → length es < 2 ^ d → spine s tree ≤ d

-- the top at a root
abbrev pub top_at : Option ℕ → Top
top_at None = tops.Empty
top_at (Some i) = tops.Node i

-- ---- how many nodes are taken

-- all links of these lead to the kind itself
abbrev pub leads_home : ℕ → Shape → Bool
leads_home k Flat = false
leads_home k (Post p) = nat_eq p k
leads_home k (Ends p q) = if nat_eq p k then nat_eq q k else false
leads_home k Woven = true

-- the nodes of a structure have so many elements each, but for one that may be short
abbrev pub fill_by : ℕ → NodeKind → Shape → ℕ
fill_by k kind Flat = 1
fill_by k kind (Post p) = if leads_home k (Post p) then kind.hi else 1
fill_by k kind (Ends p q) = if leads_home k (Ends p q) then kind.hi else 1
fill_by k kind Woven = kind.hi / 2

-- the same of a kind by its number
abbrev pub fill_of : List NodeKind → ℕ → ℕ
fill_of s k = fill_by k (kind_at s k) (shape_at s k)

-- a first node has so many elements, and each one behind it so many
abbrev pub headed : ℕ → ℕ → ℕ → ℕ
headed first each zero = 0
headed first each (suc more) = first + more * each

-- for at least so many elements that many nodes suffice
abbrev pub capacity_by : List NodeKind → ℕ → Shape → ℕ → ℕ
capacity_by s k Flat nodes = nodes
capacity_by s k (Post p) nodes = if nat_eq p k then nodes * (kind_at s k).hi else headed (kind_at s k).hi (fill_of s p) nodes
capacity_by s k (Ends p q) nodes = nodes * fill_by k (kind_at s k) (Ends p q)
capacity_by s k Woven nodes = nodes * ((kind_at s k).hi / 2)

-- the same of a kind by its number
abbrev pub capacity : List NodeKind → ℕ → ℕ → ℕ
capacity s k nodes = capacity_by s k (shape_at s k) nodes

-- ---- woven nodes

-- there are so many levels below the root, and the room for gaps is the least that suffices
pub record FitsLevels (width levels room gaps : ℕ) : Type 0 where
  pub room_is : room ≡ width ^ suc levels
  pub fits : gaps ≤ room
  pub needed : width ^ levels < gaps

-- a woven node has been added, with so many levels below it and these elements; it is at least half full where that room is half filled
pub record Weaves (s : List NodeKind) (k levels room : ℕ) (a b : ArenaState) (es : List Elem) (i : ℕ) : Type 0 where
  pub run : List Elem
  pub links : Trees
  pub adds : Adds a b (node i k run links done)
  pub some : 1 ≤ length run
  pub few : length run ≤ (kind_at s k).hi
  pub half : room ≤ 2 * (length es + 1) → (kind_at s k).hi ≤ 2 * length run + 1
  pub hangs : Hang s (places s Woven k run links) links
  pub level : IsLevel s (node i k run links done)
  pub high : height s links ≡ levels
  pub walk_is : walk s (node i k run links done) ≡ es

-- a place for each element
abbrev pub behind : Place → List Elem → List Place
behind p [] = []
behind p (x ∷ xs) = p ∷ behind p xs

-- an element before each list
abbrev pub laced : List Elem → List (List Elem) → List Elem
laced [] ws = []
laced (x ∷ xs) [] = []
laced (x ∷ xs) (w ∷ ws) = x ∷ w ++ laced xs ws

-- the place of a child of a woven node
abbrev pub child_place : List NodeKind → ℕ → Place
child_place s k = record { kind = k; least = (kind_at s k).lo; must = true }

-- the later children of a woven node have been added, each behind an element of the run
pub record Laces (s : List NodeKind) (k levels : ℕ) (a b : ArenaState) (es : List Elem) (run : List Elem) (links : List (Option ℕ)) : Type 0 where
  pub row : Trees
  pub links_are : roots row ≡ links
  pub adds : Adds a b row
  pub hangs : Hang s (behind (child_place s k) run) row
  pub level : IsLevel s row
  pub high : AllHigh s levels row
  pub walk_is : laced run (walks s row) ≡ es

-- ---- the answer

-- the structure begins at this root, and has this length and as great a spine as the length has binary digits
pub record IsTop (st : Structure) (root : Option ℕ) (len : ℕ) : Type 0 where
  pub top : st.top ≡ top_at root
  pub counted : st.len ≡ len
  pub above : len < 2 ^ st.spine
  pub least : 2 ^ st.spine ≤ 2 * len + 1
  pub few : st.spine ≤ 32

-- ---- for the tests

-- a tree stands at this link
abbrev pub HasTree : ArenaState → Option ℕ → Type 0
HasTree a link = (t : Trees) × (Stands a t × (roots t ≡ link ∷ []))

-- what a structure begins with stands
abbrev pub HasTop : ArenaState → Top → Type 0
HasTop a tops.Empty = Unit {0}
HasTop a (tops.Node i) = HasTree a (Some i)
HasTop a (tops.Run i) = IsSome (run_at a i)

-- an element with a number: the coordinates of these rise by 3
abbrev pub numbered : ℕ → Elem
numbered n = record { at = 3 * n + 1; held = Number (7 * n) }

-- so many of them from a number on
abbrev pub numbered_from : ℕ → ℕ → List Elem
numbered_from n zero = []
numbered_from n (suc count) = numbered n ∷ numbered_from (n + 1) count
