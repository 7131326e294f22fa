-- The elements of trees in the order of their kinds.
use Rattle.std.specs.Prelude.{List, [], ◌∷◌, ◌++◌, map}
use Rattle.node_arena.specs.declared.elements.Elem.{Elem}
use Rattle.node_arena.specs.declared.kinds.NodeKind.{NodeKind}
use Rattle.node_arena.specs.declared.kinds.Shape.{Shape}
use Rattle.node_arena.specs.declared.kinds.Shape.TheVariants.{Flat, Post, Ends, Woven}
use Rattle.node_arena.specs.Kinds.{shape_at}
use Rattle.node_arena.specs.Trees.{Trees, done, absent, node}

-- a step of a node's walk: an element, or what hangs at a link
pub data Part (L : Type 0) : Type 0 where
  item : Elem → Part L
  link : L → Part L

-- link 0, element 0, link 1, element 1 and so on; elements alone where there is no link
abbrev pub weave : {L : Type 0} → List Elem → List L → List (Part L)
weave [] ls = map link ls
weave (x ∷ xs) [] = item x ∷ weave xs []
weave (x ∷ xs) (l ∷ ls) = link l ∷ item x ∷ weave xs ls

-- the first link, the elements, and the other links
abbrev pub between : {L : Type 0} → List Elem → List L → List (Part L)
between run [] = map item run
between run (l ∷ ls) = link l ∷ (map item run ++ map link ls)

-- a node's parts in the order of its walk
abbrev pub parts : {L : Type 0} → Shape → List Elem → List L → List (Part L)
parts Flat run ls = map item run ++ map link ls
parts (Post _) run ls = map item run ++ map link ls
parts (Ends _ _) run ls = between run ls
parts Woven run ls = weave run ls

-- the elements of the parts, where each link has a list
abbrev pub joined : List (Part (List Elem)) → List Elem
joined [] = []
joined (item e ∷ ps) = e ∷ joined ps
joined (link w ∷ ps) = w ++ joined ps

-- the walk of each of the trees
abbrev pub walks : List NodeKind → Trees → List (List Elem)
walks s done = []
walks s (absent rest) = [] ∷ walks s rest
walks s (node i k run ls rest) = joined (parts (shape_at s k) run (walks s ls)) ∷ walks s rest

-- the walks of the trees, one after another
abbrev pub walk : List NodeKind → Trees → List Elem
walk s done = []
walk s (absent rest) = walk s rest
walk s (node i k run ls rest) = joined (parts (shape_at s k) run (walks s ls)) ++ walk s rest
