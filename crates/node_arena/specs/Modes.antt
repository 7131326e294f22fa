-- Structures within structures: an arena for each mode, and in each element of a mode but the last a structure of the next one.
use Rattle.std.specs.Prelude.{◌≡◌, ◌≢◌, ℕ, zero, suc, List, [], ◌∷◌, map, flat_map, length, All, Option, None, Some}
use Rattle.dt_model.specs.Pairs.{total_at}
use Rattle.node_arena.specs.declared.elements.Elem.{Elem}
use Rattle.node_arena.specs.declared.elements.Held.{Held}
use Rattle.node_arena.specs.declared.elements.Held.TheVariants.{Number, Inner}
use Rattle.node_arena.specs.declared.elements.Structure.{Structure}
use Rattle.node_arena.specs.declared.elements.Top.{Top}
use Rattle.node_arena.specs.declared.elements.Top.TheVariants as tops
use Rattle.node_arena.specs.declared.kinds.NodeKind.{NodeKind}
use Rattle.node_arena.specs.Arenas.{ArenaState, NodeState, RunState, node_at, run_at}
use Rattle.node_arena.specs.Structures.{Tree, empty, rooted, flat, walk_of, IsStructure, AreApart}
use Rattle.node_arena.specs.Trees.{Trees, done, absent, node}

-- ---- trees that are read from an arena

-- a node with what lies below its links, before other links; a link without a node is absent
abbrev pub read_node : (List (Option ℕ) → Trees) → ℕ → Option NodeState → Trees → Trees
read_node below i None rest = absent rest
read_node below i (Some n) rest = node i n.kind n.run (below n.links) rest

-- links in a row, where a function says what lies below the links of each node
abbrev pub read_row : ArenaState → (List (Option ℕ) → Trees) → List (Option ℕ) → Trees
read_row a below [] = done
read_row a below (None ∷ ls) = absent (read_row a below ls)
read_row a below (Some i ∷ ls) = read_node below i (node_at a i) (read_row a below ls)

-- links in a row, with so many levels of nodes and links
abbrev pub read_to : ArenaState → ℕ → List (Option ℕ) → Trees
read_to a zero ls = done
read_to a (suc levels) ls = read_row a (λ below. read_to a levels below) ls

-- the tree of a root, whose links have so many levels
abbrev pub root_tree : ArenaState → ℕ → ℕ → Option NodeState → Tree
root_tree a levels i None = empty
root_tree a levels i (Some n) = rooted i n.kind n.run (read_to a levels n.links)

-- the tree of a flat run
abbrev pub run_tree : ℕ → Option RunState → Tree
run_tree i None = empty
run_tree i (Some r) = flat i r.elems

-- the tree below a top, with so many levels below its root
abbrev pub top_tree : ArenaState → ℕ → Top → Tree
top_tree a levels tops.Empty = empty
top_tree a levels (tops.Node i) = root_tree a levels i (node_at a i)
top_tree a levels (tops.Run i) = run_tree i (run_at a i)

-- the tree of a structure, read from the arena: no path that reaches a node once is longer than the arena has numbers
unfoldable pub tree_in : ArenaState → Structure → Tree
tree_in a st = top_tree a (length a.nodes.slots) st.top

-- ---- modes

-- a mode: its kinds by number, the number of the root's kind, and the arena with its nodes and runs
pub record Mode : Type 0 where
  pub kinds : List NodeKind
  pub root : ℕ
  pub arena : ArenaState

-- the elements of a structure of this mode, in order
abbrev pub walk_in : Mode → Structure → List Elem
walk_in m st = walk_of m.kinds (tree_in m.arena st)

-- the structure that is held, if one is, before others
abbrev pub with_inner : Held → List Structure → List Structure
with_inner (Number v) rest = rest
with_inner (Inner st) rest = st ∷ rest

-- the structures that elements hold, in order
abbrev pub inners : List Elem → List Structure
inners [] = []
inners (e ∷ es) = with_inner e.held (inners es)

-- two structures share no node and no run: not in their own mode, nor do those that they hold in later ones
abbrev pub ApartBelow : List Mode → Structure → Structure → Type 0
ApartBelow [] x y = Unit {0}
ApartBelow (m ∷ ms) x y =
    AreApart (tree_in m.arena x) (tree_in m.arena y)
    × All (λ a. All (λ b. ApartBelow ms a b) (inners (walk_in m y))) (inners (walk_in m x))

-- no two of the structures share a node or a run
abbrev pub AllApart : List Mode → List Structure → Type 0
AllApart ms [] = Unit {0}
AllApart ms (x ∷ xs) = All (ApartBelow ms x) xs × AllApart ms xs

-- a number in the last mode; else a structure of the next one, which isn't empty and of which a fact holds
abbrev pub IsHeldFor : List Mode → (Structure → Type 0) → Held → Type 0
IsHeldFor [] fact (Number v) = Unit {0}
IsHeldFor [] fact (Inner st) = ⊥
IsHeldFor (m ∷ ms) fact (Number v) = ⊥
IsHeldFor (m ∷ ms) fact (Inner st) = (st.top ≢ tops.Empty) × fact st

-- a structure of the first mode, whose elements hold what belongs there, and the structures that they hold share nothing
pub record IsNestedIn (m : Mode) (ms : List Mode) (fact : Structure → Type 0) (st : Structure) : Type 0 where
  pub structure : IsStructure m.kinds m.root m.arena st (tree_in m.arena st)
  pub holds : All (λ e. IsHeldFor ms fact e.held) (walk_in m st)
  pub apart : AllApart ms (inners (walk_in m st))

-- a structure of these modes: each that it holds is one of the later modes, down to the numbers in the last
abbrev pub IsNested : List Mode → Structure → Type 0
IsNested [] st = ⊥
IsNested (m ∷ ms) st = IsNestedIn m ms (λ below. IsNested ms below) st

-- ---- content

-- entries below one more leading coordinate
abbrev pub under : ℕ → List (List ℕ × ℕ) → List (List ℕ × ℕ)
under n entries = map (λ e. (n ∷ e.0, e.1)) entries

-- the entries of what is held: one without further coordinates for a number, those of a structure
abbrev pub entries_held : (Structure → List (List ℕ × ℕ)) → Held → List (List ℕ × ℕ)
entries_held entries (Number v) = ([], v) ∷ []
entries_held entries (Inner st) = entries st

-- the coordinates along each path with the number at its end, in order
abbrev pub entries_in : List Mode → Structure → List (List ℕ × ℕ)
entries_in [] st = []
entries_in (m ∷ ms) st = flat_map (λ e. under e.at (entries_held (λ below. entries_in ms below) e.held)) (walk_in m st)

-- the number at these coordinates, 0 where no path has them
abbrev pub content_in : List Mode → Structure → List ℕ → ℕ
content_in ms st c = total_at (entries_in ms st) c
