-- A structure that has become a shallower one with the same elements.
use Rattle.std.specs.Prelude.{◌≡◌, ◌≤◌, ◌*◌, ◌+◌, ◌^◌, ℕ, List, Option, Some, None}
use Rattle.std.specs.Option.{IsSomeAnd}
use Rattle.node_arena.specs.declared.elements.Structure.{Structure}
use Rattle.node_arena.specs.declared.kinds.NodeKind.{NodeKind}
use Rattle.node_arena.specs.Arenas.{ArenaState, NodeState, node_at}
use Rattle.node_arena.specs.Structures.{Tree, links_of, walk_of, Keeps, TakesNew, IsStructure}
use Rattle.node_arena.specs.Trees.{Trees, done, absent, node, Avoids}
use Rattle.bulk_build.specs.Building.{CanBeNumbered}
use Rattle.iter_gen.specs.LookingUp.{HasNode}

-- the spine that is kept is at most the binary digits of the length
abbrev pub IsShallow : Structure → Type 0
IsShallow st = 2 ^ st.spine ≤ 2 * st.len + 1

-- a node that was in the old trees and isn't in the new ones is gone, and what is in neither is as before
pub record Supersedes (a b : ArenaState) (old new : Trees) : Type 0 where
  pub gone : (i : ℕ) → HasNode i old → Avoids i new → node_at b i ≡ None
  pub others : (i : ℕ) → Avoids i old → Avoids i new → node_at b i ≡ node_at a i

-- the structure has become another one, with the same elements and a spine of at most the binary digits of their number
pub record IsRebalanced (s : List NodeKind) (k : ℕ) (a b : ArenaState) (st : Structure) (t : Tree) (new : Structure) : Type 0 where
  pub tree : Tree
  pub holds : IsStructure s k b new tree
  pub walk_is : walk_of s tree ≡ walk_of s t
  pub len_is : new.len ≡ st.len
  pub spine_low : 2 ^ new.spine ≤ 2 * st.len + 1
  pub spine_few : new.spine ≤ 32
  pub keeps : Keeps a b t
  pub news : TakesNew a t tree
  pub nodes : Supersedes a b (links_of t) (links_of tree)

-- whatever tree the structure was, it has become another one so
abbrev pub Rebalances : List NodeKind → ℕ → ArenaState → ArenaState → Structure → Structure → Type 0
Rebalances s k a b st new = (t : Tree) → IsStructure s k a st t → IsRebalanced s k a b st t new

-- ---- what is made, freed and kept

-- how many nodes there are
abbrev pub node_count : Trees → ℕ
node_count done = 0
node_count (absent rest) = node_count rest
node_count (node i k run ls rest) = 1 + (node_count ls + node_count rest)

-- the structure's old nodes are spare: of them and what was spare at most one for each element isn't, unless there is memory for more than have numbers
abbrev pub FreesOld : List NodeKind → ℕ → ArenaState → ArenaState → Structure → Type 0
FreesOld s k a b st = (t : Tree) → IsStructure s k a st t → CanBeNumbered b → a.nodes.spare + node_count (links_of t) ≤ b.nodes.spare + st.len

-- nothing before and behind, or a node of the same kind with the same run
abbrev pub KeepsRun : Option NodeState → Option NodeState → Type 0
KeepsRun None new = new ≡ None
KeepsRun (Some n) new = IsSomeAnd new (λ m. (m.kind ≡ n.kind) × (m.run ≡ n.run))

-- each node keeps its number, its kind and its run, no other number has a node, no run is touched, and no memory is taken
pub record IsRelinked (a b : ArenaState) : Type 0 where
  pub nodes : (i : ℕ) → KeepsRun (node_at a i) (node_at b i)
  pub spare : b.nodes.spare ≡ a.nodes.spare
  pub most : b.nodes.most ≡ a.nodes.most
  pub places : b.nodes.places ≡ a.nodes.places
  pub runs : b.runs ≡ a.runs
