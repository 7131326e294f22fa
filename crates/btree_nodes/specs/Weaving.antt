-- Woven trees of one height. No public clause cites this module.
use Rattle.std.specs.Prelude.{◌≡◌, ◌≤◌, ◌+◌, ◌*◌, ◌⊎◌, ℕ, List, length, Option, Some, None}
use Rattle.node_arena.specs.declared.elements.Elem.{Elem}
use Rattle.node_arena.specs.declared.elements.Structure.{Structure}
use Rattle.node_arena.specs.declared.elements.Top.{Top}
use Rattle.node_arena.specs.declared.elements.Top.TheVariants as tops
use Rattle.node_arena.specs.declared.kinds.NodeKind.{NodeKind}
use Rattle.node_arena.specs.declared.kinds.Shape.TheVariants.{Woven}
use Rattle.node_arena.specs.Arenas.{ArenaState}
use Rattle.node_arena.specs.Kinds.{kind_at, shape_at}
use Rattle.node_arena.specs.Trees.{Trees, done, absent, node, roots, Stands, IsReachedOnce}
use Rattle.node_arena.specs.Walks.{walk}
use Rattle.node_arena.specs.Conforming.{height, IsRising}

-- a woven kind that keeps the rules: the halves of a run that is one too long have enough elements, and fit
pub record IsWovenKind (s : List NodeKind) (k : ℕ) : Type 0 where
  pub shape : shape_at s k ≡ Woven
  pub some : 1 ≤ (kind_at s k).lo
  pub half : 2 * (kind_at s k).lo ≤ (kind_at s k).hi
  pub few : (kind_at s k).hi ≤ 16

-- a node has no links, or one more than elements
abbrev pub IsFan : List Elem → Trees → Type 0
IsFan run ls = (ls ≡ done) ⊎ (length (roots ls) ≡ length run + 1)

-- nodes of one kind and one height in a row, each of at least so many elements, and all below them by the kind's bounds
abbrev pub IsRow : List NodeKind → ℕ → ℕ → ℕ → Trees → Type 0
IsRow s k low h done = Unit {0}
IsRow s k low h (absent rest) = ⊥
IsRow s k low h (node i m run ls rest) =
    (m ≡ k) × (low ≤ length run) × (length run ≤ (kind_at s k).hi) × IsFan run ls × (1 + height s ls ≡ h)
    × IsRow s k (kind_at s k).lo (height s ls) ls × IsRow s k low h rest

-- a woven tree that stands under this number, at most so high, with a spare node for each level
pub record IsWovenTree (s : List NodeKind) (k : ℕ) (a : ArenaState) (i : ℕ) (levels : ℕ) (t : Trees) : Type 0 where
  pub run : List Elem
  pub links : Trees
  pub is : t ≡ node i k run links done
  pub kind : IsWovenKind s k
  pub most : (kind_at s k).hi ≤ a.nodes.most
  pub stands : Stands a t
  pub once : IsReachedOnce t
  pub row : IsRow s k 1 (height s t) t
  pub rising : IsRising (walk s t)
  pub low : height s t ≤ levels
  pub room : height s t ≤ a.nodes.spare

-- the number of the root, if there is one
abbrev pub root_in : Top → Option ℕ
root_in tops.Empty = None
root_in (tops.Node i) = Some i
root_in (tops.Run i) = None

-- the structure of one element more, with this root
abbrev pub with_root : ℕ → Structure → Structure
with_root root old = record { top = tops.Node root; len = old.len + 1; spine = old.spine }
