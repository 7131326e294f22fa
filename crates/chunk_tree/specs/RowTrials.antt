-- For the tests of rebalancing alone: no public clause cites this module.
use Rattle.std.specs.Prelude.{◌≡◌, ◌≤◌, ◌<◌, ◌+◌, ℕ, Bool, true, false, List, [], ◌∷◌, length, Option}
use Rattle.node_arena.specs.declared.kinds.NodeKind.{NodeKind}
use Rattle.node_arena.specs.declared.kinds.Shape.{Shape}
use Rattle.node_arena.specs.declared.kinds.Shape.TheVariants.{Post, Ends, Woven}
use Rattle.node_arena.specs.Arenas.{ArenaState}
use Rattle.node_arena.specs.Conforming.{Hang, whole, IsLevel, IsRising, RisesFrom, spine}
use Rattle.node_arena.specs.Kinds.{kind_at, shape_at}
use Rattle.node_arena.specs.Rules.{AreSound}
use Rattle.node_arena.specs.Trees.{Trees, roots, Stands, IsReachedOnce}
use Rattle.node_arena.specs.Walks.{walk}

-- the links of kind 0: one or two, to kind 1
abbrev pub root_shape : Bool → Shape
root_shape true = Post 1
root_shape false = Ends 1 1

-- kind 0 leads to kind 1, which has two links to itself, and runs are short
pub record AreForRows (s : List NodeKind) (chained : Bool) : Type 0 where
  pub sound : AreSound s
  pub root : shape_at s 0 ≡ root_shape chained
  pub rest : shape_at s 1 ≡ Ends 1 1
  pub short : (k : ℕ) → (kind_at s k).hi ≤ 2

-- at the link hangs a row of nodes, the first of this kind, with a coordinate each from a number up to another one
pub record IsRow (s : List NodeKind) (k : ℕ) (a : ArenaState) (link : Option ℕ) (from upto : ℕ) : Type 0 where
  pub tree : Trees
  pub root : roots tree ≡ link ∷ []
  pub stands : Stands a tree
  pub once : IsReachedOnce tree
  pub hangs : Hang s (whole s k ∷ []) tree
  pub level : IsLevel s tree
  pub spine_low : spine s tree + from ≤ upto
  pub counted : length (walk s tree) + from ≡ upto
  pub rises : (n : ℕ) → n < from → RisesFrom n (walk s tree)
  pub rising : IsRising (walk s tree)

-- the kinds `H { run 1..2 pre W post W }` and `W { run 1..2 woven }`
abbrev pub woven_kinds : List NodeKind
woven_kinds = record { lo = 1; hi = 2; shape = Ends 1 1 } ∷ record { lo = 1; hi = 2; shape = Woven } ∷ []
