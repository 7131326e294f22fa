-- Elements and structures for the tests: no public clause cites this module.
use Rattle.std.specs.Prelude.{◌≡◌, ◌≤◌, ◌+◌, ◌*◌, ℕ, zero, suc, List, [], ◌∷◌, Option}
use Rattle.node_arena.specs.declared.elements.Elem.{Elem}
use Rattle.node_arena.specs.declared.elements.Held.TheVariants.{Number}
use Rattle.node_arena.specs.declared.kinds.NodeKind.{NodeKind}
use Rattle.node_arena.specs.declared.kinds.Shape.{Shape}
use Rattle.node_arena.specs.Arenas.{ArenaState}
use Rattle.node_arena.specs.Conforming.{Hang, IsLevel, whole, spine}
use Rattle.node_arena.specs.Kinds.{kind_at, shape_at}
use Rattle.node_arena.specs.Trees.{Trees, roots}
use Rattle.node_arena.specs.Walks.{walk}
use Rattle.bulk_build.specs.Layouts.{Adds}

-- ---- elements

-- an element with a number, at an odd coordinate
abbrev pub odd : ℕ → Elem
odd n = record { at = 2 * n + 1; held = Number n }

-- so many of them, from a number on
abbrev pub odds_from : ℕ → ℕ → List Elem
odds_from n zero = []
odds_from n (suc count) = odd n ∷ odds_from (n + 1) count

-- ---- structures that no build makes

-- the kind has these links, and its nodes may have one element
pub record IsThin (s : List NodeKind) (k : ℕ) (shape : Shape) : Type 0 where
  pub shape_is : shape_at s k ≡ shape
  pub lo : (kind_at s k).lo ≡ 1
  pub hi : 1 ≤ (kind_at s k).hi

-- a structure of this kind has been added, with this root, these elements, and at most so great a spine
pub record Grows (s : List NodeKind) (k : ℕ) (a b : ArenaState) (es : List Elem) (deep : ℕ) (root : Option ℕ) : Type 0 where
  pub tree : Trees
  pub root_is : roots tree ≡ root ∷ []
  pub adds : Adds a b tree
  pub hangs : Hang s (whole s k ∷ []) tree
  pub level : IsLevel s tree
  pub walk_is : walk s tree ≡ es
  pub low : spine s tree ≤ deep

-- how many elements a woven structure has whose nodes have one element each, with so many levels below its root
abbrev pub thin_size : ℕ → ℕ
thin_size zero = 1
thin_size (suc levels) = thin_size levels + 1 + thin_size levels
