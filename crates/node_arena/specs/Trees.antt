-- Trees with the numbers of their nodes, and how they stand in an arena.
use Rattle.std.specs.Prelude.{◌≡◌, ◌≢◌, ℕ, List, [], ◌∷◌, Option, Some, None, IsSome}
use Rattle.node_arena.specs.declared.elements.Elem.{Elem}
use Rattle.node_arena.specs.Arenas.{NodeState, ArenaState, node_at}

-- links in a row, each of them absent, or a node with its number, kind, run and links
pub data Trees : Type 0 where
  done : Trees
  absent : Trees → Trees
  node : ℕ → ℕ → List Elem → Trees → Trees → Trees

-- the links as a node stores them
abbrev pub roots : Trees → List (Option ℕ)
roots done = []
roots (absent rest) = None ∷ roots rest
roots (node i k run ls rest) = Some i ∷ roots rest

-- the node as an arena stores it
abbrev pub stored : ℕ → List Elem → Trees → NodeState
stored k run ls = record { kind = k; run = run; links = roots ls }

-- each node of the trees stands in the arena under its number
abbrev pub Stands : ArenaState → Trees → Type 0
Stands a done = Unit {0}
Stands a (absent rest) = Stands a rest
Stands a (node i k run ls rest) = (node_at a i ≡ Some (stored k run ls)) × Stands a ls × Stands a rest

-- the links of the one row, and then those of the other
abbrev pub beside : Trees → Trees → Trees
beside done u = u
beside (absent t) u = absent (beside t u)
beside (node i k run ls t) u = node i k run ls (beside t u)

-- no node of the trees has this number
abbrev pub Avoids : ℕ → Trees → Type 0
Avoids i done = Unit {0}
Avoids i (absent rest) = Avoids i rest
Avoids i (node j k run ls rest) = (j ≢ i) × Avoids i ls × Avoids i rest

-- no number is in both
abbrev pub IsApart : Trees → Trees → Type 0
IsApart done u = Unit {0}
IsApart (absent rest) u = IsApart rest u
IsApart (node i k run ls rest) u = Avoids i u × IsApart ls u × IsApart rest u

-- no node is reached twice
abbrev pub IsReachedOnce : Trees → Type 0
IsReachedOnce done = Unit {0}
IsReachedOnce (absent rest) = IsReachedOnce rest
IsReachedOnce (node i k run ls rest) =
    Avoids i ls × Avoids i rest × IsApart ls rest × IsReachedOnce ls × IsReachedOnce rest

-- each node that stands in the old arena outside the trees is as before
abbrev pub KeepsOutside : ArenaState → ArenaState → Trees → Type 0
KeepsOutside old new t = (i : ℕ) → IsSome (node_at old i) → Avoids i t → node_at new i ≡ node_at old i

-- the new trees have no number that had a node in the arena, but those of the old trees
abbrev pub TakesFree : ArenaState → Trees → Trees → Type 0
TakesFree a old new = (i : ℕ) → IsSome (node_at a i) → Avoids i old → Avoids i new

-- the trees have become others, and nothing else has: what has a number of neither is as before, and the new trees have each number of the old ones,
-- and further ones that were free
pub record ChangesOnly (a b : ArenaState) (old new : Trees) : Type 0 where
  pub others : (i : ℕ) → Avoids i old → Avoids i new → node_at b i ≡ node_at a i
  pub stays : (i : ℕ) → Avoids i new → Avoids i old
  pub news : TakesFree a old new
