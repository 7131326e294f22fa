-- A node that has become a run longer: written whole, or split. No public clause cites this module.
use Rattle.std.specs.Prelude.{◌≡◌, ◌≤◌, ◌<◌, ◌+◌, ◌/◌, ℕ, List, ◌∷◌, ◌++◌, length, take, drop, Option, Some, None, IfSome}
use Rattle.std.specs.List.{insert}
use Rattle.node_arena.specs.declared.elements.Elem.{Elem}
use Rattle.node_arena.specs.Arenas.{NodeState, ArenaState, node_at, ChangesNode, with_link}

-- a node of this kind, with these elements and links
abbrev pub node_of : ℕ → List Elem → List (Option ℕ) → NodeState
node_of k run links = record { kind = k; run = run; links = links }

-- an element may be put into the node at a place, with a link behind the link there if one is given
abbrev pub HasPlaceFor : ℕ → ℕ → ℕ → Option ℕ → NodeState → Type 0
HasPlaceFor hi k place right n =
    (n.kind ≡ k) × (place ≤ length n.run) × (length n.run ≤ hi) × (length n.links ≤ length n.run + 1) × IfSome right (λ _. place < length n.links)

-- the run is longer than hi: the node has the lower elements, a new node has the upper ones, and the middle one is handed out
pub record SplitsAt (hi k : ℕ) (a b : ArenaState) (i : ℕ) (run : List Elem) (links : List (Option ℕ)) (up : Elem) (right : ℕ) : Type 0 where
  pub lower : List Elem
  pub upper : List Elem
  pub between : ArenaState
  pub many : hi < length run
  pub run_is : run ≡ lower ++ up ∷ upper
  pub keep : length lower ≡ (hi + 1) / 2
  pub free : node_at a right ≡ None
  pub makes : ChangesNode a between right (Some (node_of k upper (drop (length lower + 1) links)))
  pub puts : ChangesNode between b i (Some (node_of k lower (take (length lower + 1) links)))

-- the node has this run and these links, where the run has at most hi elements; else it is split, and the middle element is handed out with the new node
abbrev pub Settles : ℕ → ℕ → ArenaState → ArenaState → ℕ → List Elem → List (Option ℕ) → Option (Elem × ℕ) → Type 0
Settles hi k a b i run links None = (length run ≤ hi) × ChangesNode a b i (Some (node_of k run links))
Settles hi k a b i run links (Some p) = SplitsAt hi k a b i run links p.0 p.1

-- the node has the element at the place, and the link if one is given, or is split
abbrev pub Widens : ℕ → ℕ → ArenaState → ArenaState → ℕ → ℕ → Elem → Option ℕ → NodeState → Option (Elem × ℕ) → Type 0
Widens hi k a b i place x right n result = Settles hi k a b i (insert n.run place x) (with_link n.links place right) result
