-- The way along a chain. Public clauses cite `PassesAt` alone.
use Rattle.std.specs.Prelude.{◌≡◌, ◌≢◌, ◌⊎◌, ◌≤◌, ◌<◌, ℕ, List, [], ◌∷◌, length, Option, Some, None, IfSome, slice_index_or}
use Rattle.std.specs.Option.{IsSomeAnd}
use Rattle.node_arena.specs.declared.elements.Elem.{Elem}
use Rattle.node_arena.specs.declared.elements.Step.{Step}
use Rattle.node_arena.specs.declared.elements.Step.TheVariants.{Done, Pass}
use Rattle.node_arena.specs.declared.kinds.NodeKind.{NodeKind}
use Rattle.node_arena.specs.declared.kinds.Shape.{Shape}
use Rattle.node_arena.specs.declared.kinds.Shape.TheVariants.{Flat, Post, Ends, Woven}
use Rattle.node_arena.specs.Arenas.{ArenaState, NodeState, node_at}
use Rattle.node_arena.specs.Kinds.{kind_at, shape_at}
use Rattle.node_arena.specs.Passing.{discipline, chains, CanPutIn, Leaves}
use Rattle.node_arena.specs.Trees.{Trees}
use Rattle.block_list.specs.declared.chains.Way.{Way}
use Rattle.block_list.specs.declared.chains.Way.TheVariants.{Into, Behind}
use Rattle.block_list.specs.declared.chains.Turn.{Turn}
use Rattle.block_list.specs.declared.chains.Turn.TheVariants as turns

-- ---- runs

-- every element is below n
abbrev pub AllBelow : ℕ → List Elem → Type 0
AllBelow n [] = Unit {0}
AllBelow n (e ∷ es) = (e.at < n) × AllBelow n es

-- an element isn't below n
abbrev pub Stops : ℕ → List Elem → Type 0
Stops n [] = ⊥
Stops n (e ∷ es) = (n ≤ e.at) ⊎ Stops n es

-- the coordinate of the first element; 0 where there is none
abbrev pub first_of : List Elem → ℕ
first_of [] = 0
first_of (e ∷ es) = e.at

-- the coordinate of the first element of the node, if there is one; else 0
abbrev pub first_at : Option NodeState → ℕ
first_at None = 0
first_at (Some n) = first_of n.run

-- the first link of the node
abbrev pub link_of : NodeState → Option ℕ
link_of n = slice_index_or n.links 0 None

-- what goes on behind a node goes on there: where it is above the run, and what hangs behind isn't empty; or where the run was full
abbrev pub PassesAt : List NodeKind → ArenaState → ℕ → Step → Type 0
PassesAt s a at (Done deep) = Unit {0}
PassesAt s a at (Pass i at_side xs above) =
    IfSome (node_at a i) (λ n. (AllBelow at n.run × (link_of n ≢ None)) ⊎ ((kind_at s n.kind).hi ≤ length n.run))

-- ---- one step along the chain

-- the kind behind the run has post alone
abbrev pub HasChainBehind : List NodeKind → Shape → Type 0
HasChainBehind s Flat = ⊥
HasChainBehind s (Post p) = discipline (shape_at s p) ≡ chains
HasChainBehind s (Ends p q) = ⊥
HasChainBehind s Woven = ⊥

-- where the coordinate goes at a node: into its run, on to the next node of the chain, or into the structure of another discipline behind
abbrev pub Turns : List NodeKind → ℕ → NodeState → Turn → Type 0
Turns s at n turns.Into = Stops at n.run ⊎ (link_of n ≡ None)
Turns s at n (turns.On next) = AllBelow at n.run × (link_of n ≡ Some next) × HasChainBehind s (shape_at s n.kind)
Turns s at n turns.Behind = AllBelow at n.run × (link_of n ≢ None) × (HasChainBehind s (shape_at s n.kind) → ⊥)

-- ---- a new node

-- the links of a new node of a kind, where there is one behind the run
abbrev pub links_behind : Shape → Option ℕ → List (Option ℕ)
links_behind Flat link = []
links_behind (Post p) link = link ∷ []
links_behind (Ends p q) link = None ∷ link ∷ []
links_behind Woven link = []

-- ---- the search

-- The search has come to node i of a chain. What an insertion of x there leaves, it leaves of the whole tree.
pub record Comes (s : List NodeKind) (a : ArenaState) (x : Elem) (i : ℕ) (t : Trees) : Type 0 where
  pub tree : Trees
  pub here : CanPutIn s a x i tree
  pub chain : discipline (shape_at s here.kind) ≡ chains
  pub lift : (b : ArenaState) (step : Step) (n m : ℕ) → Leaves s a b x tree step n m → Leaves s a b x t step n m

-- the search ends at a node where x goes into the run, or behind it
abbrev pub Finds : List NodeKind → ArenaState → Elem → Trees → Way → Type 0
Finds s a x t (Into i) = Comes s a x i t × IsSomeAnd (node_at a i) (λ n. Turns s x.at n turns.Into)
Finds s a x t (Behind i) = Comes s a x i t × IsSomeAnd (node_at a i) (λ n. Turns s x.at n turns.Behind)
