-- How many spare nodes and runs are enough for one insertion.
use Rattle.std.specs.Prelude.{◌≡◌, ◌≤◌, ◌<◌, ◌+◌, ◌*◌, ◌^◌, ℕ, Bool, true, false, List, if◌then◌else◌}
use Rattle.std.specs.List.{list_any}
use Rattle.node_arena.specs.declared.elements.Structure.{Structure}
use Rattle.node_arena.specs.declared.elements.Top.{Top}
use Rattle.node_arena.specs.declared.elements.Top.TheVariants as tops
use Rattle.node_arena.specs.declared.kinds.NodeKind.{NodeKind}
use Rattle.node_arena.specs.declared.kinds.Shape.{Shape}
use Rattle.node_arena.specs.declared.kinds.Shape.TheVariants.{Flat, Post, Ends, Woven}
use Rattle.node_arena.specs.Kinds.{shape_at}
use Rattle.insert_gen.specs.declared.needs.Spares.{Spares}
use Rattle.node_arena.specs.declared.elements.TheConstants.{MOST_PASSED}

-- the number has d binary digits, 0 has none
abbrev pub HasDigits : ℕ → ℕ → Type 0
HasDigits n d = (n < 2 ^ d) × (2 ^ d ≤ 2 * n + 1)

-- whether a node with these links is woven
abbrev pub weaves : Shape → Bool
weaves Flat = false
weaves (Post _) = false
weaves (Ends _ _) = false
weaves Woven = true

-- whether one of the kinds is woven
abbrev pub has_woven : List NodeKind → Bool
has_woven s = list_any (λ k. weaves k.shape) s

-- how many elements at most go into one woven structure, where the root has links to other kinds
abbrev pub passed_to_woven : List NodeKind → ℕ
passed_to_woven s = if has_woven s then MOST_PASSED else 0

-- the nodes for one insertion where the root has these links, and the length d digits: one, and one more for each element that goes into a woven
-- structure and each of its levels; none for a flat run
abbrev pub nodes_for : List NodeKind → Shape → ℕ → ℕ
nodes_for s Flat d = 0
nodes_for s (Post _) d = 1 + passed_to_woven s * d
nodes_for s (Ends _ _) d = 1 + passed_to_woven s * d
nodes_for s Woven d = 1 + d

-- the runs for one insertion: one where a flat run has to be made
abbrev pub runs_for : Shape → Top → ℕ
runs_for Flat tops.Empty = 1
runs_for Flat (tops.Node _) = 0
runs_for Flat (tops.Run _) = 0
runs_for (Post _) top = 0
runs_for (Ends _ _) top = 0
runs_for Woven top = 0

-- an insertion into a structure of this kind, which has so many elements, reserves n nodes
abbrev pub WantsNodes : List NodeKind → ℕ → ℕ → ℕ → Type 0
WantsNodes s k len n = (d : ℕ) × HasDigits len d × (n ≡ nodes_for s (shape_at s k) d)

-- an insertion into a structure of this kind reserves these spare nodes and runs
pub record Wants (s : List NodeKind) (k : ℕ) (st : Structure) (spares : Spares) : Type 0 where
  pub nodes : WantsNodes s k st.len spares.nodes
  pub runs : spares.runs ≡ runs_for (shape_at s k) st.top
