-- The trees that a schema allows.
use Rattle.std.specs.Prelude.{◌≡◌, ◌≤◌, ◌<◌, ◌+◌, ℕ, max, Bool, true, false, List, [], ◌∷◌, length}
use Rattle.node_arena.specs.declared.elements.Elem.{Elem}
use Rattle.node_arena.specs.declared.elements.TheConstants.{MOST_SPINE}
use Rattle.node_arena.specs.declared.kinds.NodeKind.{NodeKind}
use Rattle.node_arena.specs.declared.kinds.Shape.{Shape}
use Rattle.node_arena.specs.declared.kinds.Shape.TheVariants.{Flat, Post, Ends, Woven}
use Rattle.node_arena.specs.Kinds.{kind_at, shape_at}
use Rattle.node_arena.specs.Trees.{Trees, done, absent, node}
use Rattle.node_arena.specs.Walks.{walk}

-- ---- kinds, lengths of runs, and links

-- what may hang at a link: a node of this kind with at least so many elements, or nothing unless it must
pub record Place : Type 0 where
  pub kind : ℕ
  pub least : ℕ
  pub must : Bool

-- the least number of elements in the first node of a structure: a woven root may have fewer than its children
abbrev pub least_of : NodeKind → Shape → ℕ
least_of kind Flat = kind.lo
least_of kind (Post _) = kind.lo
least_of kind (Ends _ _) = kind.lo
least_of kind Woven = 1

-- a place for a whole structure of this kind
abbrev pub whole : List NodeKind → ℕ → Place
whole s k = record { kind = k; least = least_of (kind_at s k) (shape_at s k); must = false }

-- one place more than elements
abbrev pub children : Place → List Elem → List Place
children place [] = place ∷ []
children place (x ∷ xs) = place ∷ children place xs

-- the places of a woven node's links: none, or one more than elements
abbrev pub woven_places : Place → List Elem → Trees → List Place
woven_places place run done = []
woven_places place run (absent rest) = children place run
woven_places place run (node i k r ls rest) = children place run

-- the places of the links of a node
abbrev pub places : List NodeKind → Shape → ℕ → List Elem → Trees → List Place
places s Flat k run ls = []
places s (Post p) k run ls = whole s p ∷ []
places s (Ends p q) k run ls = whole s p ∷ whole s q ∷ []
places s Woven k run ls = woven_places (record { kind = k; least = (kind_at s k).lo; must = true }) run ls

-- the trees hang at these places, one at each
abbrev pub Hang : List NodeKind → List Place → Trees → Type 0
Hang s ps done = ps ≡ []
Hang s [] (absent rest) = ⊥
Hang s (p ∷ ps) (absent rest) = (p.must ≡ false) × Hang s ps rest
Hang s [] (node i k run ls rest) = ⊥
Hang s (p ∷ ps) (node i k run ls rest) =
    (k ≡ p.kind) × (p.least ≤ length run) × (length run ≤ (kind_at s k).hi)
    × Hang s (places s (shape_at s k) k run ls) ls × Hang s ps rest

-- ---- one depth

-- how many nodes lie below one another from the first of the links on, going by first links
abbrev pub height : List NodeKind → Trees → ℕ
height s done = 0
height s (absent rest) = 0
height s (node i k run ls rest) = 1 + height s ls

-- every one of the trees has this height
abbrev pub AllHigh : List NodeKind → ℕ → Trees → Type 0
AllHigh s h done = Unit {0}
AllHigh s h (absent rest) = (h ≡ 0) × AllHigh s h rest
AllHigh s h (node i k run ls rest) = (1 + height s ls ≡ h) × AllHigh s h rest

-- the links of a node, if it is woven, have one height
abbrev pub IsLevelAt : List NodeKind → Shape → Trees → Type 0
IsLevelAt s Flat ls = Unit {0}
IsLevelAt s (Post _) ls = Unit {0}
IsLevelAt s (Ends _ _) ls = Unit {0}
IsLevelAt s Woven ls = AllHigh s (height s ls) ls

-- the children of each woven node have one height, so all childless nodes of a woven structure stand at one depth
abbrev pub IsLevel : List NodeKind → Trees → Type 0
IsLevel s done = Unit {0}
IsLevel s (absent rest) = IsLevel s rest
IsLevel s (node i k run ls rest) = IsLevelAt s (shape_at s k) ls × IsLevel s ls × IsLevel s rest

-- ---- the spine

-- the spine of a node, from the greatest one of its links
abbrev pub spine_by : Shape → ℕ → ℕ
spine_by Flat n = 0
spine_by (Post _) n = n
spine_by (Ends _ _) n = 1 + n
spine_by Woven n = 0

-- the greatest spine of the trees: how many nodes with two links lie below one another
abbrev pub spine : List NodeKind → Trees → ℕ
spine s done = 0
spine s (absent rest) = spine s rest
spine s (node i k run ls rest) = max (spine_by (shape_at s k) (spine s ls)) (spine s rest)

-- ---- the order

-- the coordinates rise strictly, and all are above n
abbrev pub RisesFrom : ℕ → List Elem → Type 0
RisesFrom n [] = Unit {0}
RisesFrom n (e ∷ es) = (n < e.at) × RisesFrom e.at es

-- the coordinates rise strictly
abbrev pub IsRising : List Elem → Type 0
IsRising [] = Unit {0}
IsRising (e ∷ es) = RisesFrom e.at es

-- ---- altogether

-- these links, one, are a structure of this kind
pub record Conform (s : List NodeKind) (k : ℕ) (t : Trees) : Type 0 where
  pub hangs : Hang s (whole s k ∷ []) t
  pub level : IsLevel s t
  pub low : spine s t ≤ MOST_SPINE
  pub rising : IsRising (walk s t)
