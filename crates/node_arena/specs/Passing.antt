-- What an insertion into nodes of one discipline asks for, and what it leaves to do.
use Rattle.std.specs.Prelude.{◌≡◌, ◌≢◌, ◌⊎◌, ◌≤◌, ◌+◌, ℕ, max, Bool, true, false, List, [], ◌∷◌, ◌++◌, length, Option, Some, None, slice_set, slice_index_or}
use Rattle.std.specs.Option.{IsSomeAnd}
use Rattle.node_arena.specs.declared.elements.Elem.{Elem}
use Rattle.node_arena.specs.declared.elements.Side.{Side}
use Rattle.node_arena.specs.declared.elements.Side.TheVariants as side
use Rattle.node_arena.specs.declared.elements.Step.{Step}
use Rattle.node_arena.specs.declared.elements.Step.TheVariants.{Done, Pass}
use Rattle.node_arena.specs.declared.kinds.NodeKind.{NodeKind}
use Rattle.node_arena.specs.declared.kinds.Shape.{Shape}
use Rattle.node_arena.specs.declared.kinds.Shape.TheVariants.{Flat, Post, Ends, Woven}
use Rattle.node_arena.specs.Arenas.{ArenaState, NodeState, node_at, ChangesNode}
use Rattle.node_arena.specs.Conforming.{Conform, Hang, whole, IsLevel, IsRising, spine}
use Rattle.node_arena.specs.Insertions.{PutsIn, Lacks, all_put_in}
use Rattle.node_arena.specs.Kinds.{shape_at}
use Rattle.node_arena.specs.Trees.{Trees, done, node, roots, Stands, Avoids, IsReachedOnce, ChangesOnly}
use Rattle.node_arena.specs.Walks.{walk}

-- ---- kinds and their links

-- how an element goes into nodes of a kind: into a run, along a chain, down a tree of chunks, or down a woven tree
pub data Discipline : Type 0 where
  runs : Discipline
  chains : Discipline
  chunks : Discipline
  weaves : Discipline

-- the discipline of a kind with these links
abbrev pub discipline : Shape → Discipline
discipline Flat = runs
discipline (Post p) = chains
discipline (Ends p q) = chunks
discipline Woven = weaves

-- a link by its place, counted from 0, and the number of the kind that hangs there
pub record LinkPlace : Type 0 where
  pub place : ℕ
  pub kind : ℕ

-- the link at a side of a node with these links
abbrev pub link_at : Shape → Side → Option LinkPlace
link_at Flat side = None
link_at (Post p) side.Pre = None
link_at (Post p) side.Post = Some (record { place = 0; kind = p })
link_at (Ends p q) side.Pre = Some (record { place = 0; kind = p })
link_at (Ends p q) side.Post = Some (record { place = 1; kind = q })
link_at Woven side = None

-- the elements rise, and lie at that side of the run
abbrev pub LieBeside : Side → List Elem → List Elem → Type 0
LieBeside side.Pre run xs = IsRising (xs ++ run)
LieBeside side.Post run xs = IsRising (run ++ xs)

-- how many links a node with these links has; 0 for a woven one, whose links depend on its run
abbrev pub link_total : Shape → ℕ
link_total Flat = 0
link_total (Post p) = 1
link_total (Ends p q) = 2
link_total Woven = 0

-- none of the elements has the coordinate of one of these
abbrev pub AllLack : List Elem → List Elem → Type 0
AllLack [] es = Unit {0}
AllLack (x ∷ xs) es = Lacks x.at es × AllLack xs es

-- ---- what an insertion asks for

-- node i is the root of this tree, which stands and conforms with its root's kind, and where no element has the coordinate of x
pub record CanPutIn (s : List NodeKind) (a : ArenaState) (x : Elem) (i : ℕ) (t : Trees) : Type 0 where
  pub kind : ℕ
  pub run : List Elem
  pub links : Trees
  pub is : t ≡ node i kind run links done
  pub stands : Stands a t
  pub once : IsReachedOnce t
  pub conforms : Conform s kind t
  pub lacks : Lacks x.at (walk s t)

-- ---- how deep it went

-- the spine was n and is m: where a depth is told, the greater of n and that depth; where none is, at most one more than n
abbrev pub Deepens : Option ℕ → ℕ → ℕ → Type 0
Deepens None n m = m ≤ 1 + n
Deepens (Some d) n m = m ≡ max n d

-- the depth below so many nodes with two links, where it is told
abbrev pub deeper : ℕ → Option ℕ → Option ℕ
deeper p None = None
deeper p (Some d) = Some (p + d)

-- how deep a new node with these links goes, below so many nodes with two links, where something hangs behind its run or not; none where it pushes
-- that down
abbrev pub wedge_depth : Shape → Bool → ℕ → Option ℕ
wedge_depth Flat behind p = Some 0
wedge_depth (Post q) behind p = Some 0
wedge_depth (Ends q r) false p = Some (p + 1)
wedge_depth (Ends q r) true p = None
wedge_depth Woven behind p = Some 0

-- a node of the new tree is new, with nothing before its run and a node of the old tree behind it
pub record PushesDown (a b : ArenaState) (old new : Trees) : Type 0 where
  pub wedge : ℕ
  pub pushed : ℕ
  pub is_free : node_at a wedge ≡ None
  pub is_new : Avoids wedge new → ⊥
  pub was_there : Avoids pushed old → ⊥
  pub links : IsSomeAnd (node_at b wedge) (λ n. n.links ≡ None ∷ Some pushed ∷ [])

-- the spine is as the depth tells; where none is told, a node was pushed down
pub record GoesDeep (s : List NodeKind) (a b : ArenaState) (old new : Trees) (deep : Option ℕ) : Type 0 where
  pub deepens : Deepens deep (spine s old) (spine s new)
  pub pushes : deep ≡ None → PushesDown a b old new

-- ---- what it leaves

-- what hangs at a link of kind k, or nothing, has become a structure of that kind with these elements put in
pub record PutsAt (s : List NodeKind) (k : ℕ) (a b : ArenaState) (xs : List Elem) (t u : Trees) : Type 0 where
  pub stands : Stands b u
  pub once : IsReachedOnce u
  pub hangs : Hang s (whole s k ∷ []) u
  pub level : IsLevel s u
  pub spine_low : spine s u ≤ 1 + spine s t
  pub walk_is : walk s u ≡ all_put_in xs (walk s t)
  pub only : ChangesOnly a b t u

-- x is in a tree with the same root, and went so deep
pub record IsDone (s : List NodeKind) (a b : ArenaState) (x : Elem) (t : Trees) (deep : Option ℕ) : Type 0 where
  pub tree : Trees
  pub same_root : roots tree ≡ roots t
  pub puts : PutsIn s a b (x ∷ []) t tree
  pub goes : GoesDeep s a b t tree deep

-- Nothing was written, and x goes on; or the kind behind the run is woven, and one write took the end of the node's run away. The ticks were n
-- before, and are m.
abbrev pub GoesOn : List NodeKind → ArenaState → ArenaState → Elem → ℕ → NodeState → ℕ → List Elem → ℕ → ℕ → Type 0
GoesOn s a b x i passer p xs n m = ((b ≡ a) × (xs ≡ x ∷ []) × (m ≡ n)) ⊎ ((shape_at s p ≡ Woven) × ChangesNode a b i (Some passer) × (m ≡ n + 1))

-- node i has a link at this side, of another discipline, and below is what hangs there; it conforms with the link's kind, and is no deeper than t
pub record LeadsOn (s : List NodeKind) (b : ArenaState) (t : Trees) (i : ℕ) (at_side : Side) : Type 0 where
  pub passer : NodeState
  pub there : node_at b i ≡ Some passer
  pub link : LinkPlace
  pub has_link : link_at (shape_at s passer.kind) at_side ≡ Some link
  pub width : length passer.links ≡ link_total (shape_at s passer.kind)
  pub other : discipline (shape_at s link.kind) ≢ discipline (shape_at s passer.kind)
  pub below : Trees
  pub leads : roots below ≡ slice_index_or passer.links link.place None ∷ []
  pub stands : Stands b below
  pub once : IsReachedOnce below
  pub away : Avoids i below
  pub conforms : Conform s link.kind below
  pub spine_low : spine s below ≤ spine s t

-- the elements lie at this side of the run, what hangs there has none of their coordinates, and together they are no more than t has
pub record CanGoOn (s : List NodeKind) (run : List Elem) (at_side : Side) (below t : Trees) (xs : List Elem) : Type 0 where
  pub some : xs ≢ []
  pub beside : LieBeside at_side run xs
  pub lack : AllLack xs (walk s below)
  pub counted : length xs + length (walk s below) ≤ length (walk s t)

-- The elements still have to go into the structure at this side of node i, which is of another discipline. With them there, and with the link
-- set to its root, x is in the tree, under the old root, and as deep as they went there, below the nodes above. Where that structure keeps its
-- root, the link is set already.
pub record IsPassed (s : List NodeKind) (a b : ArenaState) (x : Elem) (t : Trees) (i : ℕ) (at_side : Side) (xs : List Elem) (above n m : ℕ) : Type 0 where
  pub on : LeadsOn s b t i at_side
  pub can : CanGoOn s on.passer.run at_side on.below t xs
  pub goes_on : GoesOn s a b x i on.passer on.link.kind xs n m
  pub spare : b.nodes.spare ≡ a.nodes.spare
  pub lift : (c d : ArenaState) (v : Trees) (top : Option ℕ) → PutsAt s on.link.kind b c xs on.below v → roots v ≡ top ∷ []
      → ChangesNode c d i (Some (record on.passer { links = slice_set on.passer.links on.link.place top }))
      → (deep : Option ℕ) → GoesDeep s b c on.below v deep → IsDone s a d x t (deeper above deep)

-- What is left to do after an insertion into nodes of one discipline. The ticks were n before, and are m.
abbrev pub Leaves : List NodeKind → ArenaState → ArenaState → Elem → Trees → Step → ℕ → ℕ → Type 0
Leaves s a b x t (Done deep) n m = IsDone s a b x t deep
Leaves s a b x t (Pass i at_side xs above) n m = IsPassed s a b x t i at_side xs.items above n m
