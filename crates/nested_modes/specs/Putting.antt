-- A number put in at coordinates.
use Rattle.std.specs.Prelude.{◌≡◌, ◌≢◌, ◌≤◌, ◌+◌, ◌*◌, ◌^◌, ℕ, suc, false, List, [], ◌∷◌, ◌++◌, All}
use Rattle.dt_model.specs.declared.declared_tensors.Schema.{Schema}
use Rattle.node_arena.specs.declared.elements.Elem.{Elem}
use Rattle.node_arena.specs.declared.elements.Structure.{Structure}
use Rattle.node_arena.specs.declared.kinds.NodeKind.{NodeKind}
use Rattle.node_arena.specs.declared.kinds.Shape.TheVariants.{Woven}
use Rattle.node_arena.specs.Arenas.{ArenaState}
use Rattle.node_arena.specs.Insertions.{Lacks, DifferInFew}
use Rattle.node_arena.specs.Kinds.{kinds_of, root_of, shape_at}
use Rattle.node_arena.specs.Structures.{Tree, walk_of, IsStanding, IsConforming, Keeps, TakesNew}
use Rattle.insert_gen.specs.declared.needs.Spares.{Spares}
use Rattle.insert_gen.specs.Inserting.{KeepsRoom}
use Rattle.insert_gen.specs.Needs.{has_woven, Wants}
use Rattle.nested_modes.specs.Codes.{mode_of, modes_of}
use Rattle.nested_modes.specs.Frames.{KeepsNested}
use Rattle.nested_modes.specs.Paths.{below}
use Rattle.nested_modes.specs.Readiness.{HasRoomFor}

-- ---- entries

-- no entry has these coordinates
abbrev pub LacksEntry : List ℕ → List (List ℕ × ℕ) → Type 0
LacksEntry c entries = All (λ p. p.0 ≢ c) entries

-- none, or one entry, with these coordinates
abbrev pub IsEntryAt : List ℕ → List (List ℕ × ℕ) → Type 0
IsEntryAt c [] = Unit {0}
IsEntryAt c (p ∷ ps) = (p.0 ≡ c) × (ps ≡ [])

-- this number stands at these coordinates, in the place of the one that was there or between others, and all other entries are as before
pub record PutsEntry (c : List ℕ) (v : ℕ) (old new : List (List ℕ × ℕ)) : Type 0 where
  pub before : List (List ℕ × ℕ)
  pub was : List (List ℕ × ℕ)
  pub after : List (List ℕ × ℕ)
  pub old_is : old ≡ before ++ (was ++ after)
  pub one : IsEntryAt c was
  pub new_is : new ≡ before ++ (c, v) ∷ after
  pub lacks_before : LacksEntry c before
  pub lacks_after : LacksEntry c after

-- ---- elements

-- none, or one element, with this coordinate
abbrev pub IsElemAt : ℕ → List Elem → Type 0
IsElemAt n [] = Unit {0}
IsElemAt n (e ∷ es) = (e.at ≡ n) × (es ≡ [])

-- x stands in the place of the element with its coordinate or between others, and all other elements are as before
pub record SetsElem (x : Elem) (old new : List Elem) : Type 0 where
  pub before : List Elem
  pub was : List Elem
  pub after : List Elem
  pub old_is : old ≡ before ++ (was ++ after)
  pub one : IsElemAt x.at was
  pub new_is : new ≡ before ++ x ∷ after
  pub lacks_before : Lacks x.at before
  pub lacks_after : Lacks x.at after

-- the structure has become another tree, with x set; what is outside is kept, and further numbers were free
pub record IsSetIn (s : List NodeKind) (k : ℕ) (a b : ArenaState) (x : Elem) (t : Tree) (new : Structure) : Type 0 where
  pub tree : Tree
  pub stands : IsStanding s b new tree
  pub conforms : IsConforming s k new tree
  pub sets : SetsElem x (walk_of s t) (walk_of s tree)
  pub keeps : Keeps a b t
  pub news : TakesNew a t tree

-- ---- what is spent

-- at most 2h + 1 nodes differ, for an h that the digits of the length bound
pub record DifferByHeight (a b : ArenaState) (len : ℕ) : Type 0 where
  pub height : ℕ
  pub low : 2 ^ height ≤ len + 1
  pub differ : DifferInFew (2 * height + 1) a b

-- what one element that is set, in a structure that was st and is new, writes and spends in its mode
pub record Spends (s : List NodeKind) (k : ℕ) (a b : ArenaState) (st new : Structure) : Type 0 where
  pub few : has_woven s ≡ false → DifferInFew 2 a b
  pub woven : shape_at s k ≡ Woven → DifferByHeight a b st.len
  pub len : new.len ≤ st.len + 1
  pub spine : new.spine ≤ st.spine + 1
  pub nodes : (n : Spares) → Wants s k st n → a.nodes.spare ≤ b.nodes.spare + n.nodes
  pub runs : (n : Spares) → Wants s k st n → a.runs.spare ≤ b.runs.spare + n.runs
  pub room : KeepsRoom st.top a b
  pub room_now : (n : ℕ) → HasRoomFor (suc n) st.top (shape_at s k) a → HasRoomFor n new.top (shape_at s k) b
  pub spare_room : b.runs.room ≡ a.runs.room
  pub most : b.nodes.most ≡ a.nodes.most

-- the structures below other coordinates than n are the same ones, and as before
abbrev pub KeepsBelow : Schema → List Schema → ArenaState → ArenaState → List ArenaState → List ArenaState → Structure → Structure → ℕ → Type 0
KeepsBelow c cs a b old new st now n = (other : ℕ) → other ≢ n
    → (below (mode_of c b) now other ≡ below (mode_of c a) st other) × KeepsNested (modes_of cs old) (modes_of cs new) (below (mode_of c a) st other)

-- in each mode, for the structures on the path before and after
abbrev pub SpendsEach : List Schema → List ArenaState → List ArenaState → Structure → Structure → List ℕ → Type 0
SpendsEach [] old new st now at = new ≡ old
SpendsEach (c ∷ cs) [] new st now at = ⊥
SpendsEach (c ∷ cs) (a ∷ old) [] st now at = ⊥
SpendsEach (c ∷ cs) (a ∷ old) (b ∷ new) st now [] = ⊥
SpendsEach (c ∷ cs) (a ∷ old) (b ∷ new) st now (n ∷ at) =
    Spends (kinds_of c) (root_of c) a b st now
    × KeepsBelow c cs a b old new st now n
    × SpendsEach cs old new (below (mode_of c a) st n) (below (mode_of c b) now n) at
