-- Visits of elements one after another.
use Rattle.std.specs.Prelude.{◌≡◌, ◌⊎◌, ℕ, List, [], ◌∷◌, drop, Result, Ok, IsErr}
use Rattle.node_arena.specs.declared.elements.Elem.{Elem}
use Rattle.node_arena.specs.declared.elements.Structure.{Structure}
use Rattle.node_arena.specs.declared.kinds.NodeKind.{NodeKind}
use Rattle.node_arena.specs.Arenas.{ArenaState}
use Rattle.node_arena.specs.Structures.{walk_of}
use Rattle.iter_gen.specs.LookingUp.{CanBeRead}

-- The elements are visited in order, and the visitor becomes another one; or the visit of one of them fails, and no later one is visited.
-- `visit` says of one visit what it answered, and what the visitor was before and behind.
abbrev pub Visits : {V E : Type 0} → (V → Elem → Result (Unit {0}) E → V → Type 0) → List Elem → V → Result (Unit {0}) E → V → Type 0
Visits visit [] old result new = (result ≡ Ok tt) × (new ≡ old)
Visits {V} visit (e ∷ es) old result new =
    ((mid : V) × visit old e (Ok tt) mid × Visits visit es mid result new) ⊎ (IsErr result × visit old e result new)

-- each of the elements may be handed over
abbrev pub AllowsEach : (Elem → Type 0) → List Elem → Type 0
AllowsEach allows [] = Unit {0}
AllowsEach allows (e ∷ es) = allows e × AllowsEach allows es

-- the structure can be read, and each of its elements may be handed over
pub record CanBeFolded (allows : Elem → Type 0) (s : List NodeKind) (a : ArenaState) (st : Structure) : Type 0 where
  pub read : CanBeRead s a st
  pub allowed : AllowsEach allows (walk_of s read.tree)

-- the elements from a place on are still to come, and may be handed over; used by the proofs alone
pub record IsAt {V E : Type 0} (allows : V → Elem → Type 0) (visit : V → Elem → Result (Unit {0}) E → V → Type 0) (old now : V) (place : ℕ)
    (xs : List Elem) : Type 0 where
  pub allowed : AllowsEach (allows now) (drop place xs)
  pub comes : (result : Result (Unit {0}) E) (new : V) → Visits visit (drop place xs) now result new → Visits visit xs old result new
