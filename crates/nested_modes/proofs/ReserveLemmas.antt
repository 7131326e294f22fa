-- Memory that is taken on a path.
use Rattle.std.proofs.Common.{◌≡◌, ◌==◌, ℕ, false, List, [], ◌∷◌, length, Option, ap, ◌∙◌, sym, subst, arith}
use Rattle.std.specs.List.{AllZip}
use Rattle.std.proofs.lemmas.Bool.Decides.{nat_tests}
use Rattle.dt_model.specs.declared.declared_tensors.Schema.{Schema}
use Rattle.node_arena.specs.declared.elements.Elem.{Elem}
use Rattle.node_arena.specs.declared.elements.Structure.{Structure}
use Rattle.node_arena.specs.Arenas.{ArenaState}
use Rattle.node_arena.specs.Kinds.{kinds_of, root_of, shape_at}
use Rattle.node_arena.specs.Modes.{walk_in, tree_in, IsNested}
use Rattle.node_arena.specs.Structures.{walk_of}
use Rattle.node_arena.proofs.ModesLemmas.{tree_in-stands}
use Rattle.iter_gen.specs.LookingUp.{elem_with}
use Rattle.nested_modes.specs.Codes.{mode_of, modes_of}
use Rattle.nested_modes.specs.Paths.{inner_of, below}
use Rattle.nested_modes.specs.Readiness.{HasRoomFor, HasSpares, IsReadyFor}
use Rattle.nested_modes.specs.Preparing.{HoldsSame, IsLowFor}
use Rattle.nested_modes.proofs.HoldsLemmas.{IsStanding-same}
use Rattle.nested_modes.proofs.PathLemmas.{IsNested-below}

-- each is as itself
pub AllZip-same : {X : Type 0} (R : X → X → Type 0) → ((x : X) → R x x) → (xs : List X) → AllZip R xs xs
AllZip-same R f [] = tt
AllZip-same R f (x ∷ xs) = (f x, AllZip-same R f xs)

-- below a coordinate all is as before
pub below-same : (c : Schema) (cs : List Schema) (a b : ArenaState) (old : List ArenaState) (st : Structure) (n : ℕ) → HoldsSame a b
    → IsNested (modes_of (c ∷ cs) (a ∷ old)) st → below (mode_of c b) st n ≡ below (mode_of c a) st n
below-same c cs a b old st n g h =
    let t : tree_in b st ≡ tree_in a st =
    tree_in-stands (kinds_of c) b st (tree_in a st) (IsStanding-same (kinds_of c) a b st (tree_in a st) g h.structure.stands) in
    ap (λ u. inner_of (elem_with n (walk_of (kinds_of c) u))) t

-- below the first mode the structure is one of the others, and low
pub low-below : (k : ℕ) (c : Schema) (cs : List Schema) (a : ArenaState) (old : List ArenaState) (st : Structure) (n : ℕ) (at : List ℕ) (there : Option Elem)
    → (length cs == 0) ≡ false → IsNested (modes_of (c ∷ cs) (a ∷ old)) st → IsLowFor k (c ∷ cs) (a ∷ old) st (n ∷ at)
    → there ≡ elem_with n (walk_in (mode_of c a) st) → IsNested (modes_of cs old) (inner_of there) × IsLowFor k cs old (inner_of there) at
low-below k c [] a old st n at there some h r e = absurd (grind (arith, nat_tests, some))
low-below k c (d ∷ cs) a [] st n at there some h r e = absurd r.2
low-below k c (d ∷ cs) a (b ∷ old) st n at there some h r e = (
  IsNested-below (mode_of c a) (mode_of d b) (modes_of cs old) st n there h e,
  subst (λ o. IsLowFor k (d ∷ cs) (b ∷ old) (inner_of o) at) (sym e) r.2,
)

module _ (codes : List Schema) (arenas : List ArenaState) (path : List ℕ) (c : Schema) (cs : List Schema) (a : ArenaState) (old : List ArenaState) (n : ℕ)
    (at : List ℕ)
    (ec : codes ≡ c ∷ cs) (ea : arenas ≡ a ∷ old) (et : path ≡ n ∷ at) where
  pub IsLowFor-lists : (k : ℕ) (st : Structure) → IsLowFor k codes arenas st path → IsLowFor k (c ∷ cs) (a ∷ old) st (n ∷ at)
  IsLowFor-lists k st h =
      subst (λ l. IsLowFor k (c ∷ cs) (a ∷ old) st l) et (subst (λ l. IsLowFor k (c ∷ cs) l st path) ea (subst (λ l. IsLowFor k l arenas st path) ec h))

  -- the first mode is ready, and the others are
  pub IsReadyFor-step : (k : ℕ) (b : ArenaState) (new : List ArenaState) (st : Structure) (there : Option Elem) → IsNested (modes_of (c ∷ cs) (a ∷ old)) st
      → IsLowFor k codes arenas st path → HoldsSame a b → HasSpares k (kinds_of c) (root_of c) b
      → HasRoomFor k st.top (shape_at (kinds_of c) (root_of c)) b → there ≡ elem_with n (walk_in (mode_of c a) st)
      → IsReadyFor k cs new (inner_of there) at → IsReadyFor k codes (b ∷ new) st path
  IsReadyFor-step k b new st there h l g spares room e r =
      let low = (IsLowFor-lists k st l).1 in
      let inner : below (mode_of c b) st n ≡ inner_of there = below-same c cs a b old st n g h ∙ ap inner_of (sym e) in
      let whole : IsReadyFor k (c ∷ cs) (b ∷ new) st (n ∷ at) =
      (spares, record { few = low.few; low = low.low; room = room }, subst (λ y. IsReadyFor k cs new y at) (sym inner) r) in
      subst (λ v. IsReadyFor k v (b ∷ new) st path) (sym ec) (subst (λ v. IsReadyFor k (c ∷ cs) (b ∷ new) st v) (sym et) whole)

-- behind the last coordinate there is none, and no arena
pub low-end : (k : ℕ) (c : Schema) (cs : List Schema) (a : ArenaState) (old : List ArenaState) (st : Structure) (n : ℕ) (at : List ℕ) (y : Structure) → cs ≡ []
    → IsLowFor k (c ∷ cs) (a ∷ old) st (n ∷ at) → IsReadyFor k cs old y at
low-end k c [] a old st n at y e r = r.2
low-end k c (d ∷ cs) a old st n at y e r = cc
