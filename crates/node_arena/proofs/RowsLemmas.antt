-- Trees in a row, of which some are exchanged.
use Rattle.std.proofs.Common.{◌≡◌, ℕ, List, [], ◌∷◌, ◌++◌, Some, None, IsSome, refl, ap, sym, subst}
use Rattle.node_arena.specs.declared.elements.Elem.{Elem}
use Rattle.node_arena.specs.declared.kinds.NodeKind.{NodeKind}
use Rattle.node_arena.specs.Arenas.{ArenaState}
use Rattle.node_arena.specs.Kinds.{shape_at}
use Rattle.node_arena.specs.Trees.{Trees, done, absent, node, roots, Stands, Avoids, IsApart, IsReachedOnce, KeepsOutside, TakesFree}
pub use Rattle.node_arena.specs.Trees.{beside}
use Rattle.node_arena.specs.Walks.{walks, joined, parts}
use Rattle.node_arena.proofs.FramesLemmas.{Stands-outside}

-- ---- two rows side by side

-- the roots of both, one after another
pub roots-beside : (t u : Trees) → roots (beside t u) ≡ roots t ++ roots u
roots-beside done u = refl
roots-beside (absent t) u = ap (λ r. None ∷ r) (roots-beside t u)
roots-beside (node i k run ls t) u = ap (λ r. Some i ∷ r) (roots-beside t u)

-- the walks of both, one after another
pub walks-beside : (s : List NodeKind) (t u : Trees) → walks s (beside t u) ≡ walks s t ++ walks s u
walks-beside s done u = refl
walks-beside s (absent t) u = ap (λ r. [] ∷ r) (walks-beside s t u)
walks-beside s (node i k run ls t) u = ap (λ r. joined (parts (shape_at s k) run (walks s ls)) ∷ r) (walks-beside s t u)

-- what stands side by side
pub Stands-beside : (a : ArenaState) (t u : Trees) → Stands a t → Stands a u → Stands a (beside t u)
Stands-beside a done u h k = k
Stands-beside a (absent t) u h k = Stands-beside a t u h k
Stands-beside a (node i k run ls t) u h g = (h.0, h.1, Stands-beside a t u h.2 g)

-- each of two rows that stand side by side stands
pub beside-Stands : (a : ArenaState) (t u : Trees) → Stands a (beside t u) → Stands a t × Stands a u
beside-Stands a done u h = (tt, h)
beside-Stands a (absent t) u h = beside-Stands a t u h
beside-Stands a (node i k run ls t) u h = let r = beside-Stands a t u h.2 in ((h.0, h.1, r.0), r.1)

-- a number that neither row has
pub Avoids-beside : (i : ℕ) (t u : Trees) → Avoids i t → Avoids i u → Avoids i (beside t u)
Avoids-beside i done u h k = k
Avoids-beside i (absent t) u h k = Avoids-beside i t u h k
Avoids-beside i (node j k run ls t) u h g = (h.0, h.1, Avoids-beside i t u h.2 g)

-- a number that is in no row of two is in neither
pub beside-Avoids : (i : ℕ) (t u : Trees) → Avoids i (beside t u) → Avoids i t × Avoids i u
beside-Avoids i done u h = (tt, h)
beside-Avoids i (absent t) u h = beside-Avoids i t u h
beside-Avoids i (node j k run ls t) u h = let r = beside-Avoids i t u h.2 in ((h.0, h.1, r.0), r.1)

-- apart from both rows
pub IsApart-beside : (t u v : Trees) → IsApart t u → IsApart t v → IsApart t (beside u v)
IsApart-beside done u v h k = tt
IsApart-beside (absent t) u v h k = IsApart-beside t u v h k
IsApart-beside (node i k run ls t) u v h g = (Avoids-beside i u v h.0 g.0, IsApart-beside ls u v h.1 g.1, IsApart-beside t u v h.2 g.2)

-- what is apart from two rows side by side is apart from each
pub beside-IsApart : (t u v : Trees) → IsApart t (beside u v) → IsApart t u × IsApart t v
beside-IsApart done u v h = (tt, tt)
beside-IsApart (absent t) u v h = beside-IsApart t u v h
beside-IsApart (node i k run ls t) u v h =
    let a = beside-Avoids i u v h.0 in
    let b = beside-IsApart ls u v h.1 in
    let c = beside-IsApart t u v h.2 in
    ((a.0, b.0, c.0), (a.1, b.1, c.1))

-- two rows apart from one another, in each of which no node is reached twice
pub IsReachedOnce-beside : (t u : Trees) → IsReachedOnce t → IsReachedOnce u → IsApart t u → IsReachedOnce (beside t u)
IsReachedOnce-beside done u h k p = k
IsReachedOnce-beside (absent t) u h k p = IsReachedOnce-beside t u h k p
IsReachedOnce-beside (node i k run ls t) u h g p =
    (h.0, Avoids-beside i t u h.1 p.0, IsApart-beside ls t u h.2 p.1, h.3, IsReachedOnce-beside t u h.4 g p.2)

-- where no node is reached twice in two rows, none is in each, and they are apart
pub beside-IsReachedOnce : (t u : Trees) → IsReachedOnce (beside t u) → IsReachedOnce t × IsReachedOnce u × IsApart t u
beside-IsReachedOnce done u h = (tt, h, tt)
beside-IsReachedOnce (absent t) u h = beside-IsReachedOnce t u h
beside-IsReachedOnce (node i k run ls t) u h =
    let r = beside-IsReachedOnce t u h.4 in
    let a = beside-Avoids i t u h.1 in
    let p = beside-IsApart ls t u h.2 in
    ((h.0, a.0, p.0, h.3, r.0), r.1, (a.1, p.1, r.2))

-- ---- apart

-- trees that were apart from the old tree are apart from the new one, whose further numbers were free
pub IsApart-new : (a : ArenaState) (t new u : Trees) → TakesFree a t new → Stands a u → IsApart u t → IsApart u new
IsApart-new a t new done news h p = tt
IsApart-new a t new (absent u) news h p = IsApart-new a t new u news h p
IsApart-new a t new (node i k run ls u) news h p =
    (news i (subst IsSome (sym h.0) refl) p.0, IsApart-new a t new ls news h.1 p.1, IsApart-new a t new u news h.2 p.2)

first-avoided : (i k : ℕ) (run : List Elem) (ls t u : Trees) → IsApart t (node i k run ls u) → Avoids i t
first-avoided i k run ls done u h = tt
first-avoided i k run ls (absent t) u h = first-avoided i k run ls t u h
first-avoided i k run ls (node j m r l t) u h = ((λ e. h.0.0 (sym e)), first-avoided i k run ls l u h.1, first-avoided i k run ls t u h.2)

others-apart : (i k : ℕ) (run : List Elem) (ls t u : Trees) → IsApart t (node i k run ls u) → IsApart t ls × IsApart t u
others-apart i k run ls done u h = (tt, tt)
others-apart i k run ls (absent t) u h = others-apart i k run ls t u h
others-apart i k run ls (node j m r l t) u h =
    let a = others-apart i k run ls l u h.1 in
    let b = others-apart i k run ls t u h.2 in
    ((h.0.1, a.0, b.0), (h.0.2, a.1, b.1))

absent-apart : (v w : Trees) → IsApart v (absent w) → IsApart v w
absent-apart done w h = tt
absent-apart (absent v) w h = absent-apart v w h
absent-apart (node i k run ls v) w h = (h.0, absent-apart ls w h.1, absent-apart v w h.2)

-- to be apart goes both ways
pub IsApart-flip : (t u : Trees) → IsApart t u → IsApart u t
IsApart-flip t done h = tt
IsApart-flip t (absent u) h = IsApart-flip t u (absent-apart t u h)
IsApart-flip t (node i k run ls u) h =
    let p = others-apart i k run ls t u h in
    (first-avoided i k run ls t u h, IsApart-flip t ls p.0, IsApart-flip t u p.1)

-- some trees of a row are exchanged for trees that stand in the new arena, and the others stand as before
pub exchanged : (a b : ArenaState) (before t new later : Trees)
    → Stands a (beside before (beside t later)) → IsReachedOnce (beside before (beside t later)) → Stands b new → IsReachedOnce new
    → KeepsOutside a b t → TakesFree a t new
    → Stands b (beside before (beside new later)) × IsReachedOnce (beside before (beside new later))
exchanged a b before t new later st once st2 once2 keeps news =
    let h = beside-Stands a before (beside t later) st in
    let g = beside-Stands a t later h.1 in
    let o = beside-IsReachedOnce before (beside t later) once in
    let q = beside-IsReachedOnce t later o.1 in
    let p = beside-IsApart before t later o.2 in
    let later_new : IsApart later new = IsApart-new a t new later news g.1 (IsApart-flip t later q.2) in (
      Stands-beside b before (beside new later) (Stands-outside a b t before keeps p.0 h.0)
          (Stands-beside b new later st2 (Stands-outside a b t later keeps (IsApart-flip t later q.2) g.1)),
      IsReachedOnce-beside before (beside new later) o.0 (IsReachedOnce-beside new later once2 q.1 (IsApart-flip later new later_new))
          (IsApart-beside before new later (IsApart-new a t new before news h.0 p.0) p.1),
    )
