-- What a change of an arena leaves as it was.
use Rattle.std.proofs.Common.{◌≡◌, ℕ, List, ◌∷◌, Option, Some, None, IsSome, ◌∙◌, sym, subst, refl}
use Rattle.node_arena.specs.Arenas.{NodeState, ArenaState, node_at, ChangesNode}
use Rattle.node_arena.specs.Trees.{Trees, done, absent, node, roots, stored, Stands, Avoids, IsApart, KeepsOutside}

-- trees that avoid the changed number stand as before
pub Stands-changed : {a b : ArenaState} {i : ℕ} {slot : Option NodeState} → (t : Trees) → ChangesNode a b i slot → Avoids i t → Stands a t → Stands b t
Stands-changed done c v h = tt
Stands-changed (absent rest) c v h = Stands-changed rest c v h
Stands-changed (node j k run ls rest) c v h = (c.node.others j v.0 ∙ h.0, Stands-changed ls c v.1 h.1, Stands-changed rest c v.2 h.2)

-- a number with no node is in no tree that stands
pub Avoids-free : (a : ArenaState) (t : Trees) (i : ℕ) → node_at a i ≡ None → Stands a t → Avoids i t
Avoids-free a done i e h = tt
Avoids-free a (absent rest) i e h = Avoids-free a rest i e h
Avoids-free a (node j k run ls rest) i e h = (
  (λ same. let both : node_at a i ≡ Some (stored k run ls) = subst (λ n. node_at a n ≡ Some (stored k run ls)) same h.0 in cc),
  Avoids-free a ls i e h.1,
  Avoids-free a rest i e h.2,
)

same-head : (i j : ℕ) (l m : List (Option ℕ)) → Some i ∷ l ≡ Some j ∷ m → i ≡ j
same-head i j l m e = cc

-- the first root is in its tree
pub Avoids-root : (t : Trees) (i : ℕ) (rest : List (Option ℕ)) → roots t ≡ Some i ∷ rest → Avoids i t → ⊥
Avoids-root done i rest e v = cc
Avoids-root (absent t) i rest e v = cc
Avoids-root (node j k run ls t) i rest e v = v.0 (same-head j i (roots t) rest e)

-- the frame: trees apart from t stand as before
pub Stands-outside : (a b : ArenaState) (t u : Trees) → KeepsOutside a b t → IsApart u t → Stands a u → Stands b u
Stands-outside a b t done keeps apart h = tt
Stands-outside a b t (absent rest) keeps apart h = Stands-outside a b t rest keeps apart h
Stands-outside a b t (node j k run ls rest) keeps apart h = (
  keeps j (subst IsSome (sym h.0) refl) apart.0 ∙ h.0,
  Stands-outside a b t ls keeps apart.1 h.1,
  Stands-outside a b t rest keeps apart.2 h.2,
)

-- all trees are apart from none
pub IsApart-done : (t : Trees) → IsApart t done
IsApart-done done = tt
IsApart-done (absent rest) = IsApart-done rest
IsApart-done (node i k run ls rest) = (tt, IsApart-done ls, IsApart-done rest)
