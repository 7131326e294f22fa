-- Nodes that are freed one after another.
use Rattle.std.proofs.Common.{◌≡◌, ◌≢◌, ◌<◌, ◌+◌, ℕ, zero, suc, List, [], ◌∷◌, length, drop, get_or, None, IsSome, refl, ap, ◌∙◌, sym, subst, arith, drop-cons, ltb}
use Rattle.node_arena.specs.Arenas.{ArenaState, node_at, ChangesNode}
use Rattle.node_arena.specs.Insertions.{Misses}
use Rattle.chunk_tree.specs.Numbering.{AreNodes}
use Rattle.chunk_tree.proofs.Cells.{either-step}

Misses-drop : (j n : ℕ) (xs : List ℕ) → Misses j xs → Misses j (drop n xs)
Misses-drop j zero xs h = h
Misses-drop j (suc n) [] h = tt
Misses-drop j (suc n) (x ∷ xs) h = Misses-drop j n xs h.1

AreNodes-freed : (a b : ArenaState) (i : ℕ) (xs : List ℕ) → ChangesNode a b i None → Misses i xs → AreNodes a xs → AreNodes b xs
AreNodes-freed a b i [] c m h = tt
AreNodes-freed a b i (x ∷ xs) c m h = (subst IsSome (sym (c.node.others x m.0)) h.0, h.1, AreNodes-freed a b i xs c m.1 h.2)

-- the nodes with these numbers are being freed: those from a place on are there, and those before are gone
pub record AreFreed (first a : ArenaState) (ids : List ℕ) (n : ℕ) : Type 0 where
  pub left : AreNodes a (drop n ids)
  pub gone : (i : ℕ) → (Misses i ids → ⊥) → Misses i (drop n ids) → node_at a i ≡ None
  pub others : (i : ℕ) → Misses i ids → node_at a i ≡ node_at first i

-- none was freed
pub freed-none : (a : ArenaState) (ids : List ℕ) → AreNodes a ids → AreFreed a a ids 0
freed-none a ids h = record { left = h; gone = λ i m w. absurd (m w); others = λ i m. refl }

module _ (first a : ArenaState) (ids : List ℕ) (n i : ℕ) (in_range : n < length ids) (is : i ≡ get_or ids n i) (h : AreFreed first a ids n) where
  split : drop n ids ≡ i ∷ drop (n + 1) ids
  split =
      let step : suc n ≡ n + 1 = omega arith in
      drop-cons ids n i in_range ∙ ap (λ m. m ∷ drop (suc n) ids) (sym is) ∙ ap (λ m. i ∷ drop m ids) step

  parts : AreNodes a (i ∷ drop (n + 1) ids)
  parts = subst (AreNodes a) split h.left

  -- the next one is there
  pub freed-there : IsSome (node_at a i)
  freed-there = parts.0

  inside : (j : ℕ) → Misses j ids → i ≢ j
  inside j m = (let w : Misses j (i ∷ drop (n + 1) ids) = subst (Misses j) split (Misses-drop j n ids m) in w.0)

  -- and is freed
  pub freed-one : (b : ArenaState) → ChangesNode a b i None → AreFreed first b ids (n + 1)
  freed-one b c = record {
    left = AreNodes-freed a b i (drop (n + 1) ids) c parts.1 parts.2;
    gone = λ j m w. either-step i j (node_at b j ≡ None) (λ e. subst (λ k. node_at b k ≡ None) e c.node.changed)
        (λ ne. c.node.others j (λ e. ne (sym e)) ∙ h.gone j m (subst (Misses j) (sym split) (ne, w))) (ltb i j) (ltb j i) refl refl;
    others = λ j m. c.node.others j (λ e. inside j m (sym e)) ∙ h.others j m;
  }

-- all were freed
pub freed-all : (first a : ArenaState) (ids : List ℕ) (n : ℕ) → drop n ids ≡ [] → AreFreed first a ids n → (i : ℕ) → (Misses i ids → ⊥) → node_at a i ≡ None
freed-all first a ids n e h i m = h.gone i m (subst (Misses i) (sym e) tt)
