-- A node with a link behind its run: its place, its level and its spine.
use Rattle.std.proofs.Common.{◌≡◌, ◌≤◌, ◌+◌, ℕ, max, List, [], ◌∷◌, Option, Some, None, refl, ap, ◌∙◌, sym, subst, arith, length}
use Rattle.node_arena.specs.declared.elements.Elem.{Elem}
use Rattle.node_arena.specs.declared.kinds.NodeKind.{NodeKind}
use Rattle.node_arena.specs.declared.kinds.Shape.{Shape}
use Rattle.node_arena.specs.declared.kinds.Shape.TheVariants.{Flat, Post, Ends, Woven}
use Rattle.node_arena.specs.Conforming.{Hang, IsLevelAt, spine, spine_by, places, whole, least_of}
use Rattle.node_arena.specs.Kinds.{kind_at, shape_at}
use Rattle.node_arena.specs.Passing.{discipline, chains, chunks, weaves, runs}
use Rattle.node_arena.specs.Trees.{Trees, done, absent, node, roots}
use Rattle.node_arena.proofs.PlacesLemmas.{hang-none}

-- ---- shapes

-- what a kind with post alone names
pub record IsChain (s : List NodeKind) (k : ℕ) : Type 0 where
  pub post : ℕ
  pub shape : shape_at s k ≡ Post post

chain_of : (s : List NodeKind) (k : ℕ) (shape : Shape) → shape_at s k ≡ shape → discipline shape ≡ chains → IsChain s k
chain_of s k Flat e d = absurd (let f : runs ≡ chains = d in cc)
chain_of s k (Post p) e d = record { post = p; shape = e }
chain_of s k (Ends p q) e d = absurd (let f : chunks ≡ chains = d in cc)
chain_of s k Woven e d = absurd (let f : weaves ≡ chains = d in cc)

-- the discipline of chains is that of kinds with post alone
pub IsChain-discipline : (s : List NodeKind) (k : ℕ) → discipline (shape_at s k) ≡ chains → IsChain s k
IsChain-discipline s k d = chain_of s k (shape_at s k) refl d

-- ---- rows

-- what hangs at one place has one root
pub root_of : (s : List NodeKind) (k : ℕ) (ls : Trees) → Hang s (whole s k ∷ []) ls → (r : Option ℕ) × (roots ls ≡ r ∷ [])
root_of s k done h = cc
root_of s k (absent rest) h = (None, ap (λ u. roots (absent u)) (hang-none s rest h.1))
root_of s k (node i m run ls rest) h = (Some i, ap (λ u. roots (node i m run ls u)) (hang-none s rest h.4))

module _ (s : List NodeKind) where
  -- ---- the place

  -- a node of a chain may have another run and another link
  pub hang-chain : (i k p m : ℕ) (run run' : List Elem) (ls ls' : Trees) → shape_at s k ≡ Post p → (kind_at s k).lo ≡ 1 → 1 ≤ length run'
      → length run' ≤ (kind_at s k).hi → Hang s (whole s p ∷ []) ls' → Hang s (whole s m ∷ []) (node i k run ls done)
      → Hang s (whole s m ∷ []) (node i k run' ls' done)
  hang-chain i k p m run run' ls ls' e lo low high f h =
      let least : (whole s m).least ≡ 1 = ap (λ n. (whole s n).least) (sym h.0) ∙ ap (λ sh. least_of (kind_at s k) sh) e ∙ lo in
      (h.0, omega arith, high, subst (λ sh. Hang s (places s sh k run' ls') ls') (sym e) f, refl)

  -- the links of a node of a chain
  pub hang-links : (i k p m : ℕ) (run : List Elem) (ls : Trees) → shape_at s k ≡ Post p → Hang s (whole s m ∷ []) (node i k run ls done)
      → Hang s (whole s p ∷ []) ls
  hang-links i k p m run ls e h = subst (λ sh. Hang s (places s sh k run ls) ls) e h.3

  -- a new node of the kind behind, with the old link
  pub hang-post : (j k p : ℕ) (run : List Elem) (ls : Trees) → shape_at s k ≡ Post p → (kind_at s k).lo ≡ 1 → 1 ≤ length run → length run ≤ (kind_at s k).hi
      → Hang s (whole s p ∷ []) ls → Hang s (whole s k ∷ []) (node j k run ls done)
  hang-post j k p run ls e lo low high f =
      let least : (whole s k).least ≡ 1 = ap (λ sh. least_of (kind_at s k) sh) e ∙ lo in
      (refl, omega arith, high, subst (λ sh. Hang s (places s sh k run ls) ls) (sym e) f, refl)

  -- the same, where that kind has two links: the first is absent
  pub hang-ends : (j k q p : ℕ) (run : List Elem) (ls : Trees) → shape_at s k ≡ Ends q p → (kind_at s k).lo ≡ 1 → 1 ≤ length run → length run ≤ (kind_at s k).hi
      → Hang s (whole s p ∷ []) ls → Hang s (whole s k ∷ []) (node j k run (absent ls) done)
  hang-ends j k q p run ls e lo low high f =
      let least : (whole s k).least ≡ 1 = ap (λ sh. least_of (kind_at s k) sh) e ∙ lo in
      (refl, omega arith, high, subst (λ sh. Hang s (places s sh k run (absent ls)) (absent ls)) (sym e) (refl, f), refl)

  -- ---- the level

  -- a node of a chain may have links of any height
  pub level-post : (k p : ℕ) (ls : Trees) → shape_at s k ≡ Post p → IsLevelAt s (shape_at s k) ls
  level-post k p ls e = subst (λ sh. IsLevelAt s sh ls) (sym e) tt

  -- a node with two links too
  pub level-ends : (k q p : ℕ) (ls : Trees) → shape_at s k ≡ Ends q p → IsLevelAt s (shape_at s k) ls
  level-ends k q p ls e = subst (λ sh. IsLevelAt s sh ls) (sym e) tt

  -- ---- the spine

  -- the spine of a chain is that of what follows
  pub spine-post : (i k p : ℕ) (run : List Elem) (ls : Trees) → shape_at s k ≡ Post p → spine s (node i k run ls done) ≡ spine s ls
  spine-post i k p run ls e =
      let m : max (spine s ls) 0 ≡ spine s ls = omega arith in
      ap (λ sh. max (spine_by sh (spine s ls)) 0) e ∙ m

  -- one more with two links
  pub spine-ends : (i k q p : ℕ) (run : List Elem) (ls : Trees) → shape_at s k ≡ Ends q p → spine s (node i k run ls done) ≡ 1 + spine s ls
  spine-ends i k q p run ls e =
      let m : max (1 + spine s ls) 0 ≡ 1 + spine s ls = omega arith in
      ap (λ sh. max (spine_by sh (spine s ls)) 0) e ∙ m
