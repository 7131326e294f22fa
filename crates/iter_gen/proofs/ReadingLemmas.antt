-- What is read of a node before one of its elements.
use Rattle.std.proofs.Common.{◌≡◌, ◌≢◌, ◌≤◌, ◌<◌, ◌+◌, ℕ, zero, suc, List, []}
use Rattle.std.proofs.Common.{◌∷◌, ◌++◌, map, length, get_or, Option, Some, None, refl, ◌∙◌, sym, subst, arith}
use Rattle.std.proofs.Props.{props}
use Rattle.std.specs.Prelude.{IfSome}
use Rattle.node_arena.specs.declared.elements.Elem.{Elem}
use Rattle.node_arena.specs.declared.kinds.Shape.{Shape}
use Rattle.node_arena.specs.declared.kinds.Shape.TheVariants.{Flat, Post, Ends, Woven}
use Rattle.node_arena.specs.Arenas.{NodeState}
use Rattle.node_arena.specs.Walks.{Part, item, link, parts}
use Rattle.iter_gen.specs.Acts.{HasAllLinks}
use Rattle.iter_gen.specs.Behind.{behind, first_link}
use Rattle.iter_gen.specs.Frames.{link_read}

-- the link that is read before element n of a node, or behind the last one
abbrev pub read : Shape → List Elem → List (Option ℕ) → ℕ → Option ℕ
read shape run ls n = link_read (first_link (behind n (parts shape run ls)))

read-inside : (n : ℕ) (run : List Elem) (qs : List (Part (Option ℕ))) → n < length run → None ≡ link_read (first_link (behind n (map item run ++ qs)))
read-inside n [] qs l = absurd (omega arith)
read-inside zero (x ∷ run) qs l = refl
read-inside (suc n) (x ∷ run) qs l = read-inside n run qs (omega arith)

read-behind : (run : List Elem) (n : ℕ) (ls : List (Option ℕ)) → n ≡ length run
    → get_or ls 0 None ≡ link_read (first_link (behind n (map item run ++ map link ls)))
read-behind [] zero [] e = refl
read-behind [] zero (l ∷ ls) e = refl
read-behind [] (suc n) ls e = absurd (omega arith)
read-behind (x ∷ run) zero ls e = absurd (omega arith)
read-behind (x ∷ run) (suc n) ls e = read-behind run n ls (omega arith)

-- a node without links
pub read-flat : (n : ℕ) (run : List Elem) (ls : List (Option ℕ)) → length ls ≡ 0 → n ≤ length run → None ≡ read Flat run ls n
read-flat n run (l ∷ ls) h w = absurd (omega arith)
read-flat zero [] [] h w = refl
read-flat (suc n) [] [] h w = absurd (omega arith)
read-flat zero (x ∷ run) [] h w = refl
read-flat (suc n) (x ∷ run) [] h w = read-flat n run [] h (omega arith)

-- a node with one link, behind the run
pub read-post : (p n : ℕ) (run : List Elem) (ls : List (Option ℕ)) → n < length run → None ≡ read (Post p) run ls n
read-post p n run ls l = read-inside n run (map link ls) l

-- behind the run of such a node
pub read-post-end : (p n : ℕ) (run : List Elem) (ls : List (Option ℕ)) → n ≡ length run → get_or ls 0 None ≡ read (Post p) run ls n
read-post-end p n run ls e = read-behind run n ls e

-- a node with a link on each side
pub read-ends-first : (p q : ℕ) (run : List Elem) (ls : List (Option ℕ)) → length ls ≡ 2 → get_or ls 0 None ≡ read (Ends p q) run ls 0
read-ends-first p q run [] h = absurd (omega arith)
read-ends-first p q run (l ∷ ls) h = refl

-- between the elements of such a node
pub read-ends : (p q n : ℕ) (run : List Elem) (ls : List (Option ℕ)) → length ls ≡ 2 → n ≢ 0 → n < length run → None ≡ read (Ends p q) run ls n
read-ends p q n run [] h z l = absurd (omega arith)
read-ends p q zero run (m ∷ ls) h z l = absurd (z refl)
read-ends p q (suc n) run (m ∷ ls) h z l = read-inside (suc n) run (map link ls) l

-- behind the run of such a node
pub read-ends-end : (p q n : ℕ) (run : List Elem) (ls : List (Option ℕ)) → length ls ≡ 2 → n ≢ 0 → n ≡ length run → get_or ls 1 None ≡ read (Ends p q) run ls n
read-ends-end p q n run [] h z e = absurd (omega arith)
read-ends-end p q zero run (m ∷ ls) h z e = absurd (z refl)
read-ends-end p q (suc n) run (m ∷ ls) h z e = read-behind run (suc n) ls e

-- a woven node
pub read-woven : (n : ℕ) (run : List Elem) (ls : List (Option ℕ)) → HasAllLinks Woven run ls → n ≤ length run → get_or ls n None ≡ read Woven run ls n
read-woven n run [] h w = bare n run w
  where
    bare : (n : ℕ) (run : List Elem) → n ≤ length run → get_or [] n None ≡ read Woven run [] n
    bare zero [] w = refl
    bare (suc n) [] w = absurd (omega arith)
    bare zero (x ∷ run) w = refl
    bare (suc n) (x ∷ run) w = bare n run (omega arith)
read-woven n run (l ∷ ls) h w = full n run (l ∷ ls) h w
  where
    full : (n : ℕ) (run : List Elem) (ls : List (Option ℕ)) → length ls ≡ length run + 1 → n ≤ length run → get_or ls n None ≡ read Woven run ls n
    full n run [] h w = absurd (omega arith)
    full zero [] (l ∷ []) h w = refl
    full (suc n) [] (l ∷ []) h w = absurd (omega arith)
    full n [] (l ∷ m ∷ ls) h w = absurd (omega arith)
    full zero (x ∷ run) (l ∷ ls) h w = refl
    full (suc n) (x ∷ run) (l ∷ ls) h w = full n run ls (omega arith) (omega arith)

-- ---- of a node in hand

module _ (shape : Shape) (place : ℕ) (n : NodeState) (h : HasAllLinks shape n.run n.links) where
  as-links : (other : Shape) → shape ≡ other → HasAllLinks other n.run n.links
  as-links other e = subst (λ sh. HasAllLinks sh n.run n.links) e h

  as-read : (other : Shape) (result : Option ℕ) → shape ≡ other → result ≡ read other n.run n.links place → result ≡ read shape n.run n.links place
  as-read other result e r = subst (λ sh. result ≡ read sh n.run n.links place) (sym e) r

  pub reads-flat : shape ≡ Flat → place ≤ length n.run → None ≡ read shape n.run n.links place
  reads-flat e l = as-read Flat None e (read-flat place n.run n.links (as-links Flat e) l)

  pub reads-post : (p : ℕ) → shape ≡ Post p → place < length n.run → None ≡ read shape n.run n.links place
  reads-post p e l = as-read (Post p) None e (read-post p place n.run n.links l)

  pub reads-post-end : (p : ℕ) (result : Option ℕ) → shape ≡ Post p → place ≡ length n.run → result ≡ get_or n.links 0 None
      → result ≡ read shape n.run n.links place
  reads-post-end p result e l r = as-read (Post p) result e (r ∙ read-post-end p place n.run n.links l)

  pub reads-ends-first : (p q : ℕ) (result : Option ℕ) → shape ≡ Ends p q → place ≡ 0 → result ≡ get_or n.links 0 None
      → result ≡ read shape n.run n.links place
  reads-ends-first p q result e z r =
      as-read (Ends p q) result e (subst (λ k. result ≡ read (Ends p q) n.run n.links k) (sym z) (r
      ∙ read-ends-first p q n.run n.links (as-links (Ends p q) e)))

  pub reads-ends : (p q : ℕ) → shape ≡ Ends p q → place ≢ 0 → place < length n.run → None ≡ read shape n.run n.links place
  reads-ends p q e z l = as-read (Ends p q) None e (read-ends p q place n.run n.links (as-links (Ends p q) e) z l)

  pub reads-ends-end : (p q : ℕ) (result : Option ℕ) → shape ≡ Ends p q → place ≢ 0 → place ≡ length n.run → result ≡ get_or n.links 1 None
      → result ≡ read shape n.run n.links place
  reads-ends-end p q result e z l r = as-read (Ends p q) result e (r ∙ read-ends-end p q place n.run n.links (as-links (Ends p q) e) z l)

  pub reads-woven : (result : Option ℕ) → shape ≡ Woven → place ≤ length n.run → result ≡ get_or n.links place None
      → result ≡ read shape n.run n.links place
  reads-woven result e l r = as-read Woven result e (r ∙ read-woven place n.run n.links (as-links Woven e) l)

-- ---- of a node that is there

-- that a node has the links of its shape is a plain fact
pub HasAllLinks-prop : (shape : Shape) (run : List Elem) (ls : List (Option ℕ)) → IsProp (HasAllLinks shape run ls)
HasAllLinks-prop shape run ls = hlevel props

-- a fact of the node that is there
pub at-some : (o : Option NodeState) (n : NodeState) (P : NodeState → Type 0) → o ≡ Some n → IfSome o P → P n
at-some None n P e h = cc
at-some (Some m) n P e h = let same : m ≡ n = cc (e) in subst P same h
