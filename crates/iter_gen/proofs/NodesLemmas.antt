-- The elements of a node, and its children.
use Rattle.std.proofs.Common.{◌≡◌, ◌≤◌, ◌<◌, ◌+◌, ℕ, zero, suc, List, [], ◌∷◌, ◌++◌}
use Rattle.std.proofs.Common.{map, length, get_or, Option, Some, None, refl, ap, ◌∙◌, sym, subst, arith, append_assoc, append-nil}
use Rattle.std.specs.Option.{option_map}
use Rattle.node_arena.specs.declared.elements.Elem.{Elem}
use Rattle.node_arena.specs.declared.elements.Held.TheVariants.{Number}
use Rattle.node_arena.specs.declared.kinds.NodeKind.{NodeKind}
use Rattle.node_arena.specs.declared.kinds.Shape.{Shape}
use Rattle.node_arena.specs.declared.kinds.Shape.TheVariants.{Flat, Post, Ends, Woven}
use Rattle.node_arena.specs.Arenas.{ArenaState}
use Rattle.node_arena.specs.Conforming.{RisesFrom, IsRising}
use Rattle.node_arena.specs.Kinds.{shape_at}
use Rattle.node_arena.specs.Trees.{Trees, done, absent, node, roots}
use Rattle.node_arena.specs.Walks.{Part, item, link, parts, between, weave, joined, walk, walks}
use Rattle.iter_gen.specs.Acts.{HasAllLinks}
use Rattle.iter_gen.specs.Behind.{behind, first_link, past_link, items}
use Rattle.iter_gen.specs.Frames.{from, part_map, split, depth_by, depth}
use Rattle.iter_gen.specs.Frames.{IsSound, Frame, tree_at, parts_in, elements, link_read, first_coordinate}
use Rattle.iter_gen.proofs.BehindLemmas.{behind-map, first_link-map, map-parts, items-parts, past_link-item, past_link-end}
use Rattle.iter_gen.proofs.FromLemmas.{RisesFrom-later, RisesFrom-earlier, IsRising-later, from-past}
use Rattle.iter_gen.proofs.ReadingLemmas.{read}

-- an element for what is never read
pub blank : Elem
blank = record { at = 0; held = Number 0 }

-- ---- the trees at the links

-- the number of the first node
abbrev pub root : Trees → Option ℕ
root done = None
root (absent rest) = None
root (node i k run ls rest) = Some i

-- the links as a node stores them
pub map-root-split : (t : Trees) → map root (split t) ≡ roots t
map-root-split done = refl
map-root-split (absent rest) = ap (λ r. None ∷ r) (map-root-split rest)
map-root-split (node i k run ls rest) = ap (λ r. Some i ∷ r) (map-root-split rest)

-- the walks of the links
pub map-walk-split : (s : List NodeKind) (t : Trees) → map (walk s) (split t) ≡ walks s t
map-walk-split s done = refl
map-walk-split s (absent rest) = ap (λ r. [] ∷ r) (map-walk-split s rest)
map-walk-split s (node i k run ls rest) =
    ap (λ w. w ∷ map (walk s) (split rest)) (append-nil (joined (parts (shape_at s k) run (walks s ls))))
    ∙ ap (λ r. joined (parts (shape_at s k) run (walks s ls)) ∷ r) (map-walk-split s rest)

-- the elements of the parts, by the walks of the links
pub elements-parts : (s : List NodeKind) (f : Frame) → elements s (parts_in s f) ≡ joined (parts (shape_at s f.kind) f.run (walks s f.links))
elements-parts s f = ap joined (map-parts (walk s) (shape_at s f.kind) f.run (split f.links) ∙ ap (parts (shape_at s f.kind) f.run) (map-walk-split s f.links))

-- the parts of a node give its walk
pub elements-walk : (s : List NodeKind) (i : ℕ) (f : Frame) → elements s (parts_in s f) ≡ walk s (tree_at i f)
elements-walk s i f = elements-parts s f ∙ sym (append-nil (joined (parts (shape_at s f.kind) f.run (walks s f.links))))

-- the parts as they are read
pub heads : (shape : Shape) (run : List Elem) (ls : Trees) → map (part_map root) (parts shape run (split ls)) ≡ parts shape run (roots ls)
heads shape run ls = map-parts root shape run (split ls) ∙ ap (parts shape run) (map-root-split ls)

-- the elements of a node alone are its run
pub items-in : (s : List NodeKind) (f : Frame) → items (parts_in s f) ≡ f.run
items-in s f = items-parts (shape_at s f.kind) f.run (split f.links)

-- ---- the elements before and behind an element

module _ (s : List NodeKind) where
  -- the walk of the tree at a link, if there is one
  abbrev pub link_walk : Option Trees → List Elem
  link_walk None = []
  link_walk (Some t) = walk s t

  pub elements-first : (ps : List (Part Trees)) → elements s ps ≡ link_walk (first_link ps) ++ elements s (past_link ps)
  elements-first [] = refl
  elements-first (item e ∷ ps) = refl
  elements-first (link t ∷ ps) = refl

  -- some elements, and others behind them
  pub record Prefix (xs ys : List Elem) : Type 0 where
    pub before : List Elem
    pub is : xs ≡ before ++ ys

  pub prefix-behind : (n : ℕ) (ps : List (Part Trees)) → Prefix (elements s ps) (elements s (past_link (behind n ps)))
  prefix-behind zero [] = record { before = []; is = refl }
  prefix-behind zero (item e ∷ ps) = record { before = []; is = refl }
  prefix-behind zero (link t ∷ ps) = record { before = walk s t; is = refl }
  prefix-behind (suc n) [] = record { before = []; is = refl }
  prefix-behind (suc n) (item e ∷ ps) =
      let p : Prefix (elements s ps) (elements s (past_link (behind n ps))) = prefix-behind n ps in
      record { before = e ∷ p.before; is = ap (λ r. e ∷ r) p.is }
  prefix-behind (suc n) (link t ∷ ps) =
      let p : Prefix (elements s ps) (elements s (past_link (behind (suc n) ps))) = prefix-behind (suc n) ps in
      record {
        before = walk s t ++ p.before;
        is =
            ap (λ r. walk s t ++ r) p.is ∙ sym (append_assoc (walk s t) p.before (elements s (past_link (behind (suc n) ps))));
      }

  -- what rises from a number, does so in the tree at each link
  rises-at : (m n : ℕ) (ps : List (Part Trees)) (t : Trees) → RisesFrom m (elements s ps) → first_link (behind n ps) ≡ Some t → RisesFrom m (walk s t)
  rises-at m zero [] t r e = cc
  rises-at m zero (item x ∷ ps) t r e = cc
  rises-at m zero (link u ∷ ps) t r e = let same : u ≡ t = cc (e) in subst (λ v. RisesFrom m (walk s v)) same (RisesFrom-earlier m (walk s u) (elements s ps) r)
  rises-at m (suc n) [] t r e = cc
  rises-at m (suc n) (item x ∷ ps) t r e = rises-at m n ps t (RisesFrom-later m (x ∷ []) (elements s ps) r) e
  rises-at m (suc n) (link u ∷ ps) t r e = rises-at m (suc n) ps t (RisesFrom-later m (walk s u) (elements s ps) r) e

  -- what hangs at a link behind the first element is above it
  rises-behind : (n : ℕ) (ps : List (Part Trees)) (t : Trees) → IsRising (elements s ps) → first_link (behind (suc n) ps) ≡ Some t
      → RisesFrom (first_coordinate (items ps)) (walk s t)
  rises-behind n [] t r e = cc
  rises-behind n (item x ∷ ps) t r e = rises-at x.at n ps t r e
  rises-behind n (link u ∷ ps) t r e = rises-behind n ps t (IsRising-later (walk s u) (elements s ps) r) e

  first-above : (m : ℕ) (ps : List (Part Trees)) → 1 ≤ length (items ps) → RisesFrom m (elements s ps) → m < first_coordinate (items ps)
  first-above m [] l r = absurd (omega arith)
  first-above m (item x ∷ ps) l r = r.0
  first-above m (link u ∷ ps) l r = first-above m ps l (RisesFrom-later m (walk s u) (elements s ps) r)

  -- the first element of a child behind the run is above the first of the node
  pub rises-last : (f g : Frame) (i n : ℕ) (t : Trees) → IsRising (elements s (parts_in s f)) → 1 ≤ n → first_link (behind n (parts_in s f)) ≡ Some t
      → t ≡ tree_at i g → 1 ≤ length g.run → first_coordinate f.run < first_coordinate g.run
  rises-last f g i zero t r l e same some = absurd (omega arith)
  rises-last f g i (suc n) t r l e same some =
      let above : RisesFrom (first_coordinate (items (parts_in s f))) (walk s t) = rises-behind n (parts_in s f) t r e in
      let here : RisesFrom (first_coordinate f.run) (walk s t) = subst (λ xs. RisesFrom (first_coordinate xs) (walk s t)) (items-in s f) above in
      let there : RisesFrom (first_coordinate f.run) (elements s (parts_in s g)) =
      subst (RisesFrom (first_coordinate f.run)) (ap (walk s) same ∙ sym (elements-walk s i g)) here in
      let some_items : 1 ≤ length (items (parts_in s g)) = subst (λ xs. 1 ≤ length xs) (sym (items-in s g)) some in
      subst (λ xs. first_coordinate f.run < first_coordinate xs) (items-in s g) (first-above (first_coordinate f.run) (parts_in s g) some_items there)

-- where all that hangs there rises, the elements alone do
RisesFrom-items : (s : List NodeKind) (m : ℕ) (ps : List (Part Trees)) → RisesFrom m (elements s ps) → RisesFrom m (items ps)
RisesFrom-items s m [] r = tt
RisesFrom-items s m (item x ∷ ps) r = (r.0, RisesFrom-items s x.at ps r.1)
RisesFrom-items s m (link t ∷ ps) r = RisesFrom-items s m ps (RisesFrom-later m (walk s t) (elements s ps) r)

IsRising-items : (s : List NodeKind) (ps : List (Part Trees)) → IsRising (elements s ps) → IsRising (items ps)
IsRising-items s [] r = tt
IsRising-items s (item x ∷ ps) r = RisesFrom-items s x.at ps r
IsRising-items s (link t ∷ ps) r = IsRising-items s ps (IsRising-later (walk s t) (elements s ps) r)

-- ---- children

module _ (P : Trees → Type 0) where
  abbrev pub All : List Trees → Type 0
  All [] = Unit {0}
  All (t ∷ ts) = P t × All ts

  abbrev pub AtLinks : List (Part Trees) → Type 0
  AtLinks [] = Unit {0}
  AtLinks (item e ∷ ps) = AtLinks ps
  AtLinks (link t ∷ ps) = P t × AtLinks ps

  AtLinks-links : (ts : List Trees) → All ts → AtLinks (map link ts)
  AtLinks-links [] h = tt
  AtLinks-links (t ∷ ts) h = (h.0, AtLinks-links ts h.1)

  AtLinks-run : (xs : List Elem) (ps : List (Part Trees)) → AtLinks ps → AtLinks (map item xs ++ ps)
  AtLinks-run [] ps h = h
  AtLinks-run (x ∷ xs) ps h = AtLinks-run xs ps h

  AtLinks-alone : (xs : List Elem) → AtLinks (map item xs)
  AtLinks-alone [] = tt
  AtLinks-alone (x ∷ xs) = AtLinks-alone xs

  AtLinks-between : (xs : List Elem) (ts : List Trees) → All ts → AtLinks (between xs ts)
  AtLinks-between xs [] h = AtLinks-alone xs
  AtLinks-between xs (t ∷ ts) h = (h.0, AtLinks-run xs (map link ts) (AtLinks-links ts h.1))

  AtLinks-weave : (xs : List Elem) (ts : List Trees) → All ts → AtLinks (weave xs ts)
  AtLinks-weave [] ts h = AtLinks-links ts h
  AtLinks-weave (x ∷ xs) [] h = AtLinks-weave xs [] h
  AtLinks-weave (x ∷ xs) (t ∷ ts) h = (h.0, AtLinks-weave xs ts h.1)

  pub AtLinks-parts : (shape : Shape) (xs : List Elem) (ts : List Trees) → All ts → AtLinks (parts shape xs ts)
  AtLinks-parts Flat xs ts h = AtLinks-run xs (map link ts) (AtLinks-links ts h)
  AtLinks-parts (Post p) xs ts h = AtLinks-run xs (map link ts) (AtLinks-links ts h)
  AtLinks-parts (Ends p q) xs ts h = AtLinks-between xs ts h
  AtLinks-parts Woven xs ts h = AtLinks-weave xs ts h

  pub AtLinks-first : (n : ℕ) (ps : List (Part Trees)) (t : Trees) → AtLinks ps → first_link (behind n ps) ≡ Some t → P t
  AtLinks-first zero [] t h e = cc
  AtLinks-first zero (item x ∷ ps) t h e = cc
  AtLinks-first zero (link u ∷ ps) t h e = let same : u ≡ t = cc (e) in subst P same h.0
  AtLinks-first (suc n) [] t h e = cc
  AtLinks-first (suc n) (item x ∷ ps) t h e = AtLinks-first n ps t h e
  AtLinks-first (suc n) (link u ∷ ps) t h e = AtLinks-first (suc n) ps t h.1 e

-- one link, which can be walked
abbrev pub IsLink : List NodeKind → ArenaState → Trees → Type 0
IsLink s a done = ⊥
IsLink s a (absent u) = u ≡ done
IsLink s a (node i k run ls u) = (u ≡ done) × IsSound s a (node i k run ls done)

-- one link, which can be walked with so many places
abbrev pub IsChild : List NodeKind → ArenaState → ℕ → Trees → Type 0
IsChild s a m t = IsLink s a t × (depth s t ≤ m)

module _ (s : List NodeKind) (a : ArenaState) where
  pub children-split : (m : ℕ) (t : Trees) → depth s t ≤ m → IsSound s a t → All (IsChild s a m) (split t)
  children-split m done l h = tt
  children-split m (absent rest) l h = ((refl, omega arith), children-split m rest l h)
  children-split m (node i k run ls rest) l h =
      (((refl, (h.0, h.1, h.2, tt)), omega arith), children-split m rest (omega arith) h.3)

  -- the tree at a link of a sound node is a child
  pub child-at : (i n : ℕ) (f : Frame) (t : Trees) → IsSound s a (tree_at i f) → first_link (behind n (parts_in s f)) ≡ Some t
      → IsChild s a (depth s f.links) t
  child-at i n f t h e =
      AtLinks-first (IsChild s a (depth s f.links)) n (parts_in s f) t
      (AtLinks-parts (IsChild s a (depth s f.links)) (shape_at s f.kind) f.run (split f.links) (children-split (depth s f.links) f.links (omega arith) h.2)) e

first-inside : (n : ℕ) (run : List Elem) (qs : List (Part Trees)) → n < length run → first_link (behind n (map item run ++ qs)) ≡ None
first-inside n [] qs l = absurd (omega arith)
first-inside zero (x ∷ run) qs l = refl
first-inside (suc n) (x ∷ run) qs l = first-inside n run qs (omega arith)

first-none : (n : ℕ) (run : List Elem) (qs : List (Part Trees)) → qs ≡ [] → first_link (behind n (map item run ++ qs)) ≡ None
first-none zero [] qs e = rw e refl
first-none (suc n) [] qs e = rw e refl
first-none zero (x ∷ run) qs e = refl
first-none (suc n) (x ∷ run) qs e = first-none n run qs e

no-links : (ls : Trees) → length (roots ls) ≡ 0 → map link (split ls) ≡ []
no-links done h = refl
no-links (absent rest) h = absurd (omega arith)
no-links (node i k run ls rest) h = absurd (omega arith)

-- a node wants a place
pub depth-some : (shape : Shape) (d : ℕ) → 1 ≤ depth_by shape d
depth-some Flat d = omega arith
depth-some (Post p) d = omega arith
depth-some (Ends p q) d = omega arith
depth-some Woven d = omega arith

-- a child before an element wants a place less than the node
pub depth-inside : (s : List NodeKind) (shape : Shape) (n d : ℕ) (run : List Elem) (ls : Trees) (t : Trees) → n < length run
    → first_link (behind n (parts shape run (split ls))) ≡ Some t → depth s t ≤ d → 1 + depth s t ≤ depth_by shape d
depth-inside s Flat n d run ls t l e h = let f : first_link (behind n (map item run ++ map link (split ls))) ≡ None =
    first-inside n run (map link (split ls)) l in cc (f, e)
depth-inside s (Post p) n d run ls t l e h = let f : first_link (behind n (map item run ++ map link (split ls))) ≡ None =
    first-inside n run (map link (split ls)) l in cc (f, e)
depth-inside s (Ends p q) n d run ls t l e h = omega arith
depth-inside s Woven n d run ls t l e h = omega arith

-- each child wants no more places than the node
pub depth-last : (s : List NodeKind) (shape : Shape) (n d : ℕ) (run : List Elem) (ls : Trees) (t : Trees) → HasAllLinks shape run (roots ls)
    → first_link (behind n (parts shape run (split ls))) ≡ Some t → depth s t ≤ d → depth s t ≤ depth_by shape d
depth-last s Flat n d run ls t l e h = let f : first_link (behind n (map item run ++ map link (split ls))) ≡ None =
    first-none n run (map link (split ls)) (no-links ls l) in cc (f, e)
depth-last s (Post p) n d run ls t l e h = omega arith
depth-last s (Ends p q) n d run ls t l e h = omega arith
depth-last s Woven n d run ls t l e h = omega arith

-- ---- what is read

-- the number of the node at a link, if there is a link
abbrev pub number_of : Option Trees → Option ℕ
number_of None = None
number_of (Some t) = root t

link_read-map : (o : Option Trees) → link_read (option_map root o) ≡ number_of o
link_read-map None = refl
link_read-map (Some t) = refl

-- the link that is read is the one that the walk has
pub read-in : (s : List NodeKind) (f : Frame) (n : ℕ) → read (shape_at s f.kind) f.run (roots f.links) n ≡ number_of (first_link (behind n (parts_in s f)))
read-in s f n =
    ap (λ ps. link_read (first_link (behind n ps))) (sym (heads (shape_at s f.kind) f.run f.links))
    ∙ ap (λ ps. link_read (first_link ps)) (behind-map root n (parts_in s f))
    ∙ ap link_read (first_link-map root (behind n (parts_in s f)))
    ∙ link_read-map (first_link (behind n (parts_in s f)))

-- where an element is read, it comes next behind the link
pub item-in : (s : List NodeKind) (a : ArenaState) (i n : ℕ) (f : Frame) (d : Elem) → IsSound s a (tree_at i f) → n < length f.run
    → past_link (behind n (parts_in s f)) ≡ item (get_or f.run n d) ∷ behind (suc n) (parts_in s f)
item-in s a i n f d h l =
    let e : items (parts_in s f) ≡ f.run = items-in s f in
    let at : past_link (behind n (parts_in s f)) ≡ item (get_or (items (parts_in s f)) n d) ∷ behind (suc n) (parts_in s f) =
    past_link-item n (parts_in s f) d h.1.calm (subst (λ xs. n < length xs) (sym e) l) in
    subst (λ xs. past_link (behind n (parts_in s f)) ≡ item (get_or xs n d) ∷ behind (suc n) (parts_in s f)) e at

-- behind all elements, and a link, comes nothing
pub end-in : (s : List NodeKind) (a : ArenaState) (i n : ℕ) (f : Frame) → IsSound s a (tree_at i f) → length f.run ≤ n
    → past_link (behind n (parts_in s f)) ≡ []
end-in s a i n f h l = past_link-end n (parts_in s f) h.1.calm (subst (λ xs. length xs ≤ n) (sym (items-in s f)) l)

-- the walk of a sound node rises
pub rising-in : (s : List NodeKind) (a : ArenaState) (i : ℕ) (f : Frame) → IsSound s a (tree_at i f) → IsRising (elements s (parts_in s f))
rising-in s a i f h = subst IsRising (sym (elements-parts s f)) h.1.rising

-- the run of a sound node rises
pub run-rising : (s : List NodeKind) (a : ArenaState) (i : ℕ) (f : Frame) → IsSound s a (tree_at i f) → IsRising f.run
run-rising s a i f h = subst IsRising (items-in s f) (IsRising-items s (parts_in s f) (rising-in s a i f h))

-- from a coordinate above an element on, what comes behind that one is left
pub from-element : (s : List NodeKind) (a : ArenaState) (i : ℕ) (f : Frame) (n at : ℕ) (d : Elem) (zs : List Elem) → IsSound s a (tree_at i f)
    → n < length f.run
    → (get_or f.run n d).at < at → from at (elements s (parts_in s f) ++ zs) ≡ from at (elements s (behind (suc n) (parts_in s f)) ++ zs)
from-element s a i f n at d zs h l below =
    let x : Elem = get_or f.run n d in
    let es : List Elem = elements s (behind (suc n) (parts_in s f)) in
    let p : Prefix s (elements s (parts_in s f)) (elements s (past_link (behind n (parts_in s f)))) = prefix-behind s n (parts_in s f) in
    let is : elements s (parts_in s f) ≡ p.before ++ x ∷ es = p.is ∙ ap (λ ps. p.before ++ elements s ps) (item-in s a i n f d h l) in
    let rising : IsRising (p.before ++ x ∷ es) = subst IsRising is (rising-in s a i f h) in
    ap (λ w. from at (w ++ zs)) is ∙ ap (from at) (append_assoc p.before (x ∷ es) zs) ∙ from-past at p.before x es (es ++ zs) rising below
