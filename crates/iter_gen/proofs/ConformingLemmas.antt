-- What conforms and stands can be walked, with at most MOST_PLACES places.
use Rattle.std.proofs.Common.{◌≡◌, ◌≤◌, ◌<◌, ◌+◌, ℕ, suc, max, List}
use Rattle.std.proofs.Common.{[], ◌∷◌, ◌++◌, map, length, refl, ap, ◌∙◌, sym, subst, arith}
use Rattle.node_arena.specs.declared.elements.Elem.{Elem}
use Rattle.node_arena.specs.declared.kinds.NodeKind.{NodeKind}
use Rattle.node_arena.specs.declared.kinds.Shape.{Shape}
use Rattle.node_arena.specs.declared.kinds.Shape.TheVariants.{Flat, Post, Ends, Woven}
use Rattle.node_arena.specs.Arenas.{ArenaState}
use Rattle.node_arena.specs.Conforming.{Place, Hang, places, children, woven_places, least_of, spine, spine_by, RisesFrom, IsRising}
use Rattle.node_arena.specs.Kinds.{kind_at, shape_at}
use Rattle.node_arena.specs.Rules.{AreSound}
use Rattle.node_arena.specs.Trees.{Trees, done, absent, node, roots, Stands}
use Rattle.node_arena.specs.Walks.{Part, item, link, parts, between, weave, joined, walk, walks}
use Rattle.node_arena.proofs.HeightsLemmas.{levels, levels_by}
use Rattle.iter_gen.specs.Acts.{HasAllLinks}
use Rattle.iter_gen.specs.Frames.{split, depth, depth_by, IsSound}
use Rattle.iter_gen.proofs.BehindLemmas.{calm-parts}
use Rattle.iter_gen.proofs.FromLemmas.{RisesFrom-low, RisesFrom-IsRising, IsRising-earlier, IsRising-later}

-- ---- how many links

module _ (s : List NodeKind) where
  count-roots : (ps : List Place) (t : Trees) → Hang s ps t → length (roots t) ≡ length ps
  count-roots ps done h = ap length (sym h)
  count-roots [] (absent rest) h = absurd h
  count-roots (p ∷ ps) (absent rest) h = ap suc (count-roots ps rest h.1)
  count-roots [] (node i k run ls rest) h = absurd h
  count-roots (p ∷ ps) (node i k run ls rest) h = ap suc (count-roots ps rest h.4)

length-roots : (t : Trees) → length (roots t) ≡ length (split t)
length-roots done = refl
length-roots (absent rest) = ap suc (length-roots rest)
length-roots (node i k run ls rest) = ap suc (length-roots rest)

length-children : (p : Place) (run : List Elem) → length (children p run) ≡ length run + 1
length-children p [] = refl
length-children p (x ∷ run) = let ih : length (children p run) ≡ length run + 1 = length-children p run in omega arith

links-woven : (p : Place) (run : List Elem) (ls : Trees) → length (roots ls) ≡ length (woven_places p run ls) → HasAllLinks Woven run (roots ls)
links-woven p run done h = refl
links-woven p run (absent rest) h = h ∙ length-children p run
links-woven p run (node i k r ls rest) h = h ∙ length-children p run

has-links : (s : List NodeKind) (shape : Shape) (k : ℕ) (run : List Elem) (ls : Trees) → length (roots ls) ≡ length (places s shape k run ls)
    → HasAllLinks shape run (roots ls)
has-links s Flat k run ls h = h
has-links s (Post p) k run ls h = h
has-links s (Ends p q) k run ls h = h
has-links s Woven k run ls h = links-woven _ run ls h

split-woven : (run : List Elem) (ls : Trees) → HasAllLinks Woven run (roots ls) → HasAllLinks Woven run (split ls)
split-woven run done h = refl
split-woven run (absent rest) h = sym (length-roots (absent rest)) ∙ h
split-woven run (node i k r ls rest) h = sym (length-roots (node i k r ls rest)) ∙ h

split-links : (shape : Shape) (run : List Elem) (ls : Trees) → HasAllLinks shape run (roots ls) → HasAllLinks shape run (split ls)
split-links Flat run ls h = sym (length-roots ls) ∙ h
split-links (Post p) run ls h = sym (length-roots ls) ∙ h
split-links (Ends p q) run ls h = sym (length-roots ls) ∙ h
split-links Woven run ls h = split-woven run ls h

-- ---- what hangs in a rising walk rises

abbrev concat : List (List Elem) → List Elem
concat [] = []
concat (w ∷ ws) = w ++ concat ws

abbrev linked : List (Part (List Elem)) → List (List Elem)
linked [] = []
linked (item e ∷ ps) = linked ps
linked (link w ∷ ps) = w ∷ linked ps

concat-walks : (s : List NodeKind) (t : Trees) → concat (walks s t) ≡ walk s t
concat-walks s done = refl
concat-walks s (absent rest) = concat-walks s rest
concat-walks s (node i k run ls rest) = ap (λ w. joined (parts (shape_at s k) run (walks s ls)) ++ w) (concat-walks s rest)

linked-links : (ws : List (List Elem)) → linked (map link ws) ≡ ws
linked-links [] = refl
linked-links (w ∷ ws) = ap (λ r. w ∷ r) (linked-links ws)

linked-run : (run : List Elem) (ws : List (List Elem)) → linked (map item run ++ map link ws) ≡ ws
linked-run [] ws = linked-links ws
linked-run (x ∷ run) ws = linked-run run ws

linked-alone : (run : List Elem) → linked (map item run) ≡ []
linked-alone [] = refl
linked-alone (x ∷ run) = linked-alone run

linked-between : (run : List Elem) (ws : List (List Elem)) → linked (between run ws) ≡ ws
linked-between run [] = linked-alone run
linked-between run (w ∷ ws) = ap (λ r. w ∷ r) (linked-run run ws)

linked-weave : (run : List Elem) (ws : List (List Elem)) → linked (weave run ws) ≡ ws
linked-weave [] ws = linked-links ws
linked-weave (x ∷ run) [] = linked-weave run []
linked-weave (x ∷ run) (w ∷ ws) = ap (λ r. w ∷ r) (linked-weave run ws)

linked-parts : (shape : Shape) (run : List Elem) (ws : List (List Elem)) → linked (parts shape run ws) ≡ ws
linked-parts Flat run ws = linked-run run ws
linked-parts (Post p) run ws = linked-run run ws
linked-parts (Ends p q) run ws = linked-between run ws
linked-parts Woven run ws = linked-weave run ws

rises-tail : (m : ℕ) (xs ys zs : List Elem) → ((n : ℕ) → RisesFrom n ys → RisesFrom n zs) → RisesFrom m (xs ++ ys) → RisesFrom m (xs ++ zs)
rises-tail m [] ys zs f r = f m r
rises-tail m (x ∷ xs) ys zs f r = (r.0, rises-tail x.at xs ys zs f r.1)

RisesFrom-linked : (ps : List (Part (List Elem))) (m : ℕ) → RisesFrom m (joined ps) → RisesFrom m (concat (linked ps))
RisesFrom-linked [] m r = tt
RisesFrom-linked (item x ∷ ps) m r = let f : m < x.at = r.0 in RisesFrom-low m x.at (concat (linked ps)) (omega arith) (RisesFrom-linked ps x.at r.1)
RisesFrom-linked (link w ∷ ps) m r = rises-tail m w (joined ps) (concat (linked ps)) (λ n. RisesFrom-linked ps n) r

IsRising-linked : (ps : List (Part (List Elem))) → IsRising (joined ps) → IsRising (concat (linked ps))
IsRising-linked [] r = tt
IsRising-linked (item x ∷ ps) r = RisesFrom-IsRising x.at (concat (linked ps)) (RisesFrom-linked ps x.at r)
IsRising-linked (link [] ∷ ps) r = IsRising-linked ps r
IsRising-linked (link (x ∷ w) ∷ ps) r = rises-tail x.at w (joined ps) (concat (linked ps)) (λ n. RisesFrom-linked ps n) r

-- where the walk of a node rises, that of its links does
IsRising-links : (s : List NodeKind) (shape : Shape) (run : List Elem) (ls : Trees) → IsRising (joined (parts shape run (walks s ls))) → IsRising (walk s ls)
IsRising-links s shape run ls r =
    subst IsRising (ap concat (linked-parts shape run (walks s ls)) ∙ concat-walks s ls) (IsRising-linked (parts shape run (walks s ls)) r)

-- ---- what hangs can be walked

module _ (s : List NodeKind) (sound : AreSound s) where
  abbrev pub AtLeastOne : List Place → Type 0
  AtLeastOne [] = Unit {0}
  AtLeastOne (p ∷ ps) = (1 ≤ p.least) × AtLeastOne ps

  pub least-some : (k : ℕ) (shape : Shape) → 1 ≤ least_of (kind_at s k) shape
  least-some k Flat = sound.some k
  least-some k (Post p) = sound.some k
  least-some k (Ends p q) = sound.some k
  least-some k Woven = omega arith

  some-children : (p : Place) (run : List Elem) → 1 ≤ p.least → AtLeastOne (children p run)
  some-children p [] h = (h, tt)
  some-children p (x ∷ run) h = (h, some-children p run h)

  some-woven : (p : Place) (run : List Elem) (ls : Trees) → 1 ≤ p.least → AtLeastOne (woven_places p run ls)
  some-woven p run done h = tt
  some-woven p run (absent rest) h = some-children p run h
  some-woven p run (node i k r ls rest) h = some-children p run h

  some-places : (shape : Shape) (k : ℕ) (run : List Elem) (ls : Trees) → AtLeastOne (places s shape k run ls)
  some-places Flat k run ls = tt
  some-places (Post p) k run ls = (least-some p (shape_at s p), tt)
  some-places (Ends p q) k run ls = (least-some p (shape_at s p), (least-some q (shape_at s q), tt))
  some-places Woven k run ls = some-woven _ run ls (sound.some k)

  -- trees that stand, hang at their places and rise can be walked
  pub sound-hang : (a : ArenaState) (ps : List Place) (t : Trees) → AtLeastOne ps → Hang s ps t → Stands a t → IsRising (walk s t) → IsSound s a t
  sound-hang a ps done some h st r = tt
  sound-hang a [] (absent rest) some h st r = absurd h
  sound-hang a (p ∷ ps) (absent rest) some h st r = sound-hang a ps rest some.1 h.1 st r
  sound-hang a [] (node i k run ls rest) some h st r = absurd h
  sound-hang a (p ∷ ps) (node i k run ls rest) some h st r =
      let links : HasAllLinks (shape_at s k) run (roots ls) =
      has-links s (shape_at s k) k run ls (count-roots s (places s (shape_at s k) k run ls) ls h.3) in
      let least : 1 ≤ length run = omega (arith, some.0, h.1) in
      let here : IsRising (joined (parts (shape_at s k) run (walks s ls))) =
      IsRising-earlier (joined (parts (shape_at s k) run (walks s ls))) (walk s rest) r in (
        st.0,
        record {
          some = least;
          few = omega (arith, h.2, sound.few k);
          links = links;
          calm = calm-parts (shape_at s k) run (split ls) least (split-links (shape_at s k) run ls links);
          rising = here;
        },
        sound-hang a (places s (shape_at s k) k run ls) ls (some-places (shape_at s k) k run ls) h.3 st.1 (IsRising-links s (shape_at s k) run ls here),
        sound-hang a ps rest some.1 h.4 st.2 (IsRising-later (joined (parts (shape_at s k) run (walks s ls))) (walk s rest) r),
      )

-- ---- how deep

abbrev AllKind : ℕ → List Place → Type 0
AllKind k [] = Unit {0}
AllKind k (p ∷ ps) = (p.kind ≡ k) × AllKind k ps

AllKind-children : (p : Place) (run : List Elem) → AllKind p.kind (children p run)
AllKind-children p [] = (refl, tt)
AllKind-children p (x ∷ run) = (refl, AllKind-children p run)

AllKind-woven : (p : Place) (run : List Elem) (ls : Trees) → AllKind p.kind (woven_places p run ls)
AllKind-woven p run done = tt
AllKind-woven p run (absent rest) = AllKind-children p run
AllKind-woven p run (node i k r ls rest) = AllKind-children p run

module _ (s : List NodeKind) where
  -- woven nodes alone
  depth-woven : (k : ℕ) → shape_at s k ≡ Woven → (ps : List Place) (t : Trees) → AllKind k ps → Hang s ps t → depth s t ≤ levels s t
  depth-woven k e ps done a h = omega arith
  depth-woven k e [] (absent rest) a h = absurd h
  depth-woven k e (p ∷ ps) (absent rest) a h = depth-woven k e ps rest a.1 h.1
  depth-woven k e [] (node i m run ls rest) a h = absurd h
  depth-woven k e (p ∷ ps) (node i m run ls rest) a h =
      let kind : m ≡ k = h.0 ∙ a.0 in
      let shape : shape_at s m ≡ Woven = ap (shape_at s) kind ∙ e in
      let hang : Hang s (places s Woven m run ls) ls = subst (λ sh. Hang s (places s sh m run ls) ls) shape h.3 in
      let below : depth s ls ≤ levels s ls = depth-woven m shape (places s Woven m run ls) ls (AllKind-woven _ run ls) hang in
      let beside : depth s rest ≤ levels s rest = depth-woven k e ps rest a.1 h.4 in
      let here : depth_by Woven (depth s ls) ≤ levels_by Woven (levels s ls) = omega arith in
      let all : depth_by (shape_at s m) (depth s ls) ≤ levels_by (shape_at s m) (levels s ls) =
      subst (λ sh. depth_by sh (depth s ls) ≤ levels_by sh (levels s ls)) (sym shape) here in
      omega arith

  depth-node : (shape : Shape) (k : ℕ) (run : List Elem) (ls : Trees) → shape_at s k ≡ shape → Hang s (places s shape k run ls) ls
      → depth s ls ≤ spine s ls + max 1 (levels s ls) → depth_by shape (depth s ls) ≤ spine_by shape (spine s ls) + max 1 (levels_by shape (levels s ls))
  depth-node Flat k run ls e h ih = omega arith
  depth-node (Post p) k run ls e h ih = omega arith
  depth-node (Ends p q) k run ls e h ih = omega arith
  depth-node Woven k run ls e h ih =
      let below : depth s ls ≤ levels s ls = depth-woven k e (places s Woven k run ls) ls (AllKind-woven _ run ls) h in omega arith

  -- a walk needs at most the spine and the larger of 1 and the levels of woven nodes
  pub depth-bound : (ps : List Place) (t : Trees) → Hang s ps t → depth s t ≤ spine s t + max 1 (levels s t)
  depth-bound ps done h = omega arith
  depth-bound [] (absent rest) h = absurd h
  depth-bound (p ∷ ps) (absent rest) h = depth-bound ps rest h.1
  depth-bound [] (node i k run ls rest) h = absurd h
  depth-bound (p ∷ ps) (node i k run ls rest) h =
      let below : depth s ls ≤ spine s ls + max 1 (levels s ls) = depth-bound (places s (shape_at s k) k run ls) ls h.3 in
      let beside : depth s rest ≤ spine s rest + max 1 (levels s rest) = depth-bound ps rest h.4 in
      let here : depth_by (shape_at s k) (depth s ls) ≤ spine_by (shape_at s k) (spine s ls) + max 1 (levels_by (shape_at s k) (levels s ls)) =
      depth-node (shape_at s k) k run ls refl h.3 below in
      omega arith
