-- Places for links: how many there are, and what hangs there.
use Rattle.std.proofs.Common.{◌≡◌, ◌≤◌, ◌+◌, ℕ, suc, List, [], ◌∷◌, length, refl, ap, sym, arith}
use Rattle.node_arena.specs.declared.elements.Elem.{Elem}
use Rattle.node_arena.specs.declared.kinds.NodeKind.{NodeKind}
use Rattle.node_arena.specs.declared.kinds.Shape.{Shape}
use Rattle.node_arena.specs.declared.kinds.Shape.TheVariants.{Flat, Post, Ends, Woven}
use Rattle.node_arena.specs.Conforming.{Place, whole, least_of, children, woven_places, places, Hang}
use Rattle.node_arena.specs.Kinds.{kind_at, shape_at}
use Rattle.node_arena.specs.Rules.{AreSound}
use Rattle.node_arena.specs.Trees.{Trees, done, absent, node}
use Rattle.node_arena.specs.Walks.{walks}

-- a woven node has one more place than elements
pub length-children : (p : Place) (run : List Elem) → length (children p run) ≡ length run + 1
length-children p [] = refl
length-children p (x ∷ run) = let ih : length (children p run) ≡ length run + 1 = length-children p run in omega arith

-- at each place one tree hangs
pub count-walks : (s : List NodeKind) (ps : List Place) (t : Trees) → Hang s ps t → length (walks s t) ≡ length ps
count-walks s ps done h = ap length (sym h)
count-walks s [] (absent t) h = absurd h
count-walks s (p ∷ ps) (absent t) h = ap suc (count-walks s ps t h.1)
count-walks s [] (node i k run ls t) h = absurd h
count-walks s (p ∷ ps) (node i k run ls t) h = ap suc (count-walks s ps t h.4)

-- what hangs at each of the places has an element
abbrev pub AllSome : List Place → Type 0
AllSome [] = Unit {0}
AllSome (p ∷ ps) = (1 ≤ p.least) × AllSome ps

-- the places are for nodes of one kind
abbrev pub AllOf : ℕ → List Place → Type 0
AllOf k [] = Unit {0}
AllOf k (p ∷ ps) = (p.kind ≡ k) × AllOf k ps

AllSome-children : (p : Place) (run : List Elem) → 1 ≤ p.least → AllSome (children p run)
AllSome-children p [] l = (l, tt)
AllSome-children p (x ∷ run) l = (l, AllSome-children p run l)

-- children of a woven node have an element
pub AllSome-woven : (p : Place) (run : List Elem) (ls : Trees) → 1 ≤ p.least → AllSome (woven_places p run ls)
AllSome-woven p run done l = tt
AllSome-woven p run (absent t) l = AllSome-children p run l
AllSome-woven p run (node i k r ls t) l = AllSome-children p run l

AllOf-children : (p : Place) (run : List Elem) → AllOf p.kind (children p run)
AllOf-children p [] = (refl, tt)
AllOf-children p (x ∷ run) = (refl, AllOf-children p run)

-- children of a woven node are of its own kind
pub AllOf-woven : (p : Place) (run : List Elem) (ls : Trees) → AllOf p.kind (woven_places p run ls)
AllOf-woven p run done = tt
AllOf-woven p run (absent t) = AllOf-children p run
AllOf-woven p run (node i k r ls t) = AllOf-children p run

module _ (s : List NodeKind) (sound : AreSound s) where
  least-some : (k : ℕ) (shape : Shape) → 1 ≤ least_of (kind_at s k) shape
  least-some k Flat = sound.some k
  least-some k (Post p) = sound.some k
  least-some k (Ends p q) = sound.some k
  least-some k Woven = omega arith

  -- a structure that isn't empty has an element in its first node
  pub whole-some : (k : ℕ) → 1 ≤ (whole s k).least
  whole-some k = least-some k (shape_at s k)

  -- what hangs at a node's links has an element
  pub some-places : (shape : Shape) (k : ℕ) (run : List Elem) (ls : Trees) → AllSome (places s shape k run ls)
  some-places Flat k run ls = tt
  some-places (Post p) k run ls = (whole-some p, tt)
  some-places (Ends p q) k run ls = (whole-some p, (whole-some q, tt))
  some-places Woven k run ls = AllSome-woven _ run ls (sound.some k)

-- nothing hangs at no place
pub hang-none : (s : List NodeKind) (t : Trees) → Hang s [] t → t ≡ done
hang-none s done h = refl
hang-none s (absent rest) h = absurd h
hang-none s (node i k run ls rest) h = absurd h
