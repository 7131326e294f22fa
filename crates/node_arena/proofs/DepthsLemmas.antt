-- How deep an insertion went, from one node to the one above it.
use Rattle.std.proofs.Common.{◌≡◌, ◌≤◌, ◌+◌, ℕ, max, Bool, true, false, List, [], ◌∷◌, Option, Some, None, is_some, refl, ap, sym, subst, arith}
use Rattle.node_arena.specs.declared.elements.Elem.{Elem}
use Rattle.node_arena.specs.declared.kinds.NodeKind.{NodeKind}
use Rattle.node_arena.specs.declared.kinds.Shape.{Shape}
use Rattle.node_arena.specs.declared.kinds.Shape.TheVariants.{Flat, Post, Ends, Woven}
use Rattle.std.specs.Option.{IsSomeAnd}
use Rattle.node_arena.specs.Arenas.{ArenaState, node_at}
use Rattle.node_arena.specs.Conforming.{spine}
use Rattle.node_arena.specs.Passing.{Deepens, deeper, wedge_depth, PushesDown, GoesDeep, IsDone}
use Rattle.node_arena.specs.Trees.{Trees, done, absent, node, roots, Avoids}

-- spines that are the same
pub Deepens-same : (deep : Option ℕ) (n m p q : ℕ) → p ≡ n → q ≡ m → Deepens deep n m → Deepens deep p q
Deepens-same deep n m p q e f h = subst (λ v. Deepens deep v q) (sym e) (subst (Deepens deep n) (sym f) h)

-- where one of two trees below a node with two links becomes deeper, that node's does, by one more
pub Deepens-ends : (deep : Option ℕ) (n m other p q : ℕ) → p ≡ 1 + max n other → q ≡ 1 + max m other → Deepens deep n m
    → Deepens (deeper 1 deep) p q
Deepens-ends None n m other p q e f h = omega arith
Deepens-ends (Some d) n m other p q e f h = omega arith

-- a depth that the spine had before
pub Deepens-within : (d n m : ℕ) → d ≤ n → Deepens (Some d) n m → Deepens (Some 0) n m
Deepens-within d n m low h = omega arith

-- below no nodes with two links
pub deeper-first : (deep : Option ℕ) → deeper 0 deep ≡ deep
deeper-first None = refl
deeper-first (Some d) = let e : 0 + d ≡ d = omega arith in ap Some e

-- below some, and below others above them
pub deeper-deeper : (p q : ℕ) (deep : Option ℕ) → deeper p (deeper q deep) ≡ deeper (p + q) deep
deeper-deeper p q None = refl
deeper-deeper p q (Some d) = let e : p + (q + d) ≡ p + q + d = omega arith in ap Some e

-- a new node goes deeper by those that are above
pub wedge_depth-deeper : (shape : Shape) (behind : Bool) (p q n m : ℕ) → p ≤ n → Deepens (deeper p (wedge_depth shape behind q)) n m
    → Deepens (wedge_depth shape behind (p + q)) n m
wedge_depth-deeper Flat behind p q n m low h = omega arith
wedge_depth-deeper (Post r) behind p q n m low h = omega arith
wedge_depth-deeper (Ends r t) false p q n m low h = omega arith
wedge_depth-deeper (Ends r t) true p q n m low h = h
wedge_depth-deeper Woven behind p q n m low h = omega arith

-- an absent link has no spine
spine-absent : (s : List NodeKind) (t : Trees) → roots t ≡ None ∷ [] → spine s t ≡ 0
spine-absent s done e = cc
spine-absent s (absent done) e = refl
spine-absent s (absent (absent rest)) e = cc
spine-absent s (absent (node i k run ls rest)) e = cc
spine-absent s (node i k run ls rest) e = cc

-- a new node with two links goes one deep before nothing; before something, its spine is one more
pub wedge_depth-ends : (s : List NodeKind) (t : Trees) (p q n : ℕ) (link : Option ℕ) → roots t ≡ link ∷ [] → n ≡ 1 + spine s t
    → Deepens (wedge_depth (Ends p q) (is_some link) 0) (spine s t) n
wedge_depth-ends s t p q n None one e = let none : spine s t ≡ 0 = spine-absent s t one in omega arith
wedge_depth-ends s t p q n (Some i) one e = omega arith

-- what is done, with another depth that holds of it
pub IsDone-told : (s : List NodeKind) (a b : ArenaState) (x : Elem) (t : Trees) (deep other : Option ℕ) → (r : IsDone s a b x t deep)
    → Deepens other (spine s t) (spine s r.tree) → (other ≡ None → deep ≡ None) → IsDone s a b x t other
IsDone-told s a b x t deep other r h none =
    record { tree = r.tree; same_root = r.same_root; puts = r.puts; goes = record { deepens = h; pushes = λ e. r.goes.pushes (none e) } }

-- ---- what is pushed down

-- where no depth is told above, none is told below
pub deeper-none : (p : ℕ) (deep : Option ℕ) → deeper p deep ≡ None → deep ≡ None
deeper-none p None e = refl
deeper-none p (Some d) e = cc

-- where a depth is told, nothing was pushed down
pub GoesDeep-told : (s : List NodeKind) (a b : ArenaState) (t u : Trees) (d : ℕ) → Deepens (Some d) (spine s t) (spine s u) → GoesDeep s a b t u (Some d)
GoesDeep-told s a b t u d h = record { deepens = h; pushes = λ e. cc }

-- what is pushed down in trees is pushed down in those that they are part of, where only other nodes change before and after
pub PushesDown-within : (a b c d : ArenaState) (t u v w : Trees) → PushesDown b c t u → ((j : ℕ) → node_at b j ≡ None → node_at a j ≡ None)
    → ((j : ℕ) → node_at b j ≡ None → node_at d j ≡ node_at c j) → ((j : ℕ) → Avoids j v → Avoids j t) → ((j : ℕ) → Avoids j w → Avoids j u)
    → PushesDown a d v w
PushesDown-within a b c d t u v w h first last old new = record {
  wedge = h.wedge;
  pushed = h.pushed;
  is_free = first h.wedge h.is_free;
  is_new = λ away. h.is_new (new h.wedge away);
  was_there = λ away. h.was_there (old h.pushed away);
  links = subst (λ o. IsSomeAnd o (λ n. n.links ≡ None ∷ Some h.pushed ∷ [])) (sym (last h.wedge h.is_free)) h.links;
}

-- so it is, and so deep, where the depth fits
pub GoesDeep-within : (s : List NodeKind) (a b c d : ArenaState) (t u v w : Trees) (deep other : Option ℕ) → GoesDeep s b c t u deep
    → Deepens other (spine s v) (spine s w) → (other ≡ None → deep ≡ None) → ((j : ℕ) → node_at b j ≡ None → node_at a j ≡ None)
    → ((j : ℕ) → node_at b j ≡ None → node_at d j ≡ node_at c j) → ((j : ℕ) → Avoids j v → Avoids j t) → ((j : ℕ) → Avoids j w → Avoids j u)
    → GoesDeep s a d v w other
GoesDeep-within s a b c d t u v w deep other g h none first last old new =
    record { deepens = h; pushes = λ e. PushesDown-within a b c d t u v w (g.pushes (none e)) first last old new }

-- a new node is before the root of what hung at a link, and nothing is before its own run
pub wedge_depth-pushes : (a b : ArenaState) (t u : Trees) (shape : Shape) (link : Option ℕ) (j p : ℕ) → node_at a j ≡ None → (Avoids j u → ⊥)
    → ((i : ℕ) → link ≡ Some i → Avoids i t → ⊥)
    → ((q r i : ℕ) → shape ≡ Ends q r → link ≡ Some i → IsSomeAnd (node_at b j) (λ n. n.links ≡ None ∷ Some i ∷ []))
    → wedge_depth shape (is_some link) p ≡ None → PushesDown a b t u
wedge_depth-pushes a b t u Flat link j p free new old at e = cc
wedge_depth-pushes a b t u (Post q) link j p free new old at e = cc
wedge_depth-pushes a b t u (Ends q r) None j p free new old at e = cc
wedge_depth-pushes a b t u (Ends q r) (Some i) j p free new old at e =
    record { wedge = j; pushed = i; is_free = free; is_new = new; was_there = old i refl; links = at q r i refl refl }
wedge_depth-pushes a b t u Woven link j p free new old at e = cc
