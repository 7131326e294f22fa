-- The walk of a node in two parts: up to its last element, and what hangs behind.
use Rattle.std.proofs.Common.{◌≡◌, ◌⊎◌, inl, inr, ◌≤◌, ◌<◌, ◌+◌, ◌≢◌, ℕ, zero, suc, List, [], ◌∷◌, ◌++◌}
use Rattle.std.proofs.Common.{map, length, get_or, drop, Option, Some, None, true, refl, ap, ◌∙◌, sym, subst, arith, append_assoc, append-nil}
use Rattle.node_arena.specs.declared.elements.Elem.{Elem}
use Rattle.node_arena.specs.declared.kinds.NodeKind.{NodeKind}
use Rattle.node_arena.specs.declared.kinds.Shape.{Shape}
use Rattle.node_arena.specs.declared.kinds.Shape.TheVariants.{Flat, Post, Ends, Woven}
use Rattle.node_arena.specs.Arenas.{NodeState, ArenaState, node_at, coordinate_at}
use Rattle.node_arena.specs.Conforming.{Place, Hang, children, places, woven_places, whole}
use Rattle.node_arena.specs.Kinds.{kind_at, shape_at}
use Rattle.node_arena.specs.Trees.{Trees, done, absent, node, roots, Stands}
use Rattle.node_arena.specs.Walks.{item, link, parts, between, weave, joined, walk, walks}
use Rattle.node_arena.proofs.Uniqueness.{trees_unique}
use Rattle.iter_gen.specs.Searching.{RisesWithin, Searches, link_behind}
use Rattle.iter_gen.specs.Folding.{first_walk, woven_front, front, HangsAt, HangsBetween, HasLinks, IsWalkAt}
use Rattle.iter_gen.proofs.RisingLemmas.{after, RisesWithin-lower}
use Rattle.iter_gen.proofs.RisingLemmas.{RisesWithin-right, RisesWithin-before, RisesWithin-behind, RisesWithin-elem}
use Rattle.iter_gen.proofs.PartsLemmas.{behind_first, joined-items, joined-bare, joined-post, joined-ends, joined-last, Around-parts}
use Rattle.iter_gen.proofs.DescentLemmas.{least-whole, root-of, elem-of}

module _ (s : List NodeKind) (a : ArenaState) where
  -- what hangs at the first link of a row
  pub IsWalkAt-first : (p : Place) (ps : List Place) (row : Trees) (low end top : ℕ) → 1 ≤ p.least → Hang s (p ∷ ps) row → Stands a row
      → RisesWithin low top (first_walk s row) → (top ≤ end) ⊎ (end ≡ 4294967296) → IsWalkAt s a (get_or (roots row) 0 None) low end (first_walk s row)
  IsWalkAt-first p ps done low end top least h st r b = refl
  IsWalkAt-first p ps (absent rest) low end top least h st r b = refl
  IsWalkAt-first p ps (node i k run ls rest) low end top least h st r b =
      let w : List Elem = joined (parts (shape_at s k) run (walks s ls)) in
      record {
        tree = node i k run ls done;
        searches = record {
          has = record { root = refl; stands = (st.0, st.1, tt) };
          place = p;
          least = least;
          hangs = (h.0, h.1, h.2, h.3, refl);
          top = top;
          rises = subst (RisesWithin low top) (sym (append-nil w)) r;
          bound = b;
        };
        same = sym (append-nil w);
      }

  -- ---- what hangs behind a run

  -- the walk is the front, and the walk of what hangs behind the run
  pub record Divides (shape : Shape) (run : List Elem) (ls : Trees) (m end : ℕ) : Type 0 where
    pub rest : List Elem
    pub is : joined (parts shape run (walks s ls)) ≡ front s shape run ls ++ rest
    pub behind : IsWalkAt s a (link_behind shape (length run) (roots ls)) m end rest

  Stands-behind : (row : Trees) → Stands a row → Stands a (behind_first row)
  Stands-behind done h = h
  Stands-behind (absent rest) h = h
  Stands-behind (node i k run ls rest) h = h.2

  roots-second : (p q : Place) (row : Trees) → Hang s (p ∷ q ∷ []) row → get_or (roots row) 1 None ≡ get_or (roots (behind_first row)) 0 None
  roots-second p q done h = cc
  roots-second p q (absent rest) h = refl
  roots-second p q (node i k run ls rest) h = refl

  Hang-behind : (p q : Place) (row : Trees) → Hang s (p ∷ q ∷ []) row → Hang s (q ∷ []) (behind_first row)
  Hang-behind p q done h = cc
  Hang-behind p q (absent rest) h = h.1
  Hang-behind p q (node i k run ls rest) h = h.4

  front-bare : (run : List Elem) → woven_front run [] ≡ run
  front-bare [] = refl
  front-bare (x ∷ xs) = ap (λ w. x ∷ w) (front-bare xs)

  no-rest : (run : List Elem) (ls : Trees) → Hang s [] ls → joined (map item run ++ map link (walks s ls)) ≡ run ++ []
  no-rest run done h = joined-items run []
  no-rest run (absent rest) h = absurd h
  no-rest run (node i k v ls rest) h = absurd h

  record WovenRest (run : List Elem) (ls : Trees) (m end : ℕ) : Type 0 where
    rest : List Elem
    is : joined (weave run (walks s ls)) ≡ woven_front run (walks s ls) ++ rest
    behind : IsWalkAt s a (get_or (roots ls) (length run) None) m end rest

  woven-rest : (p : Place) (run : List Elem) (ls : Trees) (low end top : ℕ) → 1 ≤ p.least → Hang s (children p run) ls → Stands a ls
      → RisesWithin low top (joined (weave run (walks s ls))) → (top ≤ end) ⊎ (end ≡ 4294967296) → WovenRest run ls (after low run) end
  woven-rest p [] ls low end top least h st r b =
      let e = joined-last s p ls h in
      record {
        rest = first_walk s ls;
        is = e;
        behind = IsWalkAt-first p [] ls low end top least h st (subst (RisesWithin low top) e r) b;
      }
  woven-rest p (x ∷ xs) done low end top least h st r b = cc
  woven-rest p (x ∷ xs) (absent row) low end top least h st r b =
      let q = woven-rest p xs row (suc x.at) end top least h.1 st r.1 b in
      record { rest = q.rest; is = ap (λ w. x ∷ w) q.is; behind = q.behind }
  woven-rest p (x ∷ xs) (node i k run ls row) low end top least h st r b =
      let w : List Elem = joined (parts (shape_at s k) run (walks s ls)) in
      let js : List Elem = joined (weave xs (walks s row)) in
      let q = woven-rest p xs row (suc x.at) end top least h.4 st.2 (RisesWithin-behind low top w x js r) b in
      record {
        rest = q.rest;
        is = ap (λ v. w ++ x ∷ v) q.is ∙ sym (append_assoc w (x ∷ woven_front xs (walks s row)) q.rest);
        behind = q.behind;
      }

  module _ (some : (k : ℕ) → 1 ≤ (kind_at s k).lo) where
    woven-divides : (p : Place) (run : List Elem) (ls : Trees) (end top m : ℕ) → 1 ≤ p.least → Hang s (woven_places p run ls) ls → Stands a ls
        → RisesWithin 0 top (joined (weave run (walks s ls))) → (top ≤ end) ⊎ (end ≡ 4294967296) → after 0 run ≡ m → Divides Woven run ls m end
    woven-divides p run done end top m least h st r b is =
        record { rest = []; is = joined-bare run ∙ sym (front-bare run) ∙ sym (append-nil (woven_front run [])); behind = refl }
    woven-divides p run (absent row) end top m least h st r b is =
        let q = woven-rest p run (absent row) 0 end top least h st r b in
        record { rest = q.rest; is = q.is; behind = subst (λ n. IsWalkAt s a (get_or (roots (absent row)) (length run) None) n end q.rest) is q.behind }
    woven-divides p run (node i k v ls row) end top m least h st r b is =
        let q = woven-rest p run (node i k v ls row) 0 end top least h st r b in
        record { rest = q.rest; is = q.is; behind = subst (λ n. IsWalkAt s a (get_or (roots (node i k v ls row)) (length run) None) n end q.rest) is q.behind }

    -- by the shape
    pub Divides-shape : (shape : Shape) (k : ℕ) (run : List Elem) (ls : Trees) (end top m : ℕ) → Hang s (places s shape k run ls) ls → Stands a ls
        → RisesWithin 0 top (joined (parts shape run (walks s ls))) → (top ≤ end) ⊎ (end ≡ 4294967296) → ((l : ℕ) → after l run ≡ m)
        → Divides shape run ls m end
    Divides-shape Flat k run ls end top m h st r b is = record { rest = []; is = no-rest run ls h; behind = refl }
    Divides-shape (Post p) k run ls end top m h st r b is =
        let e = joined-post s (whole s p) run ls h in
        let r2 = RisesWithin-right 0 top run (first_walk s ls) (subst (RisesWithin 0 top) e r) in
        record {
          rest = first_walk s ls;
          is = e;
          behind = IsWalkAt-first (whole s p) [] ls m end top (least-whole s a 0 some p) h st (subst (λ n. RisesWithin n top (first_walk s ls)) (is 0) r2) b;
        }
    Divides-shape (Ends p q) k run ls end top m h st r b is =
        let e = joined-ends s (whole s p) (whole s q) run ls h in
        let second : Trees = behind_first ls in
        let w : List Elem = first_walk s second in
        let r2 = RisesWithin-right 0 top (first_walk s ls) (run ++ w) (subst (RisesWithin 0 top) e r) in
        let r3 = RisesWithin-right (after 0 (first_walk s ls)) top run w r2 in
        let b2 = IsWalkAt-first (whole s q) [] second m end top (least-whole s a 0 some q) (Hang-behind (whole s p) (whole s q) ls h) (Stands-behind ls st)
        (subst (λ n. RisesWithin n top w) (is (after 0 (first_walk s ls))) r3) b in
        record {
          rest = w;
          is = e ∙ sym (append_assoc (first_walk s ls) run w);
          behind = subst (λ o. IsWalkAt s a o m end w) (sym (roots-second (whole s p) (whole s q) ls h)) b2;
        }
    Divides-shape Woven k run ls end top m h st r b is =
        woven-divides (record { kind = k; least = (kind_at s k).lo; must = true }) run ls end top m (some k) h st r b (is 0)

    -- ---- at a node

    after-any : (l : ℕ) (run : List Elem) → 1 ≤ length run → after l run ≡ after 0 run
    after-any l [] h = absurd (omega arith)
    after-any l (x ∷ xs) h = refl

    -- the node in hand, with its links, and its walk in two parts
    pub record Walked (t : Trees) (n : NodeState) (end : ℕ) : Type 0 where
      pub links : Trees
      pub hangs : HangsAt s a end n links
      pub rest : List Elem
      pub is : walk s t ≡ front s (shape_at s n.kind) n.run links ++ rest
      pub behind : IsWalkAt s a (link_behind (shape_at s n.kind) (length n.run) n.links) (after 0 n.run) end rest

    pub walked : (i low end : ℕ) (t : Trees) (n : NodeState) → Searches s a i low end t → node_at a i ≡ Some n → Walked t n end
    walked i low end t n h there =
        let r = root-of s a 0 some i low end t n h there in
        let w : List Elem = joined (parts (shape_at s n.kind) n.run (walks s r.links)) in
        let low_rises : RisesWithin 0 r.top w = RisesWithin-lower low 0 r.top w (omega arith) r.rises in
        let same : n.links ≡ roots r.links = ap (λ (v : NodeState). v.links) r.is_node in
        let d = Divides-shape (shape_at s n.kind) n.kind n.run r.links end r.top (after 0 n.run) r.hangs r.stands low_rises r.bound
        (λ l. after-any l n.run r.some_run) in
        record {
          links = r.links;
          hangs = record { links = same; stands = r.stands; hangs = r.hangs; some_run = r.some_run; top = r.top; rises = low_rises; bound = r.bound };
          rest = d.rest;
          is = ap (walk s) r.tree ∙ append-nil w ∙ d.is;
          behind = subst (λ v. IsWalkAt s a (link_behind (shape_at s n.kind) (length n.run) v) (after 0 n.run) end d.rest) (sym same) d.behind;
        }

    -- ---- the front of a node

    -- the first link of a node with two, and its run
    pub hangs-ends : (end : ℕ) (n : NodeState) (ls : Trees) (p q first : ℕ) → HangsAt s a end n ls → shape_at s n.kind ≡ Ends p q
        → coordinate_at n.run 0 ≡ Some first → IsWalkAt s a (get_or n.links 0 None) 0 first (first_walk s ls)
    hangs-ends end n ls p q first h is e = ends-link n.run e (subst (λ v. Hang s (places s v n.kind n.run ls) ls) is h.hangs)
        (subst (λ v. RisesWithin 0 h.top (joined (parts v n.run (walks s ls)))) is h.rises)
      where
        some-number : (i j : ℕ) → Some i ≡ Some j → i ≡ j
        some-number i j e = cc

        ends-link : (run : List Elem) → coordinate_at run 0 ≡ Some first → Hang s (whole s p ∷ whole s q ∷ []) ls
            → RisesWithin 0 h.top (joined (between run (walks s ls))) → IsWalkAt s a (get_or n.links 0 None) 0 first (first_walk s ls)
        ends-link [] e g r = cc
        ends-link (x ∷ xs) e g r =
            let same : x.at ≡ first = some-number x.at first e in
            let f = joined-ends s (whole s p) (whole s q) (x ∷ xs) ls g in
            let before : RisesWithin 0 x.at (first_walk s ls) =
            RisesWithin-before 0 h.top (first_walk s ls) x (xs ++ first_walk s (behind_first ls)) (subst (RisesWithin 0 h.top) f r) in
            subst (λ v. IsWalkAt s a (get_or v 0 None) 0 first (first_walk s ls)) (sym h.links)
            (IsWalkAt-first (whole s p) (whole s q ∷ []) ls 0 first first (least-whole s a 0 some p) g h.stands
            (subst (λ v. RisesWithin 0 v (first_walk s ls)) same before) (inl (omega arith)))

    no-links : (ls : Trees) → length (roots ls) ≡ 0 → ls ≡ done
    no-links done e = refl
    no-links (absent rest) e = absurd (omega (arith, e))
    no-links (node i k run ls rest) e = absurd (omega (arith, e))

    -- the front of a woven node without links
    pub front-leaf : (end : ℕ) (n : NodeState) (ls : Trees) → n.links ≡ roots ls → shape_at s n.kind ≡ Woven → length n.links ≡ 0
        → front s (shape_at s n.kind) n.run ls ≡ n.run
    front-leaf end n ls links is none =
        let e : ls ≡ done = no-links ls (ap length (sym links) ∙ none) in
        ap (λ v. front s v n.run ls) is ∙ ap (λ v. woven_front n.run (walks s v)) e ∙ front-bare n.run

    -- the links of a woven node with children
    pub hangs-between : (end : ℕ) (n : NodeState) (ls : Trees) → HangsAt s a end n ls → shape_at s n.kind ≡ Woven → length n.links ≢ 0
        → HangsBetween s a end n.run n.links ls
    hangs-between end n ls h is many = between-of ls h.links (subst (λ v. Hang s (places s v n.kind n.run ls) ls) is h.hangs) h.stands
        (subst (λ v. RisesWithin 0 h.top (joined (parts v n.run (walks s ls)))) is h.rises)
      where
        p : Place
        p = record { kind = n.kind; least = (kind_at s n.kind).lo; must = true }

        between-of : (ks : Trees) → n.links ≡ roots ks → Hang s (woven_places p n.run ks) ks → Stands a ks
            → RisesWithin 0 h.top (joined (weave n.run (walks s ks))) → HangsBetween s a end n.run n.links ks
        between-of done e g st r = absurd (many (ap length e))
        between-of (absent rest) e g st r =
            record { same = e; stands = st; place = p; least = some n.kind; hangs = g; top = h.top; rises = r; bound = h.bound }
        between-of (node i k run ls rest) e g st r =
            record { same = e; stands = st; place = p; least = some n.kind; hangs = g; top = h.top; rises = r; bound = h.bound }

  -- ---- one after another

  -- the first of the elements, what hangs before it, and the others
  pub record Between (end : ℕ) (j : ℕ) (run : List Elem) (links : List (Option ℕ)) (ks : Trees) (x : Elem) : Type 0 where
    pub before : List Elem
    pub row : Trees
    pub hangs : IsWalkAt s a (get_or links j None) 0 x.at before
    pub next : HangsBetween s a end (drop (j + 1) run) (drop (j + 1) links) row
    pub is : woven_front (drop j run) (walks s ks) ≡ before ++ x ∷ woven_front (drop (j + 1) run) (walks s row)
    pub within : (x.at < end) ⊎ (end ≡ 4294967296)

  drop-link : (links : List (Option ℕ)) (j : ℕ) (o : Option ℕ) (os : List (Option ℕ)) → drop j links ≡ o ∷ os
      → (get_or links j None ≡ o) × (drop (j + 1) links ≡ os)
  drop-link [] zero o os e = cc
  drop-link [] (suc j) o os e = cc
  drop-link (l ∷ ls) zero o os e = (head e, tail e)
    where
      head : l ∷ ls ≡ o ∷ os → l ≡ o
      head e = cc

      tail : l ∷ ls ≡ o ∷ os → ls ≡ os
      tail e = cc
  drop-link (l ∷ ls) (suc j) o os e =
      let n : suc j + 1 ≡ suc (j + 1) = omega arith in
      let r = drop-link ls j o os e in
      (r.0, ap (λ v. drop v (l ∷ ls)) n ∙ r.1)

  up-to-end : (n top end : ℕ) → n < top → (top ≤ end) ⊎ (end ≡ 4294967296) → (n < end) ⊎ (end ≡ 4294967296)
  up-to-end n top end l (inl le) = inl (omega arith)
  up-to-end n top end l (inr e) = inr e

  pub between_at : (end : ℕ) (j : ℕ) (run : List Elem) (links : List (Option ℕ)) (ks : Trees) (x : Elem) → drop j run ≡ x ∷ drop (j + 1) run
      → HangsBetween s a end (drop j run) (drop j links) ks → Between end j run links ks x
  between_at end j run links ks x e h = step ks (subst (λ v. HangsBetween s a end v (drop j links) ks) e h)
    where
      xs : List Elem
      xs = drop (j + 1) run

      step : (ls : Trees) → HangsBetween s a end (x ∷ xs) (drop j links) ls → Between end j run links ls x
      step done g = let q = g.hangs in cc
      step (absent rest) g =
          let l = drop-link links j None (roots rest) g.same in
          record {
            before = [];
            row = rest;
            hangs = subst (λ o. IsWalkAt s a o 0 x.at []) (sym l.0) refl;
            next = record {
              same = l.1;
              stands = g.stands;
              place = g.place;
              least = g.least;
              hangs = g.hangs.1;
              top = g.top;
              rises = RisesWithin-lower (suc x.at) 0 g.top (joined (weave xs (walks s rest))) (omega arith) g.rises.1;
              bound = g.bound;
            };
            is = ap (λ v. woven_front v (walks s (absent rest))) e;
            within = up-to-end x.at g.top end (RisesWithin-elem 0 g.top [] x (joined (weave xs (walks s rest))) g.rises).1 g.bound;
          }
      step (node i k v ls rest) g =
          let w : List Elem = joined (parts (shape_at s k) v (walks s ls)) in
          let js : List Elem = joined (weave xs (walks s rest)) in
          let l = drop-link links j (Some i) (roots rest) g.same in
          let before : RisesWithin 0 x.at w = RisesWithin-before 0 g.top w x js g.rises in
          record {
            before = w;
            row = rest;
            hangs = subst (λ o. IsWalkAt s a o 0 x.at w) (sym l.0)
                (IsWalkAt-first g.place (children g.place xs) (node i k v ls rest) 0 x.at x.at g.least g.hangs g.stands before (inl (omega arith)));
            next = record {
              same = l.1;
              stands = g.stands.2;
              place = g.place;
              least = g.least;
              hangs = g.hangs.4;
              top = g.top;
              rises = RisesWithin-lower (suc x.at) 0 g.top js (omega arith) (RisesWithin-behind 0 g.top w x js g.rises);
              bound = g.bound;
            };
            is = ap (λ u. woven_front u (walks s (node i k v ls rest))) e;
            within = up-to-end x.at g.top end (RisesWithin-elem 0 g.top w x js g.rises).1 g.bound;
          }

  -- links determine the trees that hang at them
  pub links-unique : (links : List (Option ℕ)) (ls ks : Trees) → HasLinks a links ls → HasLinks a links ks → ls ≡ ks
  links-unique links ls ks h g = trees_unique a ls ks h.stands g.stands (sym h.same ∙ g.same)

  -- an element of a node's run is below end, where end is a bound
  pub run-within : (end : ℕ) (n : NodeState) (ls : Trees) (j v : ℕ) → HangsAt s a end n ls → coordinate_at n.run j ≡ Some v
      → (v < end) ⊎ (end ≡ 4294967296)
  run-within end n ls j v h e =
      let x = elem-of n.run j v e in
      let m = Around-parts x.0 (shape_at s n.kind) n.run (walks s ls) j x.1 in
      let w = RisesWithin-elem 0 h.top m.before x.0 m.behind (subst (RisesWithin 0 h.top) m.is h.rises) in
      subst (λ u. (u < end) ⊎ (end ≡ 4294967296)) x.2 (up-to-end x.0.at h.top end w.1 h.bound)
