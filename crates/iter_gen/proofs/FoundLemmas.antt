-- A search from the top of a structure.
use Rattle.std.proofs.Common.{◌≡◌, inl, inr, ◌≤◌, ◌≢◌, ℕ, suc, List, [], ◌∷◌, slice_get, Option}
use Rattle.std.proofs.Common.{Some, None, IfSome, IsSomeAnd, refl, ap, ◌∙◌, sym, subst, arith, Bool, true, false, eqb, ltb, cond}
use Rattle.node_arena.specs.declared.elements.Elem.{Elem}
use Rattle.node_arena.specs.declared.elements.Structure.{Structure}
use Rattle.node_arena.specs.declared.elements.Top.TheVariants as tops
use Rattle.node_arena.specs.declared.kinds.NodeKind.{NodeKind}
use Rattle.node_arena.specs.Arenas.{RunState, ArenaState, run_at, place_in}
use Rattle.node_arena.specs.Conforming.{IsRising, whole}
use Rattle.node_arena.specs.Kinds.{kind_at}
use Rattle.node_arena.specs.Structures.{Tree, empty, rooted, flat, links_of, walk_of, IsStanding, IsConforming}
use Rattle.node_arena.specs.Trees.{Trees, done, absent, node, roots}
use Rattle.node_arena.specs.Walks.{walk}
use Rattle.node_arena.proofs.Uniqueness.{trees_unique}
use Rattle.iter_gen.specs.LookingUp.{elem_with, elem_of_run, HasNode, IsFound}
use Rattle.iter_gen.specs.Searching.{HasRoot, Searches, ComesTo, IsFoundIn, IsPlaceIn, IsFoundOf}
use Rattle.iter_gen.specs.declared.looking_up.Spot.{Spot}
use Rattle.iter_gen.specs.declared.looking_up.Spot.TheVariants as spots
use Rattle.iter_gen.proofs.RisingLemmas.{RisesWithin-rising, elem_with-missing}
use Rattle.iter_gen.proofs.DescentLemmas.{least-whole, place-above}

-- ---- nodes

-- one tree hangs under a number
pub root-unique : (a : ArenaState) (i : ℕ) (t u : Trees) → HasRoot a i t → HasRoot a i u → t ≡ u
root-unique a i t u h g = trees_unique a t u h.stands g.stands (h.root ∙ sym g.root)

-- a search begins at the whole
pub ComesTo-whole : (s : List NodeKind) (a : ArenaState) (at i : ℕ) (t : Trees) → HasRoot a i t → (u : Trees) → HasRoot a i u → ComesTo s at u t
ComesTo-whole s a at i t h u g =
    let e = root-unique a i u t g h in
    record { same = ap (λ v. elem_with at (walk s v)) e; inside = λ j n. subst (HasNode j) (sym e) n }

number-same : (i j : ℕ) (xs ys : List (Option ℕ)) → Some i ∷ xs ≡ Some j ∷ ys → i ≡ j
number-same i j xs ys e = cc

no-head : (i : ℕ) (xs ys : List (Option ℕ)) → None ∷ xs ≡ Some i ∷ ys → ⊥
no-head i xs ys e = cc

-- the root is a node of the tree
pub HasNode-root : (a : ArenaState) (i : ℕ) (t : Trees) → HasRoot a i t → HasNode i t
HasNode-root a i done h = let e = h.root in cc
HasNode-root a i (absent rest) h = absurd (no-head i (roots rest) [] h.root)
HasNode-root a i (node j k run ls rest) h = inl (number-same j i (roots rest) [] h.root)

-- ---- flat runs

missing-last : (at : ℕ) (x : Elem) (xs : List Elem) (b : Bool) → ltb x.at at ≡ b → slice_get (x ∷ xs) (cond b (suc (place_in at xs)) 0) ≡ None
    → (slice_get xs (place_in at xs) ≡ None → elem_with at xs ≡ None) → elem_with at (x ∷ xs) ≡ None
missing-last at x xs true t g f =
    let u : eqb x.at at ≡ false = grind (arith, t) in
    rw u (f g)
missing-last at x xs false t g f = cc

-- no element has the coordinate where there is none at its place
pub elem_with-last : (at : ℕ) (xs : List Elem) → slice_get xs (place_in at xs) ≡ None → elem_with at xs ≡ None
elem_with-last at [] g = refl
elem_with-last at (x ∷ xs) g = missing-last at x xs (ltb x.at at) refl g (elem_with-last at xs)

elem_with-place : (at : ℕ) (xs : List Elem) (e : Elem) (j : ℕ) → slice_get xs j ≡ Some e → j ≡ place_in at xs → e.at ≡ at → elem_with at xs ≡ Some e
elem_with-place at xs e j g is same = first at xs e (subst (λ n. slice_get xs n ≡ Some e) is g) same
  where
    step : (at : ℕ) (x : Elem) (xs : List Elem) (e : Elem) (b : Bool) → ltb x.at at ≡ b → slice_get (x ∷ xs) (cond b (suc (place_in at xs)) 0) ≡ Some e
        → e.at ≡ at
        → (slice_get xs (place_in at xs) ≡ Some e → elem_with at xs ≡ Some e) → elem_with at (x ∷ xs) ≡ Some e
    step at x xs e true t g same f =
        let u : eqb x.at at ≡ false = grind (arith, t) in
        rw u (f g)
    step at x xs e false t g same f =
        let h : Some x ≡ Some e = g in
        let n : x.at ≡ e.at = ap (λ (v : Elem). v.at) (elem-same x e h) in
        let u : eqb x.at at ≡ true = grind (arith, n, same) in
        rw u h
      where
        elem-same : (x y : Elem) → Some x ≡ Some y → x ≡ y
        elem-same x y e = cc

    first : (at : ℕ) (xs : List Elem) (e : Elem) → slice_get xs (place_in at xs) ≡ Some e → e.at ≡ at → elem_with at xs ≡ Some e
    first at [] e g same = cc
    first at (x ∷ xs) e g same = step at x xs e (ltb x.at at) refl g same (λ k. first at xs e k same)

module _ (at i place : ℕ) where
  -- an element at its place is the one with its coordinate
  pub run-found : (o : Option RunState) (e : Elem) → IfSome o (λ r. place ≡ place_in at r.elems) → IfSome o (λ r. Some e ≡ slice_get r.elems place) → e.at ≡ at
      → IfSome o (λ r. IsPlaceIn at r.elems i i place)
  run-found None e h g same = tt
  run-found (Some r) e h g same = record { same_run = refl; elem = e; there = sym g; found = elem_with-place at r.elems e place (sym g) h same }

  -- an element above
  pub run-above : (o : Option RunState) (e : Elem) → IsSomeAnd o (λ r. IsRising r.elems) → IfSome o (λ r. place ≡ place_in at r.elems)
      → IfSome o (λ r. Some e ≡ slice_get r.elems place) → e.at ≢ at → IfSome o (λ r. elem_with at r.elems ≡ None)
  run-above None e r h g differs = tt
  run-above (Some r) e rising h g differs =
      let w = RisesWithin-rising r.elems rising in
      let there : slice_get r.elems (place_in at r.elems) ≡ Some e = subst (λ n. slice_get r.elems n ≡ Some e) h (sym g) in
      let le : at ≤ e.at = place-above at r.elems e there in
      elem_with-missing at 0 w.0 r.elems e w.1 there (omega arith)

  -- no element
  pub run-last : (o : Option RunState) → IfSome o (λ r. place ≡ place_in at r.elems) → IfSome o (λ r. None ≡ slice_get r.elems place)
      → IfSome o (λ r. elem_with at r.elems ≡ None)
  run-last None h g = tt
  run-last (Some r) h g = elem_with-last at r.elems (subst (λ n. slice_get r.elems n ≡ None) h (sym g))

-- ---- structures

node-same : (i j : ℕ) → tops.Node i ≡ tops.Node j → i ≡ j
node-same i j e = cc

run-same : (i j : ℕ) → tops.Run i ≡ tops.Run j → i ≡ j
run-same i j e = cc

module _ (s : List NodeKind) (a : ArenaState) (some : (k : ℕ) → 1 ≤ (kind_at s k).lo) where
  -- the tree of a root
  pub root-standing : (st : Structure) (t : Tree) (i : ℕ) → IsStanding s a st t → st.top ≡ tops.Node i → HasRoot a i (links_of t)
  root-standing st empty i h e = let f : tops.Empty ≡ tops.Node i = sym h.top ∙ e in cc
  root-standing st (rooted j k run ls) i h e =
      let n : j ≡ i = node-same j i (sym h.top ∙ e) in
      record { root = ap (λ m. Some m ∷ []) n; stands = h.nodes }
  root-standing st (flat j run) i h e = let f : tops.Run j ≡ tops.Node i = sym h.top ∙ e in cc

  pub walk-root : (st : Structure) (t : Tree) (i : ℕ) → IsStanding s a st t → st.top ≡ tops.Node i → walk_of s t ≡ walk s (links_of t)
  walk-root st empty i h e = refl
  walk-root st (rooted j k run ls) i h e = refl
  walk-root st (flat j run) i h e = let f : tops.Run j ≡ tops.Node i = sym h.top ∙ e in cc

  -- a search can begin at the root of a structure that conforms
  pub Searches-root : (st : Structure) (k : ℕ) (t : Tree) (i : ℕ) → IsStanding s a st t → IsConforming s k st t → st.top ≡ tops.Node i
      → Searches s a i 0 4294967296 (links_of t)
  Searches-root st k empty i h g e = let f : tops.Empty ≡ tops.Node i = sym h.top ∙ e in cc
  Searches-root st k (rooted j m run ls) i h g e =
      let r = RisesWithin-rising (walk s (node j m run ls done)) g.tree.1.rising in
      record {
        has = root-standing st (rooted j m run ls) i h e;
        place = whole s k;
        least = least-whole s a 0 some k;
        hangs = g.tree.1.hangs;
        top = r.0;
        rises = r.1;
        bound = inr refl;
      }
  Searches-root st k (flat j run) i h g e = let f : tops.Run j ≡ tops.Node i = sym h.top ∙ e in cc

  -- what was found below the root was found in the structure
  pub IsFound-root : (at : ℕ) (st : Structure) (t : Tree) (i : ℕ) (result : Option Spot) → IsStanding s a st t → st.top ≡ tops.Node i
      → IsFoundIn s a at (links_of t) result → IsFound s a at t result
  IsFound-root at st t i None h e f = ap (elem_with at) (walk-root st t i h e) ∙ f
  IsFound-root at st t i (Some (spots.Node j place)) h e f =
      record { inside = f.inside; elem = f.here.elem; there = f.here.there; found = ap (elem_with at) (walk-root st t i h e) ∙ f.here.found }
  IsFound-root at st t i (Some (spots.Run j place)) h e f = absurd f

  -- an empty structure has none
  pub IsFound-empty : (at : ℕ) (st : Structure) (t : Tree) → IsStanding s a st t → st.top ≡ tops.Empty → elem_with at (walk_of s t) ≡ None
  IsFound-empty at st empty h e = refl
  IsFound-empty at st (rooted j k run ls) h e = let f : tops.Node j ≡ tops.Empty = sym h.top ∙ e in cc
  IsFound-empty at st (flat j run) h e = let f : tops.Run j ≡ tops.Empty = sym h.top ∙ e in cc

  rises-run : (o : Option RunState) (xs : List Elem) → IsSomeAnd o (λ r. r.elems ≡ xs) → IsRising xs → IsSomeAnd o (λ r. IsRising r.elems)
  rises-run None xs h g = absurd h
  rises-run (Some r) xs h g = subst IsRising (sym h) g

  -- the run of a structure that conforms rises
  pub rising-run : (st : Structure) (k : ℕ) (t : Tree) (i : ℕ) → IsStanding s a st t → IsConforming s k st t → st.top ≡ tops.Run i
      → IsSomeAnd (run_at a i) (λ r. IsRising r.elems)
  rising-run st k empty i h g e = let f : tops.Empty ≡ tops.Run i = sym h.top ∙ e in cc
  rising-run st k (rooted j m run ls) i h g e = let f : tops.Node j ≡ tops.Run i = sym h.top ∙ e in cc
  rising-run st k (flat j run) i h g e =
      let n : j ≡ i = run-same j i (sym h.top ∙ e) in
      subst (λ m. IsSomeAnd (run_at a m) (λ r. IsRising r.elems)) n (rises-run (run_at a j) run h.run g.tree.2)

  found-of : (at : ℕ) (o : Option RunState) (j : ℕ) (xs : List Elem) (result : Option Spot) → run_at a j ≡ o → IsSomeAnd o (λ r. r.elems ≡ xs)
      → IfSome o (λ r. IsFoundOf at j r.elems result) → IsFound s a at (flat j xs) result
  found-of at None j xs result is h f = absurd h
  found-of at (Some r) j xs None is h f = subst (λ v. elem_with at v ≡ None) h f
  found-of at (Some r) j xs (Some (spots.Node m place)) is h f = absurd f
  found-of at (Some r) j xs (Some (spots.Run m place)) is h f = record {
    inside = sym f.same_run;
    elem = f.elem;
    there = subst (λ n. elem_of_run (run_at a n) place ≡ Some f.elem) (sym f.same_run) (subst (λ o. elem_of_run o place ≡ Some f.elem) (sym is) f.there);
    found = subst (λ v. elem_with at v ≡ Some f.elem) h f.found;
  }

  -- what was found in the run was found in the structure
  pub IsFound-run : (at : ℕ) (st : Structure) (t : Tree) (i : ℕ) (result : Option Spot) → IsStanding s a st t → st.top ≡ tops.Run i
      → IfSome (run_at a i) (λ r. IsFoundOf at i r.elems result) → IsFound s a at t result
  IsFound-run at st empty i result h e f = let q : tops.Empty ≡ tops.Run i = sym h.top ∙ e in cc
  IsFound-run at st (rooted j k run ls) i result h e f = let q : tops.Node j ≡ tops.Run i = sym h.top ∙ e in cc
  IsFound-run at st (flat j run) i result h e f =
      let n : j ≡ i = run-same j i (sym h.top ∙ e) in
      found-of at (run_at a j) j run result refl h.run (subst (λ m. IfSome (run_at a m) (λ r. IsFoundOf at m r.elems result)) (sym n) f)

  -- ---- folds

  -- what is said of the walk of a structure holds of the run under its number
  pub run-of : (st : Structure) (t : Tree) (i : ℕ) (P : List Elem → Type 0) → IsStanding s a st t → st.top ≡ tops.Run i → P (walk_of s t)
      → IsSomeAnd (run_at a i) (λ r. P r.elems)
  run-of st empty i P h e p = let f : tops.Empty ≡ tops.Run i = sym h.top ∙ e in cc
  run-of st (rooted j m run ls) i P h e p = let f : tops.Node j ≡ tops.Run i = sym h.top ∙ e in cc
  run-of st (flat j run) i P h e p =
      let n : j ≡ i = run-same j i (sym h.top ∙ e) in
      subst (λ m. IsSomeAnd (run_at a m) (λ r. P r.elems)) n (with-run (run_at a j) h.run)
    where
      with-run : (o : Option RunState) → IsSomeAnd o (λ r. r.elems ≡ run) → IsSomeAnd o (λ r. P r.elems)
      with-run None g = absurd g
      with-run (Some r) g = subst P (sym g) p

  -- what is said of the run under its number holds of the walk of a structure
  pub of-run : (st : Structure) (t : Tree) (i : ℕ) (P : List Elem → Type 0) → IsStanding s a st t → st.top ≡ tops.Run i
      → IfSome (run_at a i) (λ r. P r.elems) → P (walk_of s t)
  of-run st empty i P h e p = let f : tops.Empty ≡ tops.Run i = sym h.top ∙ e in cc
  of-run st (rooted j m run ls) i P h e p = let f : tops.Node j ≡ tops.Run i = sym h.top ∙ e in cc
  of-run st (flat j run) i P h e p =
      let n : j ≡ i = run-same j i (sym h.top ∙ e) in
      from-run (run_at a j) h.run (subst (λ m. IfSome (run_at a m) (λ r. P r.elems)) (sym n) p)
    where
      from-run : (o : Option RunState) → IsSomeAnd o (λ r. r.elems ≡ run) → IfSome o (λ r. P r.elems) → P run
      from-run None g q = absurd g
      from-run (Some r) g q = subst P g q

  -- the walk of an empty structure has no elements
  pub walk-empty : (st : Structure) (t : Tree) → IsStanding s a st t → st.top ≡ tops.Empty → walk_of s t ≡ []
  walk-empty st empty h e = refl
  walk-empty st (rooted j k run ls) h e = let f : tops.Node j ≡ tops.Empty = sym h.top ∙ e in cc
  walk-empty st (flat j run) h e = let f : tops.Run j ≡ tops.Empty = sym h.top ∙ e in cc
